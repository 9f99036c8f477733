-- What the benchmark times of the joiner, as numbers.
use Rattle.std.specs.Prelude.{not, List, ℕ, eqb, length}
use Rattle.galois.specs.Bounded.{count}
use Rattle.frames.specs.Fields.{settings_at}
use Rattle.aerials.specs.Parts.{bytes_of, join_of}

-- how many bytes the joiner lends for a slot
unfoldable pub joined_len : List ℕ → List ℕ → List ℕ → ℕ → ℕ
joined_len settings first second slot = length (bytes_of first second (join_of (settings_at 0 settings) first second slot))

-- how many of the first slots it lends a frame for
unfoldable pub heard_slots : List ℕ → List ℕ → List ℕ → ℕ → ℕ
heard_slots settings first second slots = count slots (λ slot. not (eqb (joined_len settings first second slot) 0))
