-- Where the symbols of a codeword stand in the receiver's rows, and which of its positions are known.
use Rattle.std.specs.Prelude.{◌≡◌, cond, ◌&&◌, List, ℕ, ◌+◌, ◌*◌, ◌<◌, T, eqb, ltb, length, get_or}
use Rattle.galois.specs.Table.{table}
use Rattle.code.specs.declared.settings.Settings.{Settings}
use Rattle.code.specs.Settings.{accepted, k_of, n_of}
use Rattle.protocol.specs.Lengths.{receiver_len}
use Rattle.protocol.specs.Verdict.{row_at}

-- what a decision on message t asks: accepted settings, rows of their length, and a slot of 32 bits
pub record Ready (s : Settings) (rows : List ℕ) (t : ℕ) : Type 0 where
  pub settings : T (accepted s)
  pub rows_exact : length rows ≡ receiver_len s
  pub slot_fits : t < 4294967296

-- where the symbols of the positions below m of the codewords that start at slot t - i stand, and 0 from m on
unfoldable pub places_to : Settings → ℕ → ℕ → ℕ → List ℕ
places_to s t i m = table 16 (λ p. cond (ltb p m) (row_at s t i p + (1 + p * s.lanes)) 0)

-- those of all positions of the word
unfoldable pub places_of : Settings → ℕ → ℕ → List ℕ
places_of s t i = places_to s t i (n_of s)

-- 1 if a slot is below end and its row begins with 1, else 0
unfoldable pub known_flag : List ℕ → ℕ → ℕ → ℕ → ℕ
known_flag rows end slot start = cond (ltb slot end && eqb (get_or rows start 0) 1) 1 0

-- the flags of their positions, of which the first is that of slot t, and 0 outside the word
unfoldable pub flags_of : Settings → List ℕ → ℕ → ℕ → ℕ → List ℕ
flags_of s rows end t i = table 16 (λ p. cond (ltb p (n_of s)) (known_flag rows end (t + p) (row_at s t i p)) 0)

-- flags at the parity positions, and 0 at all others
unfoldable pub parity_flags : Settings → List ℕ → List ℕ
parity_flags s flags = table 16 (λ q. cond (ltb q (n_of s)) (cond (ltb q (k_of s)) 0 (get_or flags q 0)) 0)
