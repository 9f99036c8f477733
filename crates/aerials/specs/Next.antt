-- The next slot, from a slot on, that an accepted pair has.
use Rattle.std.specs.Prelude.{true, false, List, ℕ, ltb, Option, Some, None}
use Rattle.code.specs.declared.settings.Settings.{Settings}
use Rattle.aerials.specs.Pair.{frames_in, slot_of}
use Rattle.aerials.specs.Parts.{below}

-- of a recording: that of the frame behind those of lower slots
unfoldable pub next_in : Settings → List ℕ → ℕ → Option ℕ
next_in s recording slot =
    elim (ltb (below s recording slot) (frames_in s recording)) [
      | true ↦ Some (slot_of s recording (below s recording slot))
      | false ↦ None
    ]

-- the earlier of two
unfoldable pub earlier : Option ℕ → Option ℕ → Option ℕ
earlier None b = b
earlier (Some x) None = Some x
earlier (Some x) (Some y) = elim (ltb y x) [ true ↦ Some y | false ↦ Some x ]

-- of a pair
unfoldable pub next_of : Settings → List ℕ → List ℕ → ℕ → Option ℕ
next_of s first second slot = earlier (next_in s first slot) (next_in s second slot)
