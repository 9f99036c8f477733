-- A recording in which slots rise, and where a slot's frame is in it; what the frames of a pair meet.
use Rattle.std.specs.Prelude.{Bool, true, false, List, ℕ, Option, Some, None, Ok}
use Rattle.std.specs.Coded.{Π_prop, le_prop}
use Rattle.code.specs.declared.settings.Settings.{Settings}
use Rattle.aerials.specs.declared.PairCause.TheVariants.{OtherMark, OtherSettings, NotRising}
use Rattle.aerials.specs.Causes.{Check, refused_if}
use Rattle.aerials.specs.Pair.{has}
use Rattle.aerials.specs.Parts.{below}
use Rattle.aerials.specs.Sound.{Rising}

-- that slots rise is known in one way
pub Rising-prop : (s : Settings) (recording : List ℕ) → IsProp (Rising s recording)
unfolding Rising
Rising-prop s recording = Π_prop λ i. Π_prop λ j. Π_prop λ h. Π_prop λ k. le_prop

-- the number of the slot's frame, where there is one: that behind the frames of lower slots
unfoldable pub place_in : Settings → List ℕ → ℕ → Option ℕ
place_in s recording slot = elim (has s recording slot) [ true ↦ Some (below s recording slot) | false ↦ None ]

-- the first of 4, 5 and 9 that some frame meets, if one does
abbrev pub frames_met : Bool → Bool → Bool → Check
frames_met mark settings falls = refused_if mark OtherMark (refused_if settings OtherSettings (refused_if falls NotRising (Ok tt)))
