-- The cases of an answer.
use mathlib.Core.Path.{◌≡◌}
use mathlib.Core.Bool.{true, false}
use mathlib.Core.List.{List}
use Prim.Native.Nat.{ℕ}
use Rattle.code.specs.declared.settings.Settings.{Settings}
use Rattle.elimination.specs.declared.grade.Grade.{Grade}
use Rattle.elimination.specs.declared.grade.Grade.TheVariants.{Whole, Lost, Clash}
use Rattle.elimination.specs.declared.reduced.Reduced.{Reduced}
use Rattle.elimination.specs.Elimination.{differs}
use Rattle.lanes.specs.Lanes.{Answer, combined_lanes, lanes_clash, lanes_said}

-- a grade, and the L bytes with it
abbrev pub answers : Grade → List ℕ → Answer
answers grade symbol = record { grade = grade; symbol = symbol }

module _ (s : Settings) (x : Reduced) (flags places bytes : List ℕ) (i : ℕ) (out : List ℕ) where
  pub said_clash : lanes_clash s x flags places bytes ≡ true → answers Clash out ≡ lanes_said s x flags places bytes i out
  unfolding lanes_said
  said_clash c = rw (c, lanes_said)

  module _ (clear : lanes_clash s x flags places bytes ≡ false) where
    pub said_lost : differs s x i ≡ true → answers Lost out ≡ lanes_said s x flags places bytes i out
    unfolding lanes_said
    said_lost d = rw (clear, d, lanes_said)

    pub said_whole : differs s x i ≡ false → answers Whole (combined_lanes s x places bytes i) ≡ lanes_said s x flags places bytes i out
    unfolding lanes_said
    said_whole d = rw (clear, d, lanes_said)
