-- The check of a pair by its tests: what the frames meet stands between the tests before them and the one after.
use mathlib.Core.Path.{◌≡◌, refl, sym}
use mathlib.Core.Bool.{Bool, true, false, ◌||◌}
use mathlib.Core.List.{List}
use Prim.Native.Nat.{ℕ}
use Rattle.std.specs.Prelude.{Ok, Err}
use Rattle.code.specs.declared.settings.Settings.{Settings}
use Rattle.code.specs.Settings.{accepted}
use Rattle.aerials.specs.declared.PairCause.{PairCause}
use Rattle.aerials.specs.declared.PairCause.TheVariants.{BadSettings, BadLength, OtherMark, OtherSettings, NotRising, Unlike}
use Rattle.aerials.specs.Causes.{Check, refused_if}
use Rattle.aerials.specs.Pair.{unfit, other_mark, other_settings, falling, unlike, pair_check}
use Rattle.joiner.specs.Places.{frames_met}

-- 4, 5 and 9, and what comes after them
abbrev three : Bool → Bool → Bool → Check → Check
three mark settings falls rest = refused_if mark OtherMark (refused_if settings OtherSettings (refused_if falls NotRising rest))

-- one of them holds, whatever comes after
some_of_three : (mark settings falls : Bool) (rest : Check) (c : PairCause) → frames_met mark settings falls ≡ Err c
    → three mark settings falls rest ≡ Err c
some_of_three true settings falls rest c e = e
some_of_three false true falls rest c e = e
some_of_three false false true rest c e = e
some_of_three false false false rest c e = absurd (cc)

-- or none does
none_of_three : (mark settings falls : Bool) → frames_met mark settings falls ≡ Ok tt
    → (mark ≡ false) × (settings ≡ false) × (falls ≡ false)
none_of_three true settings falls e = absurd (cc)
none_of_three false true falls e = absurd (cc)
none_of_three false false true e = absurd (cc)
none_of_three false false false e = (refl, refl, refl)

module _ (s : Settings) (x y : List ℕ) where
  -- what the frames of both meet
  abbrev pub met : Check
  met = frames_met (other_mark s x || other_mark s y) (other_settings s x || other_settings s y) (falling s x || falling s y)

  pub by_settings : accepted s ≡ false → Err BadSettings ≡ pair_check s x y
  unfolding pair_check
  by_settings refused = rw refused

  module _ (settled : accepted s ≡ true) where
    pub by_lengths : unfit s x || unfit s y ≡ true → Err BadLength ≡ pair_check s x y
    unfolding pair_check
    by_lengths long = rw (settled, long)

    module _ (fit : unfit s x || unfit s y ≡ false) where
      pub by_frames : (c : PairCause) → met ≡ Err c → Err c ≡ pair_check s x y
      unfolding pair_check
      by_frames c e =
          rw (settled, fit)
          (sym
          (some_of_three (other_mark s x || other_mark s y) (other_settings s x || other_settings s y) (falling s x || falling s y) _ c e))

      -- where no frame meets one, slots rise
      module _ (none : met ≡ Ok tt) where
        pub clear : (other_mark s x || other_mark s y ≡ false) × (other_settings s x || other_settings s y ≡ false)
            × (falling s x || falling s y ≡ false)
        clear =
            none_of_three (other_mark s x || other_mark s y) (other_settings s x || other_settings s y) (falling s x || falling s y) none

        pub by_overlap : (b : Bool) → unlike s x y ≡ b → refused_if b Unlike (Ok tt) ≡ pair_check s x y
        unfolding pair_check
        by_overlap b e = let (marks, settings, slots) = clear in rw (settled, fit, marks, settings, slots, e)
