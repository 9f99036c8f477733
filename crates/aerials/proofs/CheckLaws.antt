-- What the check of a pair answers, and its number.
use mathlib.Core.Path.{◌≡◌, refl}
use mathlib.Core.Bool.{Bool, true, false}
use mathlib.Core.Logic.{◌≢◌}
use mathlib.Core.List.{List, [], ◌∷◌, map}
use Prim.Native.Nat.{ℕ, suc}
use native.Mathlib.Omega.{arith}
use Rattle.std.specs.Prelude.{Ok, Err, is_ok}
use Rattle.code.specs.declared.settings.Settings.{Settings}
use Rattle.aerials.specs.declared.PairCause.{PairCause}
use Rattle.aerials.specs.declared.PairCause.TheVariants.{BadSettings, BadLength, OtherMark, OtherSettings, NotRising, Unlike}
use Rattle.aerials.specs.Tables.{numbered, or_else, first_number}
use Rattle.aerials.specs.Causes.{Check, pair_number, check_number, PairRow, refused_if, first_cause}
use Rattle.aerials.specs.Pair.{pair_rows, pair_cause, pair_check}

-- the number of a table's answer is that of its first row that holds
numbers : (rs : List PairRow) → check_number (first_cause rs) ≡ first_number (map (λ r. numbered r.holds (pair_number r.why)) rs)
numbers [] = refl
numbers (r ∷ rs) = go r.holds r.why (numbers rs)
  where
    go : (b : Bool) (c : PairCause) → check_number (first_cause rs) ≡ first_number (map (λ r'. numbered r'.holds (pair_number r'.why)) rs)
        → check_number (refused_if b c (first_cause rs))
        ≡ or_else b (pair_number c) (first_number (map (λ r'. numbered r'.holds (pair_number r'.why)) rs))
    go true c e = refl
    go false c e = e

-- of a pair
pub check_numbered : (s : Settings) (first second : List ℕ) → check_number (pair_check s first second) ≡ pair_cause s first second
unfolding pair_check pair_cause
check_numbered s first second = numbers (pair_rows s first second)

-- a cause's number is not 0, so that of an answer is 0 exactly where it is Ok
pub some_number : (c : PairCause) → (n : ℕ) × (pair_number c ≡ suc n)
some_number BadSettings = (0, refl)
some_number BadLength = (1, refl)
some_number OtherMark = (3, refl)
some_number OtherSettings = (4, refl)
some_number NotRising = (8, refl)
some_number Unlike = (9, refl)

pub number_of_ok : (a : Check) → is_ok a ≡ true → check_number a ≡ 0
number_of_ok (Ok nothing) e = refl
number_of_ok (Err c) e = absurd (cc)

pub number_of_err : (a : Check) → is_ok a ≡ false → check_number a ≢ 0
number_of_err (Ok nothing) e = absurd (cc)
number_of_err (Err c) e = λ z. let (n, is) = some_number c in absurd (omega arith)
