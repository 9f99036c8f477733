-- Grades: the worse of two is that of both, and that of all symbols gives the verdict.
use mathlib.Core.Path.{◌≡◌, refl}
use mathlib.Core.Bool.{Bool, true, false, ◌||◌}
use mathlib.Core.List.{List}
use Prim.Native.Nat.{ℕ, ◌+◌}
use native.Mathlib.Numerals.{add-one}
use Rattle.std.specs.Prelude.{Ok}
use Rattle.std.specs.Ordering.{ord_max}
use Rattle.galois.specs.Bounded.{any}
use Rattle.code.specs.declared.settings.Settings.{Settings}
use Rattle.code.specs.Settings.{k_of}
use Rattle.elimination.specs.declared.grade.Grade.{Grade}
use Rattle.elimination.specs.declared.grade.Grade.TheVariants as grade
use Rattle.elimination.specs.contracts.grade.GradeOrd.TheImpl.{cmp-value}
use Rattle.protocol.specs.declared.Told.{Told}
use Rattle.protocol.specs.declared.Told.TheVariants as told
use Rattle.protocol.specs.Verdict.{symbol_said, is_clash, is_lost, some_codeword, by_tests, none_fits, two_differ, verdict}
use Rattle.symbols.specs.Decision.{grade, lanes_grade, symbols_grade}

-- the worse of two grades
abbrev pub worse : Grade → Grade → Grade
worse grade.Whole b = b
worse grade.Lost grade.Whole = grade.Lost
worse grade.Lost grade.Lost = grade.Lost
worse grade.Lost grade.Clash = grade.Clash
worse grade.Clash b = grade.Clash

-- which is the larger one in their order
pub max_worse : (a b : Grade) → ord_max cmp-value.it a b ≡ worse a b
max_worse grade.Whole grade.Whole = refl
max_worse grade.Whole grade.Lost = refl
max_worse grade.Whole grade.Clash = refl
max_worse grade.Lost grade.Whole = refl
max_worse grade.Lost grade.Lost = refl
max_worse grade.Lost grade.Clash = refl
max_worse grade.Clash grade.Whole = refl
max_worse grade.Clash grade.Lost = refl
max_worse grade.Clash grade.Clash = refl

both_grades : (c l c₂ l₂ : Bool) → worse (grade c l) (grade c₂ l₂) ≡ grade (c || c₂) (l || l₂)
unfolding grade
both_grades true l c₂ l₂ = refl
both_grades false true true l₂ = refl
both_grades false true false true = refl
both_grades false true false false = refl
both_grades false false true l₂ = refl
both_grades false false false l₂ = refl

-- it is whole only where both are
pub worse_whole : (a b : Grade) → worse a b ≡ grade.Whole → (a ≡ grade.Whole) × (b ≡ grade.Whole)
worse_whole grade.Whole b e = (refl, e)
worse_whole grade.Lost grade.Whole e = absurd cc
worse_whole grade.Lost grade.Lost e = absurd cc
worse_whole grade.Lost grade.Clash e = absurd cc
worse_whole grade.Clash b e = absurd cc

pub symbols_more : (s : Settings) (rows : List ℕ) (due t i : ℕ)
    → worse (symbols_grade s rows due t i) (lanes_grade s rows due t i) ≡ symbols_grade s rows due t (i + 1)
unfolding symbols_grade lanes_grade any
symbols_more s rows due t i =
    let clash : ℕ → Bool = λ i. any s.lanes (λ v. is_clash (symbol_said s rows due t i v)) in
    let lost : ℕ → Bool = λ i. any s.lanes (λ v. is_lost (symbol_said s rows due t i v)) in
    rw (add-one i) (both_grades (any i clash) (any i lost) (clash i) (lost i))

-- ---- the grade of all symbols gives the verdict

-- what is told by a grade
abbrev pub told_by : Grade → Told
told_by grade.Whole = told.Whole
told_by grade.Lost = told.Lost
told_by grade.Clash = told.Clash

by_grade : (c l : Bool) → Ok (told_by (grade c l)) ≡ by_tests c l
unfolding grade
by_grade true l = refl
by_grade false true = refl
by_grade false false = refl

pub verdict_graded : (s : Settings) (rows : List ℕ) (due t : ℕ) → Ok (told_by (symbols_grade s rows due t (k_of s))) ≡ verdict s rows due t
unfolding symbols_grade verdict none_fits two_differ some_codeword
verdict_graded s rows due t = by_grade (none_fits s rows due t) (two_differ s rows due t)
