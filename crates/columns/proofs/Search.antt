-- The search for a pivot: the first row that can be one.
use mathlib.Core.Path.{◌≡◌, refl, ◌∙◌, subst⁻¹}
use mathlib.Core.Bool.{and-false}
use mathlib.Core.Logic.{⊎_elim}
use Prim.Native.Nat.{ℕ, zero, suc, ◌+◌, ◌≤◌, ◌<◌}
use native.Mathlib.Nat.{eq-or-lt_of_le, le_refl}
use native.Mathlib.Omega.{arith}
use borrow.Author.Tests.{eq-eqb, ne_eqb}
use Rattle.std.specs.Prelude.{Option, None, Some, MatchOption}
use Rattle.elimination.specs.declared.reduced.Reduced.{Reduced}
use Rattle.elimination.specs.Elimination.{free, cell, pivot_from}
use Rattle.elimination.proofs.PivotSearch.{Fit, Unfit, is_free, is_pivot}

module _ (x : Reduced) (p : ℕ) where
  -- a row that can be the pivot ends the search
  pivot_here : (r m : ℕ) → r < 16 → Fit x p r → pivot_from x p r (suc m) ≡ r
  unfolding pivot_from
  pivot_here r m few fit =
      rw (is_free x p r (omega (arith, fit.0)) fit.1, ne_eqb (cell x.rows r p) 0 fit.2, pivot_from)

  -- and one that cannot is passed over
  pivot_past : (r m : ℕ) → r < 16 → Unfit x p r → pivot_from x p r (suc m) ≡ pivot_from x p (suc r) m
  unfolding pivot_from
  pivot_past r m few unfit =
      ⊎_elim (λ taken. rw (is_pivot x p r (omega (arith, unfit.0)) taken, pivot_from))
      (λ nought. rw (eq-eqb (cell x.rows r p) 0 nought, and-false (free x.roles r), pivot_from)) unfit.1

  -- where none of the m rows from a on can be
  search_none : (m a : ℕ) → a + m ≤ 16 → ((q : ℕ) → a ≤ q → q < a + m → Unfit x p q) → pivot_from x p a m ≡ 16
  unfolding pivot_from
  search_none zero a few none = refl
  search_none (suc m) a few none =
      pivot_past a m (omega arith) (none a (le_refl a) (omega arith))
      ∙ search_none m (suc a) (omega arith) (λ q from below. none q (omega arith) (omega arith))

  -- and where row r is the first that can
  search_first : (m a r : ℕ) → a + m ≤ 16 → a ≤ r → r < a + m → Fit x p r → ((q : ℕ) → a ≤ q → q < r → Unfit x p q)
      → pivot_from x p a m ≡ r
  search_first zero a r few from below fit none = absurd (omega arith)
  search_first (suc m) a r few from below fit none =
      ⊎_elim (λ same. pivot_here a m (omega arith) (subst⁻¹ (Fit x p) same fit) ∙ same)
      (λ later.
      pivot_past a m (omega arith) (none a (le_refl a) later)
      ∙ search_first m (suc a) r (omega arith) later (omega arith) fit (λ q past before. none q (omega arith) before))
      (eq-or-lt_of_le from)

  -- what is found among the rows below k
  pub first_found : (k : ℕ) → k ≤ 16 → (found : Option ℕ)
      → MatchOption found ((q : ℕ) → 0 ≤ q → q < k → Unfit x p q)
      (λ r. (0 ≤ r) × (r < k) × Fit x p r × ((q : ℕ) → 0 ≤ q → q < r → Unfit x p q))
      → MatchOption found (pivot_from x p 0 k ≡ 16) (λ r. (r < k) × (pivot_from x p 0 k ≡ r))
  first_found k few None none = search_none k 0 (omega arith) (λ q from below. none q from (omega arith))
  first_found k few (Some r) (from, below, fit, none) =
      (below, search_first k 0 r (omega arith) from (omega arith) fit none)
