-- Which row becomes the pivot of a position, and what the position then does.
use mathlib.Core.Path.{◌≡◌, refl, subst, subst⁻¹}
use mathlib.Core.Bool.{Bool, true, false, not, ◌&&◌}
use mathlib.Core.Logic.{◌≢◌, ◌⊎◌, inl, inr, ⊎_elim}
use Prim.Native.Nat.{ℕ, zero, suc, ◌+◌, ◌≤◌, ◌<◌, zero-le}
use native.Mathlib.Nat.{eq-or-lt_of_le, le_refl}
use native.Mathlib.Omega.{arith}
use lib.Dec.{T, T_not, eqb}
use lib.ListN.{set}
use borrow.Author.Tests.{eq-eqb, eqb-true, lt-ltb}
use Rattle.galois.proofs.Cases.{and_left, and_right, both_pass}
use Rattle.elimination.specs.declared.reduced.Reduced.{Reduced}
use Rattle.elimination.specs.Elimination.{cell, free, pivot_from, cleared, pivoted, column_step}

-- ---- the row that becomes the pivot

-- row r is one of the m rows from a on, free, and not 0 at position p
pub record Found (x : Reduced) (p a m r : ℕ) : Type 0 where
  pub from : a ≤ r
  pub below : r < a + m
  pub is_free : T (free x.roles r)
  pub not_zero : cell x.rows r p ≢ 0

-- each of those rows that is free is 0 at position p
abbrev pub NoneFound : Reduced → ℕ → ℕ → ℕ → Type 0
NoneFound x p a m = (q : ℕ) → a ≤ q → q < a + m → T (free x.roles q) → cell x.rows q p ≡ 0

-- what a test of a flag and a difference says
pub test_equal : (f : Bool) (c d : ℕ) → (T (f && not (eqb c d)) → ⊥) → T f → c ≡ d
test_equal f c d never t = go (eqb c d) refl
  where
    go : (b : Bool) → eqb c d ≡ b → c ≡ d
    go true e = eqb-true c d e
    go false e = absurd (never (both_pass f (not (eqb c d)) t (subst⁻¹ (λ (b : Bool). T (not b)) e tt)))

pub test_differs : (f : Bool) (c d : ℕ) → T (f && not (eqb c d)) → c ≢ d
test_differs f c d t e = T_not (eqb c d) (and_right f (not (eqb c d)) t) (subst⁻¹ T (eq-eqb c d e) tt)

-- the search's answer r: such a row, or 16 where there is none
Searched : Reduced → ℕ → ℕ → ℕ → ℕ → Type 0
Searched x p a m r = Found x p a m r ⊎ ((r ≡ 16) × NoneFound x p a m)

-- one more row before those searched
searched_more : (x : Reduced) (p a m r : ℕ) (t : Bool)
    → free x.roles a && not (eqb (cell x.rows a p) 0) ≡ t → Searched x p (suc a) m r
    → Searched x p a (suc m) (elim t [ true ↦ a | false ↦ r ])
unfolding Searched
searched_more x p a m r true e later =
    let passed : T (free x.roles a && not (eqb (cell x.rows a p) 0)) = subst⁻¹ T e tt in
    inl (record {
      from = le_refl a;
      below = omega arith;
      is_free = and_left (free x.roles a) (not (eqb (cell x.rows a p) 0)) passed;
      not_zero = test_differs (free x.roles a) (cell x.rows a p) 0 passed;
    })
searched_more x p a m r false e later =
    ⊎_elim (λ found. inl (record {
      from = omega arith;
      below = omega arith;
      is_free = found.is_free;
      not_zero = found.not_zero;
    }))
    (λ none. inr (
      none.0,
      λ q low high f.
          ⊎_elim
          (λ same. subst (λ (q : ℕ). cell x.rows q p ≡ 0) same
          (test_equal (free x.roles a) (cell x.rows a p) 0 (λ t. subst T e t) (subst⁻¹ (λ (q : ℕ). T (free x.roles q)) same f)))
          (λ after. none.1 q after (omega arith) f)
          (eq-or-lt_of_le low),
    ))
    later

-- the search finds such a row, or says 16 where there is none
pub pivot_found : (x : Reduced) (p a m : ℕ)
    → Found x p a m (pivot_from x p a m) ⊎ ((pivot_from x p a m ≡ 16) × NoneFound x p a m)
unfolding pivot_from Searched
pivot_found x p a zero = inr (refl, λ q low high f. omega arith)
pivot_found x p a (suc m) =
    searched_more x p a m (pivot_from x p (suc a) m) (free x.roles a && not (eqb (cell x.rows a p) 0)) refl
    (pivot_found x p (suc a) m)

-- a row that is not 16 is one of those searched
pub pivot_below : (x : Reduced) (p k : ℕ) → pivot_from x p 0 k < 16 → pivot_from x p 0 k < k
pivot_below x p k h = ⊎_elim (λ at. omega (arith, at.below)) (λ never. omega (arith, never.0)) (pivot_found x p 0 k)

-- ---- one position

-- with a row below 16 the position is cleared by it; with 16 nothing changes
pivoted_row : (k : ℕ) (x : Reduced) (r p : ℕ) → r < 16
    → pivoted k x r p ≡ record { rows = cleared k x.rows r p; roles = set x.roles r p }
unfolding pivoted
pivoted_row k x r p hr = rw (lt-ltb r 16 hr, pivoted)

pivoted_none : (k : ℕ) (x : Reduced) (r p : ℕ) → r ≡ 16 → pivoted k x r p ≡ x
unfolding pivoted
pivoted_none k x r p e = rw (e, pivoted)

-- where a row can be the pivot of a known position, it clears the column and takes the role
pub pivot_step : (k p : ℕ) (x : Reduced) (b : Bool) → b ≡ true → pivot_from x p 0 k < 16
    → record { rows = cleared k x.rows (pivot_from x p 0 k) p; roles = set x.roles (pivot_from x p 0 k) p } ≡ column_step k b p x
unfolding column_step pivoted
pivot_step k p x b e h = rw (e, column_step, lt-ltb (pivot_from x p 0 k) 16 h, pivoted)

-- what holds of the matrix and its roles where the position is not known, where it has no pivot, and where it has one
pub step_cases : (P : Reduced → Type 0) (k : ℕ) (known : Bool) (p : ℕ) (x : Reduced) → k ≤ 16
    → ((T known → ⊥) → P x)
    → (T known → ((q : ℕ) → q < k → T (free x.roles q) → cell x.rows q p ≡ 0) → P x)
    → (T known → (r : ℕ) → r < k → T (free x.roles r) → cell x.rows r p ≢ 0
    → P (record { rows = cleared k x.rows r p; roles = set x.roles r p }))
    → P (column_step k known p x)
unfolding column_step
step_cases P k false p x hk unknown none found = unknown (λ t. t)
step_cases P k true p x hk unknown none found =
    ⊎_elim
    (λ at. let below : pivot_from x p 0 k < k = omega arith in
    subst⁻¹ P (pivoted_row k x (pivot_from x p 0 k) p (omega arith))
    (found tt (pivot_from x p 0 k) below at.is_free at.not_zero))
    (λ never. subst⁻¹ P (pivoted_none k x (pivot_from x p 0 k) p never.0)
    (none tt (λ q hq f. never.1 q zero-le (omega arith) f)))
    (pivot_found x p 0 k)
