-- What a search among the rows reads of them.
use mathlib.Core.Path.{◌≡◌, refl, ◌∙◌}
use mathlib.Core.Bool.{true, false}
use mathlib.Core.List.{List, [], ◌∷◌}
use mathlib.Core.Logic.{◌≢◌, ◌⊎◌}
use Prim.Native.Nat.{ℕ, zero, suc, ◌<◌}
use native.Mathlib.Nat.{not-suc-le-zero, le_of_suc-le-suc}
use lib.ListN.{length, get_or}
use borrow.Author.Tests.{eq-eqb, ne_eqb}
use Rattle.elimination.specs.declared.reduced.Reduced.{Reduced}
use Rattle.elimination.specs.Elimination.{cell, free}

-- inside a list the default does not matter
pub get_d_default : {A : Type 0} (l : List A) (i : ℕ) (d e : A) → i < length l → get_or l i d ≡ get_or l i e
get_d_default [] i d e h = absurd (not-suc-le-zero h)
get_d_default (x ∷ l) zero d e h = refl
get_d_default (x ∷ l) (suc i) d e h = get_d_default l i d e (le_of_suc-le-suc h)

-- row r is free and not 0 at position p; who has looked at it knows the number of roles as well
abbrev pub Fit : Reduced → ℕ → ℕ → Type 0
Fit x p r = (length x.roles ≡ 16) × (get_or x.roles r 0 ≡ 16) × (cell x.rows r p ≢ 0)

-- it is a pivot, or 0 there
abbrev pub Unfit : Reduced → ℕ → ℕ → Type 0
Unfit x p r = (length x.roles ≡ 16) × ((get_or x.roles r 0 ≢ 16) ⊎ (cell x.rows r p ≡ 0))

module _ (x : Reduced) (p r : ℕ) (inside : r < length x.roles) where
  -- a row whose role is 16 is free, and a row with another role is a pivot
  pub is_free : get_or x.roles r 0 ≡ 16 → free x.roles r ≡ true
  unfolding free
  is_free e = eq-eqb (get_or x.roles r 16) 16 (get_d_default x.roles r 16 0 inside ∙ e)

  pub is_pivot : (get_or x.roles r 0 ≡ 16 → ⊥) → free x.roles r ≡ false
  unfolding free
  is_pivot ne = ne_eqb (get_or x.roles r 16) 16 (λ e. ne (get_d_default x.roles r 0 16 inside ∙ e))
