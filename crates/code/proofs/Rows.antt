-- The rows of the spread form: narrow, 0 at each zero point, and 1 on the diagonal.
use mathlib.Core.Path.{◌≡◌, refl, sym, ap, ap₂, ◌∙◌, subst⁻¹}
use mathlib.Core.Bool.{Bool, true, false}
use mathlib.Core.Logic.{◌≢◌, ⊎_elim}
use Prim.Native.Nat.{ℕ, zero, suc, ◌+◌, ◌-◌, ◌≤◌, ◌<◌}
use native.Mathlib.Nat.{eq-or-lt_of_le, le_of_suc-le-suc, not-suc-le-zero}
use native.Mathlib.Omega.{arith}
use lib.Dec.{ltb, lit<}
use borrow.Author.Tests.{ltb-true, ltb-false}
use Rattle.galois.specs.Narrow.{narrow, ◌⊞◌, times_bits, ◌⊠◌, narrow_quotient}
use Rattle.galois.proofs.Xor.{plus_cancel}
use Rattle.galois.proofs.Field.{quotient_below, quotient_times, zero_quotient, quotient_self}
use Rattle.galois.proofs.NarrowField.{narrows, narrow_plus, above_left, above_right}
use Rattle.code.specs.declared.settings.Settings.{Settings}
use Rattle.code.specs.Settings.{delay_of, k_of}
use Rattle.code.specs.Matrix.{point, factor, product, spread}
use Rattle.code.proofs.Shape.{Shape}
use Rattle.code.proofs.Products.{point_low, point_high}

-- ---- narrow operations on any numbers

-- what holds of 0, and of an operation on narrow numbers, holds of it on any numbers
guarded : (P : ℕ → Type 0) (a b r : ℕ) → P 0 → (a < 16 → b < 16 → P (narrow a b r)) → P (narrow a b r)
guarded P a b r z h = go (ltb a 16) (ltb b 16) refl refl
  where
    go : (p q : Bool) → ltb a 16 ≡ p → ltb b 16 ≡ q → P (narrow a b r)
    go true true ea eb = h (ltb-true a 16 ea) (ltb-true b 16 eb)
    go true false ea eb = subst⁻¹ P (above_right a b r (ltb-true a 16 ea) (ltb-false b 16 eb)) z
    go false q ea eb = subst⁻¹ P (above_left a b r (ltb-false a 16 ea)) z

-- a product is narrow
pub times_narrow : (a b : ℕ) → a ⊠ b < 16
unfolding ◌⊠◌
times_narrow a b = guarded (λ r. r < 16) a b (times_bits 4 a b) (lit< tt) (narrows.times_below a b)

-- and so is a sum
plus_narrow : (a b : ℕ) → a ⊞ b < 16
unfolding ◌⊞◌
plus_narrow a b = guarded (λ r. r < 16) a b _ (lit< tt) (narrows.plus_below a b)

-- a number and itself add to 0
plus_itself : (a : ℕ) → a ⊞ a ≡ 0
unfolding ◌⊞◌
plus_itself a = guarded (λ r. r ≡ 0) a a _ refl (λ ha _. narrows.plus_self a ha)

-- 0 times any number, and any number times 0
zero_times : (a : ℕ) → 0 ⊠ a ≡ 0
unfolding ◌⊠◌
zero_times a = guarded (λ r. r ≡ 0) 0 a (times_bits 4 0 a) refl (λ _ ha. narrows.zero_times a ha)

times_zero : (a : ℕ) → a ⊠ 0 ≡ 0
unfolding ◌⊠◌
times_zero a =
    guarded (λ r. r ≡ 0) a 0 (times_bits 4 a 0) refl
    (λ ha h. narrows.times_comm a 0 ha h ∙ narrows.zero_times a ha)

-- ---- the zero points

-- a zero point of row i is not i
pub point_beside : (N i m : ℕ) → 1 ≤ N → point N i m ≢ i
point_beside N i m h e = go (ltb m i) refl
  where
    go : (t : Bool) → ltb m i ≡ t → ⊥
    go true u = omega (arith, ltb-true m i u, point_low N i m (ltb-true m i u))
    go false u = omega (arith, ltb-false m i u, point_high N i m (ltb-false m i u))

-- it is at most m + N
pub point_le : (N i m : ℕ) → point N i m ≤ m + N
point_le N i m = go (ltb m i) refl
  where
    go : (t : Bool) → ltb m i ≡ t → point N i m ≤ m + N
    go true u = omega (arith, point_low N i m (ltb-true m i u))
    go false u = omega (arith, point_high N i m (ltb-false m i u))

-- ---- the factors

-- to divide is to multiply by 1 divided
pub factor_once : (i j p : ℕ) → (j ⊞ p) ⊠ narrow_quotient 1 (i ⊞ p) ≡ factor i j p
unfolding factor
factor_once i j p = sym (quotient_times narrows (j ⊞ p) (i ⊞ p) (plus_narrow j p) (plus_narrow i p))

-- it is narrow
pub factor_narrow : (i j p : ℕ) → factor i j p < 16
unfolding factor
factor_narrow i j p = quotient_below narrows (j ⊞ p) (i ⊞ p) (plus_narrow j p) (plus_narrow i p)

-- 0 at its point
factor_zero : (i j : ℕ) → factor i j j ≡ 0
unfolding factor
factor_zero i j = ap (λ (x : ℕ). narrow_quotient x (i ⊞ j)) (plus_itself j) ∙ zero_quotient narrows (i ⊞ j) (plus_narrow i j)

-- 1 at its row
factor_one : (i p : ℕ) → i < 16 → p < 16 → p ≢ i → factor i i p ≡ 1
unfolding factor
factor_one i p hi hp ne =
    quotient_self narrows (i ⊞ p) (plus_narrow i p)
    (λ e. ne (sym (plus_cancel i p (sym (narrow_plus i p hi hp) ∙ e))))

-- ---- the product

-- it is narrow
pub product_narrow : (N i j m : ℕ) → product N i j m < 16
unfolding product
product_narrow N i j zero = lit< tt
product_narrow N i j (suc m) = times_narrow (product N i j m) (factor i j (point N i m))

-- 0 at each of its zero points
pub product_zero : (N i j m q : ℕ) → q < m → point N i q ≡ j → product N i j m ≡ 0
unfolding product
product_zero N i j zero q h e = absurd (not-suc-le-zero h)
product_zero N i j (suc m) q h e =
    ⊎_elim
    (λ same.
    ap (λ (f : ℕ). product N i j m ⊠ f)
    (ap (factor i j) (ap (point N i) (sym same) ∙ e) ∙ factor_zero i j)
    ∙ times_zero (product N i j m))
    (λ below.
    ap (λ (p : ℕ). p ⊠ factor i j (point N i m)) (product_zero N i j m q below e)
    ∙ zero_times (factor i j (point N i m)))
    (eq-or-lt_of_le (le_of_suc-le-suc h))

-- 1 at its row, where the zero points are narrow
pub product_one : (N i m : ℕ) → 1 ≤ N → i < 16 → m + N ≤ 16 → product N i i m ≡ 1
unfolding product
product_one N i zero h_n hi h = refl
product_one N i (suc m) h_n hi h =
    ap₂ ◌⊠◌ (product_one N i m h_n hi (omega arith))
    (factor_one i (point N i m) hi (omega (arith, point_le N i m)) (point_beside N i m h_n))
    ∙ narrows.one_times 1 (lit< tt)

-- ---- the spread form

-- it is narrow
pub spread_narrow : (s : Settings) (i j : ℕ) → spread s i j < 16
unfolding spread
spread_narrow s i j = product_narrow s.scattered i j (delay_of s - s.scattered)

-- 0 below the diagonal
pub spread_zero_low : (s : Settings) (i j : ℕ) → i < k_of s → j < i → spread s i j ≡ 0
unfolding spread k_of
spread_zero_low s i j hi h =
    product_zero s.scattered i j (delay_of s - s.scattered) j (omega arith) (point_low s.scattered i j h)

-- 0 from N past the diagonal up to T
pub spread_zero_high : (s : Settings) (i j : ℕ) → i + s.scattered ≤ j → j < delay_of s → spread s i j ≡ 0
unfolding spread
spread_zero_high s i j low high =
    product_zero s.scattered i j (delay_of s - s.scattered) (j - s.scattered) (omega arith)
    (point_high s.scattered i (j - s.scattered) (omega arith) ∙ (omega arith))

-- 1 on the diagonal
pub spread_one : (s : Settings) → Shape s → (i : ℕ) → i < k_of s → spread s i i ≡ 1
unfolding spread
spread_one s h i hi =
    product_one s.scattered i (delay_of s - s.scattered) (omega arith) (omega arith) (omega arith)
