-- The bytes are a field: every byte but 0 has its reciprocal.
use mathlib.Core.Path.{◌≡◌, refl, sym, ap, ◌∙◌, subst, subst⁻¹}
use mathlib.Core.Bool.{Bool, true, false}
use mathlib.Core.Logic.{◌≢◌, ⊎_elim}
use Prim.Native.Nat.{ℕ, zero, suc, ◌+◌, ◌<◌, ◌≤◌, zero-le}
use native.Mathlib.Nat.{add-zero, eq-or-lt_of_le, not-le_of_lt}
use native.Mathlib.Omega.{arith}
use lib.Arith.{digits_lt}
use lib.Dec.{T, eqb, eqb→eq, lit<, lit≤}
use Rattle.galois.specs.Reciprocal.{Reciprocal, none, element, divided_by}
use Rattle.galois.specs.Byte.{◌⊕◌, ◌⊗◌, high, low, byte, eight, first, reciprocal, quotient}
use Rattle.galois.specs.Narrow.{◌⊞◌, ◌⊠◌, narrow_quotient}
use Rattle.galois.proofs.Arithmetic.{arithmetic}
use Rattle.galois.proofs.Cases.{equal_but_zero}
use Rattle.galois.proofs.Field.{Field, quotient_below}
use Rattle.galois.proofs.ByteProduct.{times_below, times_comm, times_assoc, zero_times, times_zero, one_times}
use Rattle.galois.proofs.ByteProduct.{distributes, high_below, low_below, high_low, low_low, eight_high}
use Rattle.galois.proofs.NarrowField.{narrows}
use Rattle.galois.proofs.Xor.{plus_below, plus_comm, plus_assoc, plus_self, zero_plus}

-- ---- the search

-- what a search answers is none, or a number below b that passes the test
Passes : (ℕ → Bool) → ℕ → Reciprocal → Type 0
Passes f b none = Unit {0}
Passes f b (element y) = (y < b) × T (f y)

-- and it is not none
Some : Reciprocal → Type 0
Some none = ⊥
Some (element y) = Unit {0}

-- one step of a search keeps either
step_passes : (f : ℕ → Bool) (b a : ℕ) (r : Reciprocal) (t : Bool) → f a ≡ t → a < b → Passes f b r
    → Passes f b (elim t [ true ↦ element a | false ↦ r ])
unfolding Passes
step_passes f b a r true e h rest = (h, subst⁻¹ T e tt)
step_passes f b a r false e h rest = rest

step_some : (a : ℕ) (r : Reciprocal) (t : Bool) → (t ≡ false → Some r) → Some (elim t [ true ↦ element a | false ↦ r ])
unfolding Some
step_some a r true rest = tt
step_some a r false rest = rest refl

-- so the whole of it answers none, or a number that passes
first_passes : (f : ℕ → Bool) (b a m : ℕ) → a + m ≤ b → Passes f b (first f a m)
unfolding first Passes
first_passes f b a zero h = tt
first_passes f b a (suc m) h =
    step_passes f b a (first f (suc a) m) (f a) refl (omega arith) (first_passes f b (suc a) m (omega arith))

-- and not none, if a number in its range passes
first_some : (f : ℕ → Bool) (a m z : ℕ) → a ≤ z → z < a + m → T (f z) → Some (first f a m)
unfolding first
first_some f a zero z low high t = absurd (not-le_of_lt (subst (λ (e : ℕ). z < e) (add-zero a) high) low)
first_some f a (suc m) z low high t =
    step_some a (first f (suc a) m) (f a)
    (λ no. first_some f (suc a) m z
    (⊎_elim (λ same. absurd (subst T (ap f (sym same) ∙ no) t)) (λ past. past) (eq-or-lt_of_le low))
    (omega arith) t)

-- the reciprocal of x is none, or a byte that brings x to 1
reciprocal_passes : (x : ℕ) → Passes (λ y. eqb (x ⊗ y) 1) 256 (reciprocal x)
unfolding reciprocal
reciprocal_passes x = first_passes (λ y. eqb (x ⊗ y) 1) 256 0 256 (lit≤ tt)

-- ---- every byte but 0 has a reciprocal: (hα + l)(hα + h + l) = 8hh + hl + ll is narrow, and so has one

norm : ℕ → ℕ
norm x = eight ⊠ (high x ⊠ high x) ⊞ high x ⊠ low x ⊞ low x ⊠ low x

inverse : ℕ → ℕ
inverse x = byte (narrow_quotient (high x) (norm x)) (narrow_quotient (high x ⊞ low x) (norm x))

inverse_times : (x : ℕ) → x < 256 → x ≢ 0 → x ⊗ inverse x ≡ 1
unfolding arithmetic inverse norm
inverse_times = equal_but_zero 255 (λ x. x ⊗ inverse x) (λ x. 1) tt

norm_below : (x : ℕ) → norm x < 16
unfolding norm
norm_below x =
    narrows.plus_below (eight ⊠ (high x ⊠ high x) ⊞ high x ⊠ low x) (low x ⊠ low x)
    (narrows.plus_below (eight ⊠ (high x ⊠ high x)) (high x ⊠ low x) (eight_high x x) (high_low x x)) (low_low x x)

inverse_below : (x : ℕ) → inverse x < 256
unfolding inverse byte
inverse_below x =
    digits_lt (quotient_below narrows (high x) (norm x) (high_below x) (norm_below x))
    (quotient_below narrows (high x ⊞ low x) (norm x)
    (narrows.plus_below (high x) (low x) (high_below x) (low_below x)) (norm_below x))

found : (x : ℕ) → x < 256 → x ≢ 0 → (y : ℕ) × (reciprocal x ≡ element y) × (y < 256) × (x ⊗ y ≡ 1)
unfolding reciprocal Passes Some
found x h ne =
    go (reciprocal x) refl (reciprocal_passes x)
    (first_some (λ y. eqb (x ⊗ y) 1) 0 256 (inverse x) zero-le (inverse_below x)
    (subst⁻¹ (λ (p : ℕ). T (eqb p 1)) (inverse_times x h ne) tt))
  where
    go : (r : Reciprocal) → reciprocal x ≡ r → Passes (λ y. eqb (x ⊗ y) 1) 256 r → Some r
        → (y : ℕ) × (reciprocal x ≡ element y) × (y < 256) × (x ⊗ y ≡ 1)
    go none e passes some = absurd some
    go (element y) e passes some = (y, e, passes.0, eqb→eq (x ⊗ y) 1 passes.1)

-- 0 has none
none_of_zero : reciprocal 0 ≡ none
unfolding Passes
none_of_zero = go (reciprocal 0) (reciprocal_passes 0)
  where
    go : (r : Reciprocal) → Passes (λ y. eqb (0 ⊗ y) 1) 256 r → r ≡ none
    go none passes = refl
    go (element y) passes = absurd (subst (λ (p : ℕ). T (eqb p 1)) (zero_times y) passes.1)

-- to divide is to multiply by 1 divided, whatever the numbers
pub quotient_times : (x y : ℕ) → quotient x y ≡ x ⊗ quotient 1 y
unfolding quotient divided_by Passes
quotient_times x y = go (reciprocal y) (reciprocal_passes y)
  where
    go : (r : Reciprocal) → Passes (λ z. eqb (y ⊗ z) 1) 256 r → divided_by ◌⊗◌ x r ≡ x ⊗ divided_by ◌⊗◌ 1 r
    go none passes = sym (times_zero x)
    go (element r) passes = ap (λ (z : ℕ). x ⊗ z) (sym (one_times r passes.0))

pub bytes : Field 256 ◌⊕◌ ◌⊗◌ reciprocal quotient
unfolding quotient
bytes = record {
  one_below = lit< tt;
  plus_below = plus_below 8;
  plus_comm = λ x y _ _. plus_comm x y;
  plus_assoc = λ x y z _ _ _. plus_assoc x y z;
  zero_plus = λ x _. zero_plus x;
  plus_self = λ x _. plus_self x;
  times_below = λ x y _ _. times_below x y;
  times_comm = λ x y _ _. times_comm x y;
  times_assoc = λ x y z _ _ _. times_assoc x y z;
  zero_times = λ x _. zero_times x;
  one_times = one_times;
  distributes = λ x y z _ _ _. distributes x y z;
  none_of_zero = none_of_zero;
  has_reciprocal = found;
  divides = λ x y. refl;
}
