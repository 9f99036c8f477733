-- The laws of the product of bytes. It is additive in each argument by the narrow laws, so that a law needs only its cases at
-- powers of two. All but `one_times` hold of any number, which counts as its remainder by 256.
use mathlib.Core.Path.{◌≡◌, refl, sym, ap, ap₂, ◌∙◌, subst, subst⁻¹}
use mathlib.Core.Logic.{⊎_elim}
use Prim.Native.Nat.{ℕ, zero, suc, ◌+◌, ◌-◌, ◌/◌, ◌%◌, ◌^◌, ◌<◌}
use native.Mathlib.Nat.{mod-lt, zero-lt-suc}
use native.Mathlib.Omega.{arith}
use lib.Bits.{xor_shr, xor_mod, xor_block}
use lib.Arith.{digits_lt}
use lib.Dec.{lit<, ltb, ltb→lt}
use Rattle.galois.specs.Narrow.{◌⊞◌, ◌⊠◌}
use Rattle.galois.specs.Byte.{◌⊕◌, ◌⊗◌, high, low, byte, eight}
use Rattle.galois.specs.Bounded.{every}
use Rattle.galois.proofs.Arithmetic.{arithmetic}
use Rattle.galois.proofs.Cases.{at, equal, equal₂, le_or_lt}
use Rattle.galois.proofs.NarrowField.{narrows, narrow_plus}
use Rattle.galois.proofs.Xor.{plus_comm, plus_below, Additive, additive_zero, additive_plus, additive_after, additive_equal}

-- ---- the halves of a byte

pub high_below : (x : ℕ) → high x < 16
unfolding high
high_below x = mod-lt (x / 16) (zero-lt-suc 15)

pub low_below : (x : ℕ) → low x < 16
unfolding low
low_below x = mod-lt x (zero-lt-suc 15)

high_additive : Additive high
unfolding high ◌⊕◌
high_additive x y = ap (λ (q : ℕ). q % 16) (xor_shr x y 4) ∙ xor_mod (x / 16) (y / 16) 4

low_additive : Additive low
unfolding low ◌⊕◌
low_additive x y = xor_mod x y 4

byte_additive : (h g l m : ℕ) → l < 16 → m < 16 → byte (h ⊕ g) (l ⊕ m) ≡ byte h l ⊕ byte g m
unfolding byte ◌⊕◌
byte_additive h g l m hl hm = sym (xor_block 4 h g l m hl hm)

-- ---- the product, half by half

narrow_times : (a b : ℕ) → a < 16 → b < 16 → a ⊠ b < 16
narrow_times = narrows.times_below

-- a narrow multiple of an additive function of narrow values is additive
multiple_additive : (a : ℕ) → a < 16 → (f : ℕ → ℕ) → ((x : ℕ) → f x < 16) → Additive f → Additive (λ x. a ⊠ f x)
multiple_additive a ha f below add x y =
    ap (λ (s : ℕ). a ⊠ s) (add x y ∙ sym (narrow_plus (f x) (f y) (below x) (below y)))
    ∙ narrows.distributes a (f x) (f y) ha (below x) (below y)
    ∙ narrow_plus (a ⊠ f x) (a ⊠ f y) (narrow_times a (f x) ha (below x)) (narrow_times a (f y) ha (below y))

pub eight_below : eight < 16
unfolding eight
eight_below = lit< tt

-- what stands before α in x ⊗ y, and what stands beside it
top_of : ℕ → ℕ → ℕ
top_of x y = high x ⊠ high y ⊕ (high x ⊠ low y ⊕ low x ⊠ high y)

rest_of : ℕ → ℕ → ℕ
rest_of x y = eight ⊠ (high x ⊠ high y) ⊕ low x ⊠ low y

module _ (x y : ℕ) where
  pub high_high : high x ⊠ high y < 16
  high_high = narrow_times (high x) (high y) (high_below x) (high_below y)

  pub high_low : high x ⊠ low y < 16
  high_low = narrow_times (high x) (low y) (high_below x) (low_below y)

  pub low_high : low x ⊠ high y < 16
  low_high = narrow_times (low x) (high y) (low_below x) (high_below y)

  pub low_low : low x ⊠ low y < 16
  low_low = narrow_times (low x) (low y) (low_below x) (low_below y)

  pub eight_high : eight ⊠ (high x ⊠ high y) < 16
  eight_high = narrow_times eight (high x ⊠ high y) eight_below high_high

  top_below : top_of x y < 16
  unfolding top_of
  top_below =
      plus_below 4 (high x ⊠ high y) (high x ⊠ low y ⊕ low x ⊠ high y) high_high
      (plus_below 4 (high x ⊠ low y) (low x ⊠ high y) high_low low_high)

  rest_below : rest_of x y < 16
  unfolding rest_of
  rest_below = plus_below 4 (eight ⊠ (high x ⊠ high y)) (low x ⊠ low y) eight_high low_low

  times_halves : x ⊗ y ≡ byte (top_of x y) (rest_of x y)
  unfolding ◌⊗◌ top_of rest_of
  times_halves =
      ap₂ byte
      (narrow_plus (high x ⊠ high y) (high x ⊠ low y ⊞ low x ⊠ high y) high_high
      (narrows.plus_below (high x ⊠ low y) (low x ⊠ high y) high_low low_high)
      ∙ ap (λ (s : ℕ). high x ⊠ high y ⊕ s) (narrow_plus (high x ⊠ low y) (low x ⊠ high y) high_low low_high))
      (narrow_plus (eight ⊠ (high x ⊠ high y)) (low x ⊠ low y) eight_high low_low)

top_additive : (x : ℕ) → Additive (top_of x)
unfolding top_of
top_additive x =
    additive_plus (λ y. high x ⊠ high y) (λ y. high x ⊠ low y ⊕ low x ⊠ high y)
    (multiple_additive (high x) (high_below x) high high_below high_additive)
    (additive_plus (λ y. high x ⊠ low y) (λ y. low x ⊠ high y)
    (multiple_additive (high x) (high_below x) low low_below low_additive)
    (multiple_additive (low x) (low_below x) high high_below high_additive))

rest_additive : (x : ℕ) → Additive (rest_of x)
unfolding rest_of
rest_additive x =
    additive_plus (λ y. eight ⊠ (high x ⊠ high y)) (λ y. low x ⊠ low y)
    (multiple_additive eight eight_below (λ y. high x ⊠ high y) (high_high x)
    (multiple_additive (high x) (high_below x) high high_below high_additive))
    (multiple_additive (low x) (low_below x) low low_below low_additive)

-- ---- the laws of the product

pub times_below : (x y : ℕ) → x ⊗ y < 256
unfolding byte
times_below x y = subst⁻¹ (λ (p : ℕ). p < 256) (times_halves x y) (digits_lt (top_below x y) (rest_below x y))

pub distributes : (x : ℕ) → Additive (λ y. x ⊗ y)
distributes x y z =
    times_halves x (y ⊕ z) ∙ ap₂ byte (top_additive x y z) (rest_additive x y z)
    ∙ byte_additive (top_of x y) (top_of x z) (rest_of x y) (rest_of x z) (rest_below x y) (rest_below x z)
    ∙ sym (ap₂ ◌⊕◌ (times_halves x y) (times_halves x z))

pub times_comm : (x y : ℕ) → x ⊗ y ≡ y ⊗ x
unfolding top_of rest_of
times_comm x y =
    let comm = narrows.times_comm in
    times_halves x y
    ∙ ap₂ byte
    (ap₂ ◌⊕◌ (comm (high x) (high y) (high_below x) (high_below y))
    (ap₂ ◌⊕◌ (comm (high x) (low y) (high_below x) (low_below y)) (comm (low x) (high y) (low_below x) (high_below y))
    ∙ plus_comm (low y ⊠ high x) (high y ⊠ low x)))
    (ap₂ ◌⊕◌ (ap (λ (p : ℕ). eight ⊠ p) (comm (high x) (high y) (high_below x) (high_below y)))
    (comm (low x) (low y) (low_below x) (low_below y)))
    ∙ sym (times_halves y x)

pub distributes_left : (y : ℕ) → Additive (λ x. x ⊗ y)
distributes_left y x z =
    times_comm (x ⊕ z) y ∙ distributes y x z ∙ ap₂ ◌⊕◌ (times_comm y x) (times_comm y z)

pub times_zero : (x : ℕ) → x ⊗ 0 ≡ 0
times_zero x = additive_zero (λ y. x ⊗ y) (distributes x)

pub zero_times : (x : ℕ) → 0 ⊗ x ≡ 0
zero_times x = additive_zero (λ y. y ⊗ x) (distributes_left x)

pub one_times : (x : ℕ) → x < 256 → 1 ⊗ x ≡ x
unfolding arithmetic
one_times = additive_equal (λ x. 1 ⊗ x) (λ x. x) (distributes 1) (λ x y. refl) 8 (equal 8 (λ i. 1 ⊗ 2 ^ i) (λ i. 2 ^ i) tt)

pub high_remainder : (x : ℕ) → high x ≡ high (x % 256)
unfolding high
high_remainder x = omega arith

pub low_remainder : (x : ℕ) → low x ≡ low (x % 256)
unfolding low
low_remainder x = omega arith

times_remainder : (x y : ℕ) → x ⊗ y ≡ x ⊗ (y % 256)
unfolding top_of rest_of
times_remainder x y =
    times_halves x y
    ∙ ap₂ (λ (h l : ℕ). byte (high x ⊠ h ⊕ (high x ⊠ l ⊕ low x ⊠ h)) (eight ⊠ (high x ⊠ h) ⊕ low x ⊠ l))
    (high_remainder y) (low_remainder y)
    ∙ sym (times_halves x (y % 256))

-- a factor counts as its remainder by 256
pub remainder_times : (x y : ℕ) → x ⊗ y ≡ (x % 256) ⊗ y
remainder_times x y = times_comm x y ∙ times_remainder y x ∙ times_comm y (x % 256)

-- the law of three factors where x is the first
abbrev Associates : ℕ → Type 0
Associates x = (y z : ℕ) → y < 256 → z < 256 → (x ⊗ y) ⊗ z ≡ x ⊗ (y ⊗ z)

-- each side is additive in each factor; so it holds as it does at powers of two
module _ (x : ℕ) (powers : (j k : ℕ) → j < 8 → k < 8 → (x ⊗ 2 ^ j) ⊗ 2 ^ k ≡ x ⊗ (2 ^ j ⊗ 2 ^ k)) where
  assoc_third : (j z : ℕ) → j < 8 → z < 256 → (x ⊗ 2 ^ j) ⊗ z ≡ x ⊗ (2 ^ j ⊗ z)
  assoc_third j z hj hz =
      additive_equal (λ z. (x ⊗ 2 ^ j) ⊗ z) (λ z. x ⊗ (2 ^ j ⊗ z)) (distributes (x ⊗ 2 ^ j))
      (additive_after (λ y. x ⊗ y) (λ z. 2 ^ j ⊗ z) (distributes x) (distributes (2 ^ j))) 8
      (λ k hk. powers j k hj hk) z hz

  assoc_second : Associates x
  assoc_second y z hy hz =
      additive_equal (λ y. (x ⊗ y) ⊗ z) (λ y. x ⊗ (y ⊗ z))
      (additive_after (λ x. x ⊗ z) (λ y. x ⊗ y) (distributes_left z) (distributes x))
      (additive_after (λ y. x ⊗ y) (λ y. y ⊗ z) (distributes x) (distributes_left z)) 8
      (λ j hj. assoc_third j z hj hz) y hy

-- it holds of a product where it holds of both factors
associates_times : (x w : ℕ) → w < 256 → Associates x → Associates w → Associates (x ⊗ w)
associates_times x w hw of-x of-w y z hy hz =
    ap (λ (p : ℕ). p ⊗ z) (of-x w y hw hy) ∙ of-x (w ⊗ y) z (times_below w y) hz ∙ ap (λ (p : ℕ). x ⊗ p) (of-w y z hy hz)
    ∙ sym (of-x w (y ⊗ z) hw (times_below y z))

-- so 1, z and α are enough
associates_one : Associates 1
associates_one y z hy hz = ap (λ (p : ℕ). p ⊗ z) (one_times y hy) ∙ sym (one_times (y ⊗ z) (times_below y z))

associates_z : Associates 2
unfolding arithmetic
associates_z = assoc_second 2 (equal₂ 8 (λ j k. (2 ⊗ 2 ^ j) ⊗ 2 ^ k) (λ j k. 2 ⊗ (2 ^ j ⊗ 2 ^ k)) tt)

associates_alpha : Associates 16
unfolding arithmetic
associates_alpha = assoc_second 16 (equal₂ 8 (λ j k. (16 ⊗ 2 ^ j) ⊗ 2 ^ k) (λ j k. 16 ⊗ (2 ^ j ⊗ 2 ^ k)) tt)

associates_narrow : (i : ℕ) → i < 4 → Associates (2 ^ i)
unfolding arithmetic
associates_narrow zero h = associates_one
associates_narrow (suc zero) h = associates_z
associates_narrow (suc (suc zero)) h = associates_times 2 2 (lit< tt) associates_z associates_z
associates_narrow (suc (suc (suc zero))) h =
    associates_times 2 4 (lit< tt) associates_z (associates_times 2 2 (lit< tt) associates_z associates_z)
associates_narrow (suc (suc (suc (suc i)))) h = omega arith

alpha_power : (i : ℕ) → i < 4 → 16 ⊗ 2 ^ i ≡ 2 ^ (i + 4)
unfolding arithmetic
alpha_power = equal 4 (λ i. 16 ⊗ 2 ^ i) (λ i. 2 ^ (i + 4)) tt

power_below : (i : ℕ) → i < 4 → 2 ^ i < 256
unfolding every
power_below i h = ltb→lt (2 ^ i) 256 (at 4 (λ i. ltb (2 ^ i) 256) tt i h)

associates_power : (i : ℕ) → i < 8 → Associates (2 ^ i)
associates_power i h =
    ⊎_elim
    (λ above.
    let e : i - 4 + 4 ≡ i = omega arith in
    subst Associates (alpha_power (i - 4) (omega arith) ∙ ap (λ (m : ℕ). 2 ^ m) e)
    (associates_times 16 (2 ^ (i - 4)) (power_below (i - 4) (omega arith)) associates_alpha (associates_narrow (i - 4) (omega arith))))
    (λ below. associates_narrow i below) (le_or_lt 4 i)

assoc_first : (x y z : ℕ) → x < 256 → y < 256 → z < 256 → (x ⊗ y) ⊗ z ≡ x ⊗ (y ⊗ z)
assoc_first x y z hx hy hz =
    additive_equal (λ x. (x ⊗ y) ⊗ z) (λ x. x ⊗ (y ⊗ z))
    (additive_after (λ x. x ⊗ z) (λ x. x ⊗ y) (distributes_left z) (distributes_left y)) (distributes_left (y ⊗ z)) 8
    (λ i hi. associates_power i hi y z hy hz) x hx

remainder_below : (x : ℕ) → x % 256 < 256
remainder_below x = mod-lt x (zero-lt-suc 255)

pub times_assoc : (x y z : ℕ) → (x ⊗ y) ⊗ z ≡ x ⊗ (y ⊗ z)
times_assoc x y z =
    times_remainder (x ⊗ y) z ∙ ap (λ (p : ℕ). p ⊗ (z % 256)) (remainder_times x y ∙ times_remainder (x % 256) y)
    ∙ assoc_first (x % 256) (y % 256) (z % 256) (remainder_below x) (remainder_below y) (remainder_below z)
    ∙ sym (remainder_times x (y ⊗ z) ∙ ap (λ (p : ℕ). (x % 256) ⊗ p) (remainder_times y z ∙ times_remainder (y % 256) z))
