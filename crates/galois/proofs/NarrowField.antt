-- The narrow numbers are a field. The product is additive, so that its laws are computed at powers of two.
use mathlib.Core.Path.{◌≡◌, refl, sym, ap, ap₂, ◌∙◌, subst⁻¹}
use mathlib.Core.Bool.{Bool, cond, not, and-false, ◌&&◌}
use mathlib.Core.Logic.{◌≢◌, ◌⊎◌, ⊎_elim}
use Prim.Native.Nat.{ℕ, zero, suc, ◌*◌, ◌/◌, ◌%◌, ◌^◌, ◌<◌, ◌≤◌}
use native.Mathlib.Nat.{mod-lt, zero-lt-suc, le_of_suc-le-suc, not-suc-le-zero}
use native.Mathlib.Omega.{arith}
use lib.Bits.{bit_xor, xor_shr, xor_mod}
use lib.Dec.{T, T_not, eqb, eqb→eq, ltb, ltb→lt, lit<}
use lib.ListN.{get_or}
use borrow.Author.Tests.{lt-ltb, le-ltb}
use Rattle.galois.specs.Bounded.{every}
use Rattle.galois.specs.Byte.{◌⊕◌, eight}
use Rattle.galois.specs.Reciprocal.{none, element}
use Rattle.galois.specs.Narrow.{narrow, ◌⊞◌, times_z, times_bits, ◌⊠◌, narrow_reciprocals, narrow_reciprocal, narrow_quotient}
use Rattle.galois.proofs.Cases.{at, and_left, and_right, equal, equal₂}
use Rattle.galois.proofs.Field.{Field}
use Rattle.galois.proofs.Xor.{plus_below, plus_comm, plus_assoc, plus_self, zero_plus}
use Rattle.galois.proofs.Xor.{plus_zero, plus_exchange, Additive, additive_after, additive_equal}

-- ---- the narrow guard

pub above_left : (a b r : ℕ) → 15 < a → narrow a b r ≡ 0
unfolding narrow
above_left a b r h = rw (le-ltb a 16 h)

pub above_right : (a b r : ℕ) → a < 16 → 15 < b → narrow a b r ≡ 0
unfolding narrow
above_right a b r ha hb = rw (lt-ltb a 16 ha, le-ltb b 16 hb)

-- as code tests it: the first number, and where that is not above 15 the second
pub above_either : (a b r : ℕ) → (15 < a) ⊎ ((a ≤ 15) × (15 < b)) → 0 ≡ narrow a b r
above_either a b r =
    ⊎_elim (λ first. sym (above_left a b r first)) (λ second. sym (above_right a b r (omega arith) second.1))

-- a sum with a number above 15 is 0
pub plus_above : (a b : ℕ) → 15 < b → a ⊞ b ≡ 0
unfolding ◌⊞◌ narrow
plus_above a b h = rw (le-ltb b 16 h, and-false (ltb a 16))

pub both_narrow : (a b r : ℕ) → a < 16 → b < 16 → narrow a b r ≡ r
unfolding narrow
both_narrow a b r ha hb = rw (lt-ltb a 16 ha, lt-ltb b 16 hb)

pub reciprocal_above : (a : ℕ) → 15 < a → narrow_reciprocal a ≡ none
unfolding narrow_reciprocal
reciprocal_above zero h = absurd (not-suc-le-zero h)
reciprocal_above (suc a) h = rw (le-ltb (suc a) 16 h)

-- ---- the sum

-- the sum of narrow numbers is their sum as bytes
pub narrow_plus : (a b : ℕ) → a < 16 → b < 16 → a ⊞ b ≡ a ⊕ b
unfolding ◌⊞◌ ◌⊕◌
narrow_plus a b = both_narrow a b (a ⊕ b)

sum_below : (a b : ℕ) → a < 16 → b < 16 → a ⊞ b < 16
sum_below a b ha hb = subst⁻¹ (λ (s : ℕ). s < 16) (narrow_plus a b ha hb) (plus_below 4 a b ha hb)

sum_assoc : (a b c : ℕ) → a < 16 → b < 16 → c < 16 → (a ⊞ b) ⊞ c ≡ a ⊞ (b ⊞ c)
sum_assoc a b c ha hb hc =
    narrow_plus (a ⊞ b) c (sum_below a b ha hb) hc ∙ ap (λ (s : ℕ). s ⊕ c) (narrow_plus a b ha hb) ∙ plus_assoc a b c
    ∙ sym (narrow_plus a (b ⊞ c) ha (sum_below b c hb hc) ∙ ap (λ (s : ℕ). a ⊕ s) (narrow_plus b c hb hc))

-- ---- the product: additive in its second factor, so that a law needs only its cases at powers of two

bit_below : (b : ℕ) → b % 2 < 2
bit_below b = mod-lt b (zero-lt-suc 1)

-- a number where a bit is 1 is additive in the bit
bit_additive : (a p q : ℕ) → p < 2 → q < 2 → cond (eqb (p ⊕ q) 1) a 0 ≡ cond (eqb p 1) a 0 ⊕ cond (eqb q 1) a 0
unfolding ◌⊕◌
bit_additive a zero zero hp hq = refl
bit_additive a zero (suc zero) hp hq = refl
bit_additive a (suc zero) zero hp hq = sym (plus_zero a)
bit_additive a (suc zero) (suc zero) hp hq = sym (plus_self a)
bit_additive a (suc (suc p)) q hp hq = omega arith
bit_additive a zero (suc (suc q)) hp hq = omega arith
bit_additive a (suc zero) (suc (suc q)) hp hq = omega arith

bits_additive : (m a : ℕ) → Additive (times_bits m a)
unfolding times_bits ◌⊕◌
bits_additive zero a b c = refl
bits_additive (suc m) a b c =
    ap₂ ◌⊕◌
    (ap (λ (r : ℕ). cond (eqb r 1) a 0) (xor_mod b c 1) ∙ bit_additive a (b % 2) (c % 2) (bit_below b) (bit_below c))
    (ap (times_bits m (times_z a)) (xor_shr b c 1) ∙ bits_additive m (times_z a) (b / 2) (c / 2))
    ∙ plus_exchange (cond (eqb (b % 2) 1) a 0) (cond (eqb (c % 2) 1) a 0) (times_bits m (times_z a) (b / 2))
    (times_bits m (times_z a) (c / 2))

-- the product without the guard
raw : ℕ → ℕ → ℕ
raw a b = times_bits 4 a b

raw_additive : (a : ℕ) → Additive (raw a)
unfolding raw
raw_additive a = bits_additive 4 a

raw_below : (a b : ℕ) → a < 16 → b < 16 → raw a b < 16
unfolding every raw times_bits times_z
raw_below a b ha hb =
    ltb→lt (raw a b) 16 (at 16 (λ b. ltb (raw a b) 16) (at 16 (λ a. every 16 (λ b. ltb (raw a b) 16)) tt a ha) b hb)

raw_comm : (a b : ℕ) → a < 16 → b < 16 → raw a b ≡ raw b a
unfolding every raw times_bits times_z
raw_comm = equal₂ 16 raw (λ a b. raw b a) tt

raw_powers : (a j k : ℕ) → a < 16 → j < 4 → k < 4 → raw (raw a (2 ^ j)) (2 ^ k) ≡ raw a (raw (2 ^ j) (2 ^ k))
unfolding every raw times_bits times_z
raw_powers a j k ha =
    equal₂ 4 (λ j k. raw (raw a (2 ^ j)) (2 ^ k)) (λ j k. raw a (raw (2 ^ j) (2 ^ k)))
    (at 16 (λ a. every 4 (λ j. every 4 (λ k. eqb (raw (raw a (2 ^ j)) (2 ^ k)) (raw a (raw (2 ^ j) (2 ^ k)))))) tt a ha) j k

power_below : (j : ℕ) → j < 4 → 2 ^ j < 16
unfolding every
power_below j h = ltb→lt (2 ^ j) 16 (at 4 (λ j. ltb (2 ^ j) 16) tt j h)

-- the law of three factors where the second is a power of two
raw_third : (a j c : ℕ) → a < 16 → j < 4 → c < 16 → raw (raw a (2 ^ j)) c ≡ raw a (raw (2 ^ j) c)
raw_third a j c ha hj hc =
    additive_equal (raw (raw a (2 ^ j))) (λ c. raw a (raw (2 ^ j) c)) (raw_additive (raw a (2 ^ j)))
    (additive_after (raw a) (raw (2 ^ j)) (raw_additive a) (raw_additive (2 ^ j))) 4
    (λ k hk. raw_powers a j k ha hj hk) c hc

-- and of any three, the first two exchanged so that each side is additive in the last
raw_swap : (a b c : ℕ) → a < 16 → b < 16 → c < 16 → raw c (raw a b) ≡ raw a (raw c b)
raw_swap a b c ha hb hc =
    additive_equal (λ b. raw c (raw a b)) (λ b. raw a (raw c b))
    (additive_after (raw c) (raw a) (raw_additive c) (raw_additive a))
    (additive_after (raw a) (raw c) (raw_additive a) (raw_additive c)) 4
    (λ j hj.
    raw_comm c (raw a (2 ^ j)) hc (raw_below a (2 ^ j) ha (power_below j hj)) ∙ raw_third a j c ha hj hc
    ∙ ap (raw a) (raw_comm (2 ^ j) c (power_below j hj) hc)) b hb

times_raw : (a b : ℕ) → a < 16 → b < 16 → a ⊠ b ≡ raw a b
unfolding ◌⊠◌ raw
times_raw a b = both_narrow a b (times_bits 4 a b)

product_below : (a b : ℕ) → a < 16 → b < 16 → a ⊠ b < 16
product_below a b ha hb = subst⁻¹ (λ (p : ℕ). p < 16) (times_raw a b ha hb) (raw_below a b ha hb)

product_assoc : (a b c : ℕ) → a < 16 → b < 16 → c < 16 → (a ⊠ b) ⊠ c ≡ a ⊠ (b ⊠ c)
product_assoc a b c ha hb hc =
    times_raw (a ⊠ b) c (product_below a b ha hb) hc ∙ ap (λ (p : ℕ). raw p c) (times_raw a b ha hb)
    ∙ raw_comm (raw a b) c (raw_below a b ha hb) hc ∙ raw_swap a b c ha hb hc ∙ ap (raw a) (raw_comm c b hc hb)
    ∙ sym (times_raw a (b ⊠ c) ha (product_below b c hb hc) ∙ ap (raw a) (times_raw b c hb hc))

product_distributes : (a b c : ℕ) → a < 16 → b < 16 → c < 16 → a ⊠ (b ⊞ c) ≡ a ⊠ b ⊞ a ⊠ c
product_distributes a b c ha hb hc =
    times_raw a (b ⊞ c) ha (sum_below b c hb hc) ∙ ap (raw a) (narrow_plus b c hb hc) ∙ raw_additive a b c
    ∙ sym (ap₂ ◌⊕◌ (times_raw a b ha hb) (times_raw a c ha hc))
    ∙ sym (narrow_plus (a ⊠ b) (a ⊠ c) (product_below a b ha hb) (product_below a c ha hc))

-- ---- the reciprocal

-- every number but 0 has one
listed : (a : ℕ) → a < 16 → a ≢ 0 → (b : ℕ) × (narrow_reciprocal a ≡ element b) × (b < 16) × (a ⊠ b ≡ 1)
unfolding every ◌⊠◌ narrow times_bits times_z narrow_reciprocal narrow_reciprocals
listed zero h ne = absurd (ne refl)
listed (suc a) h ne =
    let b : ℕ = get_or narrow_reciprocals a 0 in
    let good =
    at 15 (λ a. ltb (get_or narrow_reciprocals a 0) 16 && eqb (suc a ⊠ get_or narrow_reciprocals a 0) 1) tt a (le_of_suc-le-suc h) in (
      b,
      ap (λ (t : Bool). cond t (element b) none) (lt-ltb (suc a) 16 h),
      ltb→lt b 16 (and_left (ltb b 16) (eqb (suc a ⊠ b) 1) good),
      eqb→eq (suc a ⊠ b) 1 (and_right (ltb b 16) (eqb (suc a ⊠ b) 1) good),
    )

pub narrows : Field 16 ◌⊞◌ ◌⊠◌ narrow_reciprocal narrow_quotient
unfolding every ◌⊠◌ narrow times_bits times_z narrow_reciprocal narrow_quotient
narrows = record {
  one_below = lit< tt;
  plus_below = sum_below;
  plus_comm = λ a b ha hb. narrow_plus a b ha hb ∙ plus_comm a b ∙ sym (narrow_plus b a hb ha);
  plus_assoc = sum_assoc;
  zero_plus = λ a ha. narrow_plus 0 a (lit< tt) ha ∙ zero_plus a;
  plus_self = λ a ha. narrow_plus a a ha ha ∙ plus_self a;
  times_below = product_below;
  times_comm = λ a b ha hb. times_raw a b ha hb ∙ raw_comm a b ha hb ∙ sym (times_raw b a hb ha);
  times_assoc = product_assoc;
  zero_times = equal 16 (λ a. 0 ⊠ a) (λ a. 0) tt;
  one_times = equal 16 (λ a. 1 ⊠ a) (λ a. a) tt;
  distributes = product_distributes;
  none_of_zero = refl;
  has_reciprocal = listed;
  divides = λ a b. refl;
}

-- x × x + x + 8 is never 0
pub no_root : (a : ℕ) → a < 16 → a ⊠ a ⊞ a ⊞ eight ≢ 0
unfolding every ◌⊞◌ ◌⊠◌ narrow times_bits times_z eight
no_root a ha e =
    T_not (eqb (a ⊠ a ⊞ a ⊞ eight) 0) (at 16 (λ a. not (eqb (a ⊠ a ⊞ a ⊞ eight) 0)) tt a ha)
    (subst⁻¹ (λ (r : ℕ). T (eqb r 0)) e tt)

-- ---- the product as the code has it

-- a times each power of z that b has, added
shifts : ℕ → ℕ → ℕ
shifts a b = bit_xor (bit_xor (bit_xor (a * (b % 2)) (a * 2 * (b / 2 % 2))) (a * 4 * (b / 4 % 2))) (a * 8 * (b / 8 % 2))

-- what stands from z^4 on replaced by itself and its double at the bottom: z^4 is z + 1
reduced : ℕ → ℕ
reduced p = bit_xor (bit_xor (p % 16) (p / 16)) (p / 16 * 2)

reduced_shifts : (a b : ℕ) → a < 16 → b < 16 → reduced (shifts a b) ≡ a ⊠ b
unfolding every reduced shifts ◌⊠◌ narrow times_bits times_z
reduced_shifts = equal₂ 16 (λ a b. reduced (shifts a b)) ◌⊠◌ tt

-- the four shifted terms, with the powers from z^4 on replaced, make the product
pub shifts_product : (a b s₀ s₁ s₂ s₃ r : ℕ) → a < 16 → b < 16
    → s₀ ≡ a * (b % 2) → s₁ ≡ a * 2 * (b / 2 % 2) → s₂ ≡ a * 4 * (b / 4 % 2) → s₃ ≡ a * 8 * (b / 8 % 2)
    → let p : ℕ = bit_xor (bit_xor (bit_xor s₀ s₁) s₂) s₃ in
    r ≡ bit_xor (bit_xor (p % 16) (p / 16)) (p / 16 * 2) → r ≡ a ⊠ b
unfolding reduced shifts
shifts_product a b s₀ s₁ s₂ s₃ r ha hb e₀ e₁ e₂ e₃ same =
    same ∙ ap reduced (ap₂ bit_xor (ap₂ bit_xor (ap₂ bit_xor e₀ e₁) e₂) e₃) ∙ reduced_shifts a b ha hb
