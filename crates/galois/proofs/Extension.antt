-- The narrow numbers among the bytes: widening, α, and every byte as a + αb for one pair of narrow a and b.
use mathlib.Core.Path.{◌≡◌, refl, sym, ap, ap₂, ◌∙◌, subst, subst⁻¹}
use mathlib.Core.Bool.{Bool, true, false, cond, not, ◌&&◌, ◌||◌}
use mathlib.Core.Logic.{⊎_elim}
use Prim.Native.Nat.{ℕ, ◌+◌, ◌*◌, ◌%◌, ◌<◌}
use native.Mathlib.Nat.{mod-lt, zero-lt-suc}
use native.Mathlib.Omega.{arith}
use lib.Bits.{xor_shifted}
use lib.Dec.{T, T_not, eqb, ltb, eqb→eq, eqb_refl, lit<}
use borrow.Author.Tests.{lt-ltb, le-ltb, ltb-true}
use Rattle.galois.specs.Bounded.{every}
use Rattle.galois.specs.Byte.{◌⊕◌, ◌⊗◌, high, low, byte, alpha, eight, widen}
use Rattle.galois.specs.Narrow.{◌⊞◌, ◌⊠◌}
use Rattle.galois.specs.Sum.{sum}
use Rattle.galois.proofs.Arithmetic.{arithmetic}
use Rattle.galois.proofs.Cases.{and_left, and_right, or_cases, at, equal, equal₂}
use Rattle.galois.proofs.ByteProduct.{high_below, low_below, high_high, high_low, low_high, low_low, eight_high, eight_below}
use Rattle.galois.proofs.ByteProduct.{distributes, distributes_left, times_assoc}
use Rattle.galois.proofs.ByteProduct.{times_zero, high_remainder, low_remainder, remainder_times}
use Rattle.galois.proofs.NarrowField.{narrows}
use Rattle.galois.proofs.Sums.{sum-equal, sum_plus, multiple_of_sum}
use Rattle.galois.proofs.Xor.{plus_assoc, plus_comm, plus_below, zero_plus}

pub widen_narrow : (a : ℕ) → a < 16 → widen a ≡ a
unfolding widen
widen_narrow a h = rw (lt-ltb a 16 h)

pub widen_below : (a : ℕ) → widen a < 16
unfolding widen
widen_below a = either (ltb a 16) refl
  where
    either : (t : Bool) → ltb a 16 ≡ t → cond t a 0 < 16
    either true e = ltb-true a 16 e
    either false e = lit< tt

pub widen_above : (a : ℕ) → 15 < a → widen a ≡ 0
unfolding widen
widen_above a h = rw (le-ltb a 16 h)

pub widen_plus : (a b : ℕ) → a < 16 → b < 16 → widen (a ⊞ b) ≡ widen a ⊕ widen b
unfolding arithmetic
widen_plus = equal₂ 16 (λ a b. widen (a ⊞ b)) (λ a b. widen a ⊕ widen b) tt

pub widen_times : (a b : ℕ) → a < 16 → b < 16 → widen (a ⊠ b) ≡ widen a ⊗ widen b
unfolding arithmetic
widen_times = equal₂ 16 (λ a b. widen (a ⊠ b)) (λ a b. widen a ⊗ widen b) tt

-- the product of bytes with its halves widened
pub times_widened : (x y : ℕ)
    → byte (widen (high x ⊠ high y ⊞ (high x ⊠ low y ⊞ low x ⊠ high y))) (widen (eight ⊠ (high x ⊠ high y) ⊞ low x ⊠ low y))
    ≡ x ⊗ y
unfolding ◌⊗◌
times_widened x y =
    let plus = narrows.plus_below in
    ap₂ byte
    (widen_narrow (high x ⊠ high y ⊞ (high x ⊠ low y ⊞ low x ⊠ high y))
    (plus (high x ⊠ high y) (high x ⊠ low y ⊞ low x ⊠ high y) (high_high x y)
    (plus (high x ⊠ low y) (low x ⊠ high y) (high_low x y) (low_high x y))))
    (widen_narrow (eight ⊠ (high x ⊠ high y) ⊞ low x ⊠ low y)
    (plus (eight ⊠ (high x ⊠ high y)) (low x ⊠ low y) (eight_high x y) (low_low x y)))

-- α × α = α + 8
pub alpha_squared : alpha ⊗ alpha ≡ alpha ⊕ eight
unfolding arithmetic
alpha_squared = refl

-- α times a narrow number
alpha_times : (b : ℕ) → b < 16 → alpha ⊗ b ≡ b * 16
unfolding arithmetic
alpha_times = equal 16 (λ b. alpha ⊗ b) (λ b. b * 16) tt

narrow_byte : (a b : ℕ) → a < 16 → b < 16 → a ⊕ alpha ⊗ b ≡ b * 16 + a
unfolding ◌⊕◌
narrow_byte a b ha hb =
    ap (λ (p : ℕ). a ⊕ p) (alpha_times b hb) ∙ plus_comm a (b * 16) ∙ xor_shifted b 4 a ha

-- every byte is a + αb for narrow a and b
pub byte_parts : (x : ℕ) → x < 256 → x ≡ low x ⊕ alpha ⊗ high x
unfolding low high
byte_parts x hx = (omega arith) ∙ sym (narrow_byte (low x) (high x) (low_below x) (high_below x))

-- and for one pair only
pub byte_parts_unique : (a b c d : ℕ) → a < 16 → b < 16 → c < 16 → d < 16 → a ⊕ alpha ⊗ b ≡ c ⊕ alpha ⊗ d → (a ≡ c) × (b ≡ d)
byte_parts_unique a b c d ha hb hc hd e =
    let same : b * 16 + a ≡ d * 16 + c = sym (narrow_byte a b ha hb) ∙ e ∙ narrow_byte c d hc hd in
    (omega arith, omega arith)

-- so a product with a byte is one with its low part, and α times one with its high part
pub times_parts : (x y : ℕ) → x ⊗ y ≡ low x ⊗ y ⊕ alpha ⊗ (high x ⊗ y)
times_parts x y =
    remainder_times x y
    ∙ ap (λ (z : ℕ). z ⊗ y) (byte_parts (x % 256) (mod-lt x (zero-lt-suc 255))
    ∙ sym (ap₂ (λ (l h : ℕ). l ⊕ alpha ⊗ h) (low_remainder x) (high_remainder x)))
    ∙ distributes_left y (low x) (alpha ⊗ high x)
    ∙ ap (λ (z : ℕ). low x ⊗ y ⊕ z) (times_assoc alpha (high x) y)

-- and a weighted sum is one by the low parts of the weights, and α times one by their high parts
pub weights_parts : (m : ℕ) (g u : ℕ → ℕ)
    → sum m (λ i. u i ⊗ g i) ≡ sum m (λ i. low (u i) ⊗ g i) ⊕ alpha ⊗ sum m (λ i. high (u i) ⊗ g i)
weights_parts m g u =
    sum-equal m (λ i. u i ⊗ g i) (λ i. low (u i) ⊗ g i ⊕ alpha ⊗ (high (u i) ⊗ g i)) (λ i _. times_parts (u i) (g i))
    ∙ sum_plus m (λ i. low (u i) ⊗ g i) (λ i. alpha ⊗ (high (u i) ⊗ g i))
    ∙ ap (λ (s : ℕ). sum m (λ i. low (u i) ⊗ g i) ⊕ s) (sym (multiple_of_sum alpha m (λ i. high (u i) ⊗ g i)))

-- ---- the norm of a + αb is 0 at 0 only

-- the product of narrow numbers is their product as bytes
narrow_product : (a b : ℕ) → a < 16 → b < 16 → a ⊗ b ≡ a ⊠ b
narrow_product a b ha hb =
    ap₂ ◌⊗◌ (sym (widen_narrow a ha)) (sym (widen_narrow b hb)) ∙ sym (widen_times a b ha hb)
    ∙ widen_narrow (a ⊠ b) (narrows.times_below a b ha hb)

-- and narrow
pub narrow_times : (a b : ℕ) → a < 16 → b < 16 → a ⊗ b < 16
narrow_times a b ha hb = subst⁻¹ (λ (x : ℕ). x < 16) (narrow_product a b ha hb) (narrows.times_below a b ha hb)

-- the two sides differ, or a and b are 0
norm_test : ℕ → ℕ → Bool
norm_test a b = not (eqb (a ⊠ (a ⊕ b)) (b ⊠ (eight ⊠ b))) || (eqb a 0 && eqb b 0)

norm_passed : (a b : ℕ) → a < 16 → b < 16 → T (norm_test a b)
unfolding norm_test arithmetic
norm_passed a b ha hb = at 16 (norm_test a) (at 16 (λ a. every 16 (norm_test a)) tt a ha) b hb

-- a × (a + b) = 8 × b × b only for a = b = 0
norm_zero : (a b : ℕ) → a < 16 → b < 16 → a ⊗ (a ⊕ b) ≡ b ⊗ (eight ⊗ b) → (a ≡ 0) × (b ≡ 0)
unfolding norm_test
norm_zero a b ha hb e =
    let x : ℕ = a ⊠ (a ⊕ b) in
    let y : ℕ = b ⊠ (eight ⊠ b) in
    let same : x ≡ y =
    sym (narrow_product a (a ⊕ b) ha (plus_below 4 a b ha hb)) ∙ e ∙ ap (λ (p : ℕ). b ⊗ p) (narrow_product eight b eight_below hb)
    ∙ narrow_product b (eight ⊠ b) hb (narrows.times_below eight b eight_below hb) in
    ⊎_elim (λ differ. absurd (T_not (eqb x y) differ (subst (λ (z : ℕ). T (eqb x z)) same (eqb_refl x))))
    (λ both. (eqb→eq a 0 (and_left (eqb a 0) (eqb b 0) both), eqb→eq b 0 (and_right (eqb a 0) (eqb b 0) both)))
    (or_cases (not (eqb x y)) (eqb a 0 && eqb b 0) (norm_passed a b ha hb))

-- α (a + αb) = 8b + α (a + b)
alpha_parts : (a b : ℕ) → alpha ⊗ (a ⊕ alpha ⊗ b) ≡ eight ⊗ b ⊕ alpha ⊗ (a ⊕ b)
alpha_parts a b =
    distributes alpha a (alpha ⊗ b)
    ∙ ap (λ (t : ℕ). alpha ⊗ a ⊕ t)
    (sym (times_assoc alpha alpha b) ∙ ap (λ (t : ℕ). t ⊗ b) alpha_squared ∙ distributes_left b alpha eight)
    ∙ sym (plus_assoc (alpha ⊗ a) (alpha ⊗ b) (eight ⊗ b))
    ∙ ap (λ (t : ℕ). t ⊕ eight ⊗ b) (sym (distributes alpha a b))
    ∙ plus_comm (alpha ⊗ (a ⊕ b)) (eight ⊗ b)

-- a byte whose multiple by α has parts in the byte's own ratio is 0
pub ratio_zero : (x : ℕ) → x < 256 → (a b : ℕ) → a < 16 → b < 16 → alpha ⊗ x ≡ a ⊕ alpha ⊗ b
    → low x ⊗ b ≡ high x ⊗ a → x ≡ 0
ratio_zero x hx a b ha hb e ratio =
    let l : ℕ = low x in
    let g : ℕ = high x in
    let parts = byte_parts_unique (eight ⊗ g) (l ⊕ g) a b (narrow_times eight g eight_below (high_below x))
    (plus_below 4 l g (low_below x) (high_below x)) ha hb
    (sym (ap (λ (t : ℕ). alpha ⊗ t) (byte_parts x hx) ∙ alpha_parts l g) ∙ e) in
    let zeros = norm_zero l g (low_below x) (high_below x)
    (ap (λ (t : ℕ). l ⊗ t) parts.1 ∙ ratio ∙ ap (λ (t : ℕ). g ⊗ t) (sym parts.0)) in
    byte_parts x hx ∙ ap₂ (λ (p q : ℕ). p ⊕ alpha ⊗ q) zeros.0 zeros.1 ∙ zero_plus (alpha ⊗ 0) ∙ times_zero alpha
