-- Exclusive or at any width: its laws, the functions that are additive in it, and what makes two of those equal.
use mathlib.Core.Path.{◌≡◌, refl, sym, ap, ap₂, ◌∙◌, subst, subst⁻¹}
use Prim.Native.Nat.{ℕ, zero, suc, ◌+◌, ◌*◌, ◌/◌, ◌%◌, ◌^◌, ◌<◌}
use native.Mathlib.Nat.{mod-lt, one-mul, zero-mul, mul-one, mul-zero, zero-lt-suc, le_step, lt-suc_self}
use native.Mathlib.Numerals.{one-add}
use native.Mathlib.Omega.{arith}
use lib.Arith.{bin_ind, digits_mod, lt-one}
use lib.Bits.{bit_xor, differ, xor_step, xor_comm, xor_shr, xor_lt, xor_self, xor_zero_l, xor_zero_r, xor_shifted}
use lib.Pow.{pow_pos, shr_lt, split}
use Rattle.galois.specs.Bounded.{every}
use Rattle.galois.specs.Byte.{◌⊕◌}
use Rattle.galois.proofs.Cases.{equal₂, equal₃}

-- ---- the laws of the sum

pub plus_comm : (x y : ℕ) → x ⊕ y ≡ y ⊕ x
unfolding ◌⊕◌
plus_comm = xor_comm

pub plus_self : (x : ℕ) → x ⊕ x ≡ 0
unfolding ◌⊕◌
plus_self = xor_self

pub zero_plus : (x : ℕ) → 0 ⊕ x ≡ x
unfolding ◌⊕◌
zero_plus = xor_zero_l

pub plus_zero : (x : ℕ) → x ⊕ 0 ≡ x
unfolding ◌⊕◌
plus_zero = xor_zero_r

-- the sum of two numbers of k bits has k bits
pub plus_below : (k x y : ℕ) → x < 2 ^ k → y < 2 ^ k → x ⊕ y < 2 ^ k
unfolding ◌⊕◌
plus_below = xor_lt

bit_below : (a : ℕ) → a % 2 < 2
bit_below a = mod-lt a (zero-lt-suc 1)

differ_assoc : (x y z : ℕ) → x < 2 → y < 2 → z < 2 → differ (differ x y) z ≡ differ x (differ y z)
unfolding every
differ_assoc = equal₃ 2 (λ x y z. differ (differ x y) z) (λ x y z. differ x (differ y z)) tt

differ_bit : (x y : ℕ) → x < 2 → y < 2 → differ x y % 2 ≡ differ x y
unfolding every
differ_bit = equal₂ 2 (λ x y. differ x y % 2) differ tt

xor_bit : (a b : ℕ) → bit_xor a b % 2 ≡ differ (a % 2) (b % 2)
xor_bit a b =
    ap (λ (x : ℕ). x % 2) (xor_step a b)
    ∙ digits_mod (bit_xor (a / 2) (b / 2))
    (subst (λ (d : ℕ). d < 2) (differ_bit (a % 2) (b % 2) (bit_below a) (bit_below b)) (bit_below (differ (a % 2) (b % 2))))

xor_assoc : (a b c : ℕ) → bit_xor (bit_xor a b) c ≡ bit_xor a (bit_xor b c)
xor_assoc =
    bin_ind (λ (a : ℕ). (b c : ℕ) → bit_xor (bit_xor a b) c ≡ bit_xor a (bit_xor b c)) (λ b c. refl)
    (λ a ih b c.
    xor_step (bit_xor a b) c
    ∙ ap₂ (λ (p q : ℕ). p * 2 + q)
    (ap (λ (h : ℕ). bit_xor h (c / 2)) (xor_shr a b 1) ∙ ih (b / 2) (c / 2))
    (ap (λ (d : ℕ). differ d (c % 2)) (xor_bit a b)
    ∙ differ_assoc (a % 2) (b % 2) (c % 2) (bit_below a) (bit_below b) (bit_below c))
    ∙ sym
    (xor_step a (bit_xor b c)
    ∙ ap₂ (λ (p q : ℕ). bit_xor (a / 2) p * 2 + differ (a % 2) q) (xor_shr b c 1) (xor_bit b c)))

pub plus_assoc : (x y z : ℕ) → (x ⊕ y) ⊕ z ≡ x ⊕ (y ⊕ z)
unfolding ◌⊕◌
plus_assoc = xor_assoc

pub plus_exchange : (a b c d : ℕ) → (a ⊕ b) ⊕ (c ⊕ d) ≡ (a ⊕ c) ⊕ (b ⊕ d)
plus_exchange a b c d =
    plus_assoc a b (c ⊕ d)
    ∙ ap (λ (x : ℕ). a ⊕ x) (sym (plus_assoc b c d) ∙ ap (λ (x : ℕ). x ⊕ d) (plus_comm b c) ∙ plus_assoc c b d)
    ∙ sym (plus_assoc a c (b ⊕ d))

-- a sum is 0 only where its two terms are equal
pub plus_cancel : (x y : ℕ) → x ⊕ y ≡ 0 → x ≡ y
plus_cancel x y e =
    sym (plus_zero x) ∙ ap (λ (s : ℕ). x ⊕ s) (sym (plus_self y)) ∙ sym (plus_assoc x y y) ∙ ap (λ (s : ℕ). s ⊕ y) e
    ∙ zero_plus y

-- a number by a bit is below what the number is below
pub by_bit : (m y q : ℕ) → y < m → q < 2 → y * q < m
by_bit m y zero hy hq = omega (arith, mul-zero y)
by_bit m y (suc zero) hy hq = subst⁻¹ (λ (z : ℕ). z < m) (mul-one y) hy
by_bit m y (suc (suc q)) hy hq = omega arith

-- ---- additive functions

-- the function takes sums to sums
abbrev pub Additive : (ℕ → ℕ) → Type 0
Additive f = (x y : ℕ) → f (x ⊕ y) ≡ f x ⊕ f y

pub additive_zero : (f : ℕ → ℕ) → Additive f → f 0 ≡ 0
additive_zero f add = ap f (sym (plus_self 0)) ∙ add 0 0 ∙ plus_self (f 0)

pub additive_plus : (f g : ℕ → ℕ) → Additive f → Additive g → Additive (λ x. f x ⊕ g x)
additive_plus f g add-f add-g x y = ap₂ ◌⊕◌ (add-f x y) (add-g x y) ∙ plus_exchange (f x) (f y) (g x) (g y)

pub additive_after : (f g : ℕ → ℕ) → Additive f → Additive g → Additive (λ x. f (g x))
additive_after f g add-f add-g x y = ap f (add-g x y) ∙ add-f (g x) (g y)

-- a number is its bits from k on and its k lowest bits, added
pub plus_split : (k x : ℕ) → x ≡ x / 2 ^ k * 2 ^ k ⊕ x % 2 ^ k
unfolding ◌⊕◌
plus_split k x = sym (split x k) ∙ sym (xor_shifted (x / 2 ^ k) k (x % 2 ^ k) (mod-lt x (pow_pos k)))

module _ (f g : ℕ → ℕ) (add-f : Additive f) (add-g : Additive g) where
  equal_at_bit : (k : ℕ) → f (2 ^ k) ≡ g (2 ^ k) → (q : ℕ) → q < 2 → f (q * 2 ^ k) ≡ g (q * 2 ^ k)
  equal_at_bit k e zero h =
      ap f (zero-mul (2 ^ k)) ∙ additive_zero f add-f ∙ sym (ap g (zero-mul (2 ^ k)) ∙ additive_zero g add-g)
  equal_at_bit k e (suc zero) h = ap f (one-mul (2 ^ k)) ∙ e ∙ ap g (sym (one-mul (2 ^ k)))
  equal_at_bit k e (suc (suc q)) h = omega arith

  -- two additive functions that agree at the first k powers of two agree at every number of k bits
  pub additive_equal : (k : ℕ) → ((i : ℕ) → i < k → f (2 ^ i) ≡ g (2 ^ i)) → (x : ℕ) → x < 2 ^ k → f x ≡ g x
  additive_equal zero powers x h =
      ap f (lt-one h) ∙ additive_zero f add-f ∙ sym (ap g (lt-one h) ∙ additive_zero g add-g)
  additive_equal (suc k) powers x h =
      ap f (plus_split k x) ∙ add-f (x / 2 ^ k * 2 ^ k) (x % 2 ^ k)
      ∙ ap₂ ◌⊕◌
      (equal_at_bit k (powers k (lt-suc_self k)) (x / 2 ^ k)
      (shr_lt 1 k (subst (λ (m : ℕ). x < 2 ^ m) (sym (one-add k)) h)))
      (additive_equal k (λ i l. powers i (le_step l)) (x % 2 ^ k) (mod-lt x (pow_pos k)))
      ∙ sym (ap g (plus_split k x) ∙ add-g (x / 2 ^ k * 2 ^ k) (x % 2 ^ k))
