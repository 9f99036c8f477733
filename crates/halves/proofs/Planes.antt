-- The sum of vectors by coefficients, from the sums by the bits of their halves: two bits of a byte of halves pick one entry of a pair, a
-- half is made of four bits by doubling, and a coefficient of its two halves.
use mathlib.Core.Path.{◌≡◌, sym, ap, ap₂, ◌∙◌, subst, subst⁻¹}
use mathlib.Core.List.{List, []}
use mathlib.Core.Logic.{⊎_elim}
use Prim.Native.Nat.{ℕ, zero, suc, ◌+◌, ◌*◌, ◌/◌, ◌%◌, ◌^◌, ◌<◌, ◌≤◌}
use native.Mathlib.Nat.{mod-lt, zero-lt-suc, div-one, le_trans, le_of_suc-le-suc, not-suc-le-zero, eq-or-lt_of_le}
use native.Mathlib.Omega.{arith}
use lib.Bits.{bit_and, bit_or, or_add_and, and_le_l, and_le_r, and_mod, or_mod, or_shr}
use lib.ListN.{get_or, replicate, length-replicate, get_or-replicate, get_or-eq_default}
use Rattle.galois.specs.Bounded.{every}
use Rattle.galois.specs.Byte.{◌⊕◌, ◌⊗◌, high, low, alpha}
use Rattle.galois.specs.Sum.{sum}
use Rattle.galois.specs.Table.{table}
use Rattle.galois.proofs.ByIndex.{get_or-table, table_equal}
use Rattle.galois.proofs.ByteProduct.{distributes, zero_times, one_times}
use Rattle.galois.proofs.Cases.{equal, le_or_lt}
use Rattle.galois.proofs.Extension.{weights_parts}
use Rattle.galois.proofs.Sums.{sum-equal, sum_plus, multiple_of_sum, weights_equal, weights_zeros}
use Rattle.galois.proofs.Xor.{plus_assoc, plus_self, plus_zero, zero_plus}
use Rattle.gathering.specs.Pairs.{vector_of, Paired}
use Rattle.halves.specs.Halves.{half_of, halves_sum, Under, bits_of}
use Rattle.halves.proofs.Halves.{next_bit_times}

-- lane v of entry e
abbrev pub lane : List (List ℕ) → ℕ → ℕ → ℕ
lane pairs e v = get_or (get_or pairs e []) v 0

-- vector i where its half has bit t, else zeros, in lane v
abbrev pub term_at : List ℕ → ℕ → List (List ℕ) → ℕ → ℕ → ℕ
term_at halves t pairs v i = (half_of halves i / 2 ^ t % 2) ⊗ get_or (vector_of pairs i) v 0

-- ---- two halves in a byte

module _ (halves : List ℕ) where
  -- the halves of the two vectors of pair j
  half_first : (j : ℕ) → half_of halves (j * 2) ≡ get_or halves j 0 % 16
  unfolding half_of
  half_first j =
      let pair : j * 2 / 2 ≡ j = omega arith in
      let place : j * 2 % 2 ≡ 0 = omega arith in
      ap₂ (λ (k p : ℕ). get_or halves k 0 / 16 ^ p % 16) pair place ∙ ap (λ (x : ℕ). x % 16) (div-one (get_or halves j 0))

  half_second : (j : ℕ) → half_of halves (suc (j * 2)) ≡ get_or halves j 0 / 16 % 16
  unfolding half_of
  half_second j =
      let pair : suc (j * 2) / 2 ≡ j = omega arith in
      let place : suc (j * 2) % 2 ≡ 1 = omega arith in
      ap₂ (λ (k p : ℕ). get_or halves k 0 / 16 ^ p % 16) pair place

  -- what holds of these holds of the half of each vector
  each_half : (P : ℕ → ℕ → Type 0) (count : ℕ)
      → ((j : ℕ) → j < count → P (j * 2) (get_or halves j 0 % 16)) → ((j : ℕ) → j < count → P (suc (j * 2)) (get_or halves j 0 / 16 % 16))
      → (i : ℕ) → i < count * 2 → P i (half_of halves i)
  each_half P count first second i h =
      ⊎_elim
      (λ odd.
      let at : i ≡ suc (i / 2 * 2) = omega arith in
      subst⁻¹ (λ (k : ℕ). P k (half_of halves k)) at (subst⁻¹ (P (suc (i / 2 * 2))) (half_second (i / 2)) (second (i / 2) (omega arith))))
      (λ even.
      let at : i ≡ i / 2 * 2 = omega arith in
      subst⁻¹ (λ (k : ℕ). P k (half_of halves k)) at (subst⁻¹ (P (i / 2 * 2)) (half_first (i / 2)) (first (i / 2) (omega arith))))
      (le_or_lt 1 (i % 2))

-- a half is below 16
half_below : (halves : List ℕ) (i : ℕ) → half_of halves i < 16
unfolding half_of
half_below halves i = mod-lt (get_or halves (i / 2) 0 / 16 ^ (i % 2)) (zero-lt-suc 15)

-- zeros are 0, and 0 is read behind them
pub zeros : (m k : ℕ) → ◌≡◌ {A = ℕ} (get_or (replicate m 0) k 0) 0
zeros m k =
    ⊎_elim (λ past. get_or-eq_default (replicate m 0) 0 (omega (arith, length-replicate {A = ℕ} m 0)))
    (λ inside. get_or-replicate m k 0 0 inside) (le_or_lt m k)

-- two numbers below 16 in a byte are its halves
pub packed : (halves : List ℕ) (a : ℕ → ℕ) (count : ℕ)
    → ((j : ℕ) → j < count → get_or halves j 0 ≡ a (2 * j) % 16 + a (2 * j + 1) % 16 * 16)
    → (i : ℕ) → i < count * 2 → half_of halves i ≡ a i % 16
packed halves a count is =
    each_half halves (λ i x. x ≡ a i % 16) count
    (λ j h.
    let at : 2 * j ≡ j * 2 = omega arith in
    let value : get_or halves j 0 % 16 ≡ a (2 * j) % 16 = omega (arith, is j h) in
    value ∙ ap (λ (k : ℕ). a k % 16) at)
    (λ j h.
    let at : 2 * j + 1 ≡ suc (j * 2) = omega arith in
    let value : get_or halves j 0 / 16 % 16 ≡ a (2 * j + 1) % 16 = omega (arith, is j h) in
    value ∙ ap (λ (k : ℕ). a k % 16) at)

-- ---- two bits pick an entry

-- the bits of the two halves of x at place t
low_bit : (x t : ℕ) → t < 4 → x % 16 / 2 ^ t % 2 ≡ x / 2 ^ t % 2
low_bit x zero h = ap (λ (y : ℕ). y % 2) (div-one (x % 16)) ∙ omega arith ∙ sym (ap (λ (y : ℕ). y % 2) (div-one x))
low_bit x (suc zero) h = omega arith
low_bit x (suc (suc zero)) h = omega arith
low_bit x (suc (suc (suc zero))) h = omega arith
low_bit x (suc (suc (suc (suc t)))) h = omega arith

high_bit : (x t : ℕ) → t < 4 → x / 16 % 16 / 2 ^ t % 2 ≡ x / 2 ^ t / 16 % 2
high_bit x zero h =
    ap (λ (y : ℕ). y % 2) (div-one (x / 16 % 16)) ∙ omega arith ∙ sym (ap (λ (y : ℕ). y / 16 % 2) (div-one x))
high_bit x (suc zero) h = omega arith
high_bit x (suc (suc zero)) h = omega arith
high_bit x (suc (suc (suc zero))) h = omega arith
high_bit x (suc (suc (suc (suc t)))) h = omega arith

-- under the mask 17 a byte has its bits 0 and 4
low_two_bits : (x : ℕ) → x < 32 → bit_and x 17 ≡ x % 2 + x / 16 * 16
unfolding every
low_two_bits = equal 32 (λ x. bit_and x 17) (λ x. x % 2 + x / 16 * 16) tt

two_bits : (x : ℕ) → bit_and x 17 ≡ x % 2 + x / 16 % 2 * 16
two_bits x =
    let small : bit_and x 17 ≡ bit_and x 17 % 32 = omega (arith, and_le_r x 17) in
    let high : x % 32 / 16 ≡ x / 16 % 2 = omega arith in
    let low : x % 32 % 2 ≡ x % 2 = omega arith in
    small ∙ and_mod x 17 5 ∙ low_two_bits (x % 32) (mod-lt x (zero-lt-suc 31)) ∙ ap₂ (λ (l h : ℕ). l + h * 16) low high

-- what two bits of a byte of halves pick is at most 17
pub at_most_17 : (halves : List ℕ) (j t : ℕ) → bit_and (get_or halves j 0 / 2 ^ t) 17 ≤ 17
at_most_17 halves j t = and_le_r (get_or halves j 0 / 2 ^ t) 17

-- and is made of the bits of the two vectors of pair j
picked_bits : (halves : List ℕ) (j t : ℕ) → t < 4
    → bit_and (get_or halves j 0 / 2 ^ t) 17 ≡ half_of halves (j * 2) / 2 ^ t % 2 + half_of halves (suc (j * 2)) / 2 ^ t % 2 * 16
picked_bits halves j t h =
    let x = get_or halves j 0 in
    two_bits (x / 2 ^ t)
    ∙ sym
    (ap₂ (λ (a b : ℕ). a / 2 ^ t % 2 + b / 2 ^ t % 2 * 16) (half_first halves j) (half_second halves j)
    ∙ ap₂ (λ (a b : ℕ). a + b * 16) (low_bit x t h) (high_bit x t h))

-- where the two vectors of pair j stand
first_place : (j : ℕ) → j * 2 / 2 * 2 + (1 + j * 2 % 2 * 15) ≡ j * 2 + 1
first_place j = omega arith

second_place : (j : ℕ) → suc (j * 2) / 2 * 2 + (1 + suc (j * 2) % 2 * 15) ≡ j * 2 + 16
second_place j = omega arith

module _ (count : ℕ) (pairs : List (List ℕ)) (paired : Paired count pairs) (j v : ℕ) (hj : j < count) (hv : v < 64) where
  -- the entry that two bits pick is the sum of the two vectors, each by its bit
  picked : (d e : ℕ) → d < 2 → e < 2 → lane pairs (2 * j + (d + e * 16)) v < 256
      → lane pairs (2 * j + (d + e * 16)) v ≡ d ⊗ lane pairs (j * 2 + 1) v ⊕ e ⊗ lane pairs (j * 2 + 16) v
  picked zero zero hd he below =
      ap (λ (k : ℕ). lane pairs k v) (omega arith) ∙ paired.zeros j v hj hv
      ∙ sym (ap₂ ◌⊕◌ (zero_times (lane pairs (j * 2 + 1) v)) (zero_times (lane pairs (j * 2 + 16) v)) ∙ plus_self 0)
  picked (suc zero) zero hd he below =
      let at : 2 * j + (1 + 0 * 16) ≡ j * 2 + 1 = omega arith in
      let small = subst (λ (k : ℕ). lane pairs k v < 256) at below in
      ap (λ (k : ℕ). lane pairs k v) at
      ∙ sym
      (ap₂ ◌⊕◌ (one_times (lane pairs (j * 2 + 1) v) small) (zero_times (lane pairs (j * 2 + 16) v)) ∙ plus_zero (lane pairs (j * 2 + 1) v))
  picked zero (suc zero) hd he below =
      let at : 2 * j + (0 + 1 * 16) ≡ j * 2 + 16 = omega arith in
      let small = subst (λ (k : ℕ). lane pairs k v < 256) at below in
      ap (λ (k : ℕ). lane pairs k v) at
      ∙ sym
      (ap₂ ◌⊕◌ (zero_times (lane pairs (j * 2 + 1) v)) (one_times (lane pairs (j * 2 + 16) v) small)
      ∙ zero_plus (lane pairs (j * 2 + 16) v))
  picked (suc zero) (suc zero) hd he below =
      let at : 2 * j + (1 + 1 * 16) ≡ j * 2 + 17 = omega arith in
      let both = ap (λ (k : ℕ). lane pairs k v) at ∙ paired.sums j v hj hv in
      let small = subst (λ (x : ℕ). x < 256) both below in
      both ∙ sym (one_times (lane pairs (j * 2 + 1) v ⊕ lane pairs (j * 2 + 16) v) small)
      ∙ distributes 1 (lane pairs (j * 2 + 1) v) (lane pairs (j * 2 + 16) v)
  picked (suc (suc d)) e hd he below = omega arith
  picked zero (suc (suc e)) hd he below = omega arith
  picked (suc zero) (suc (suc e)) hd he below = omega arith

  -- so the sum over the next pair has the entry that its two bits pick
  pub next_pair : (halves : List ℕ) (t : ℕ) → t < 4 → lane pairs (2 * j + bit_and (get_or halves j 0 / 2 ^ t) 17) v < 256
      → sum (j * 2) (term_at halves t pairs v) ⊕ lane pairs (2 * j + bit_and (get_or halves j 0 / 2 ^ t) 17) v
      ≡ sum ((j + 1) * 2) (term_at halves t pairs v)
  unfolding sum vector_of
  next_pair halves t ht below =
      let term = term_at halves t pairs v in
      let bit : ℕ → ℕ = λ i. half_of halves i / 2 ^ t % 2 in
      let entry : 2 * j + bit_and (get_or halves j 0 / 2 ^ t) 17 ≡ 2 * j + (bit (j * 2) + bit (suc (j * 2)) * 16) =
      ap (λ (e : ℕ). 2 * j + e) (picked_bits halves j t ht) in
      let more : suc (suc (j * 2)) ≡ (j + 1) * 2 = omega arith in
      ap (λ (y : ℕ). sum (j * 2) term ⊕ y)
      (ap (λ (e : ℕ). lane pairs e v) entry
      ∙ picked (bit (j * 2)) (bit (suc (j * 2))) (mod-lt (half_of halves (j * 2) / 2 ^ t) (zero-lt-suc 1))
      (mod-lt (half_of halves (suc (j * 2)) / 2 ^ t) (zero-lt-suc 1)) (subst (λ (e : ℕ). lane pairs e v < 256) entry below)
      ∙ ap₂ (λ (k l : ℕ). bit (j * 2) ⊗ lane pairs k v ⊕ bit (suc (j * 2)) ⊗ lane pairs l v) (sym (first_place j)) (sym (second_place j)))
      ∙ sym (plus_assoc (sum (j * 2) term) (term (j * 2)) (term (suc (j * 2))))
      ∙ ap (λ (m : ℕ). sum m term) more

-- ---- the sum by halves from the sums by their bits, the highest first

-- bit 0 of a number
bit_zero : (x : ℕ) → x / 2 ^ 0 % 2 ≡ x % 2
bit_zero x = ap (λ (y : ℕ). y % 2) (div-one x)

-- the sum by the halves without their lowest t bits
abbrev pub upper_sum : List ℕ → List (List ℕ) → ℕ → ℕ → ℕ → ℕ
upper_sum halves pairs count t v = sum (count * 2) (λ i. (half_of halves i / 2 ^ t) ⊗ get_or (vector_of pairs i) v 0)

module _ (halves : List ℕ) (pairs : List (List ℕ)) (count v : ℕ) where
  -- without four bits nothing is left
  pub none_upper : upper_sum halves pairs count 4 v ≡ 0
  none_upper =
      weights_zeros (count * 2) (λ i. get_or (vector_of pairs i) v 0) (λ i. half_of halves i / 2 ^ 4)
      (λ i h. omega (arith, half_below halves i))

  -- one bit more: what the bits above make is doubled, and the sum by the bit is added
  pub next_upper : (t : ℕ) → t < 4
      → 2 ⊗ upper_sum halves pairs count (t + 1) v ⊕ sum (count * 2) (term_at halves t pairs v) ≡ upper_sum halves pairs count t v
  next_upper t h =
      let above : ℕ → ℕ = λ i. (half_of halves i / 2 ^ (t + 1)) ⊗ get_or (vector_of pairs i) v 0 in
      let term = term_at halves t pairs v in
      ap (λ (s : ℕ). s ⊕ sum (count * 2) term) (multiple_of_sum 2 (count * 2) above)
      ∙ sym (sum_plus (count * 2) (λ i. 2 ⊗ above i) term)
      ∙ sum-equal (count * 2) (λ i. 2 ⊗ above i ⊕ term i) (λ i. (half_of halves i / 2 ^ t) ⊗ get_or (vector_of pairs i) v 0)
      (λ i _. next_bit_times (half_of halves i) t (get_or (vector_of pairs i) v 0) (half_below halves i) h)

  -- with all bits it is the sum by the halves
  pub all_upper : upper_sum halves pairs count 0 v ≡ sum (count * 2) (λ i. half_of halves i ⊗ get_or (vector_of pairs i) v 0)
  all_upper =
      weights_equal (count * 2) (λ i. get_or (vector_of pairs i) v 0) (λ i. half_of halves i / 2 ^ 0) (half_of halves)
      (λ i _. div-one (half_of halves i))

-- what stands in lane v of a list that is a table of lanes
pub lane_of : (l : List ℕ) (f : ℕ → ℕ) → l ≡ table 64 f → (v : ℕ) → v < 64 → get_or l v 0 ≡ f v
lane_of l f e v h = ap (λ (l : List ℕ). get_or l v 0) e ∙ get_or-table 64 f v 0 h

-- the sum by the low halves and α times that by the high halves are the sum by the coefficients
pub by_both_halves : (m : ℕ) (lows highs c y : ℕ → ℕ)
    → ((i : ℕ) → i < m → lows i ≡ c i % 16) → ((i : ℕ) → i < m → highs i ≡ c i / 16 % 16)
    → sum m (λ i. lows i ⊗ y i) ⊕ alpha ⊗ sum m (λ i. highs i ⊗ y i) ≡ sum m (λ i. c i ⊗ y i)
unfolding low high
by_both_halves m lows highs c y is-low is-high =
    ap₂ (λ (l h : ℕ). l ⊕ alpha ⊗ h) (weights_equal m y lows (λ i. low (c i)) is-low)
    (weights_equal m y highs (λ i. high (c i)) is-high)
    ∙ sym (weights_parts m y c)

-- ---- halves below 2

-- bits laid over bits are a number below neither
or_above_left : (x y : ℕ) → x ≤ bit_or x y
or_above_left x y = omega (arith, or_add_and x y, and_le_r x y)

or_above_right : (x y : ℕ) → y ≤ bit_or x y
or_above_right x y = omega (arith, or_add_and x y, and_le_l x y)

-- and no half of the one or the other is above theirs
pub under_left : (x y : ℕ) → Under x (bit_or x y)
under_left x y = (
  omega (arith, or_mod x y 4, or_above_left (x % 16) (y % 16)),
  omega (arith, ap (λ (z : ℕ). z % 16) (or_shr x y 4), or_mod (x / 16) (y / 16) 4, or_above_left (x / 16 % 16) (y / 16 % 16)),
)

pub under_right : (x y : ℕ) → Under y (bit_or x y)
under_right x y = (
  omega (arith, or_mod x y 4, or_above_right (x % 16) (y % 16)),
  omega (arith, ap (λ (z : ℕ). z % 16) (or_shr x y 4), or_mod (x / 16) (y / 16) 4, or_above_right (x / 16 % 16) (y / 16 % 16)),
)

-- so no half of a byte is above that of the bits of all of them
pub under_bits : (halves : List ℕ) (count j : ℕ) → j < count → Under (get_or halves j 0) (bits_of halves count)
unfolding bits_of
under_bits halves zero j h = absurd (not-suc-le-zero h)
under_bits halves (suc m) j h =
    let last : ℕ = get_or halves m 0 in
    ⊎_elim (λ (same : j ≡ m). rw same (under_right (bits_of halves m) last))
    (λ below.
    let before = under_bits halves m j below in
    let more = under_left (bits_of halves m) last in
    (le_trans before.0 more.0, le_trans before.1 more.1))
    (eq-or-lt_of_le (le_of_suc-le-suc h))

-- under the mask 0xee a byte has the bits of its halves but their lowest
byte_upper_bits : (x : ℕ) → x < 256 → bit_and x 0xee ≡ x % 16 / 2 * 2 + x / 16 / 2 * 32
unfolding every
byte_upper_bits = equal 256 (λ x. bit_and x 0xee) (λ x. x % 16 / 2 * 2 + x / 16 / 2 * 32) tt

upper_bits : (x : ℕ) → bit_and x 0xee ≡ x % 16 / 2 * 2 + x / 16 % 16 / 2 * 32
upper_bits x =
    let small : bit_and x 0xee ≡ bit_and x 0xee % 256 = omega (arith, and_le_r x 0xee) in
    let high : x % 256 / 16 ≡ x / 16 % 16 = omega arith in
    let low : x % 256 % 16 ≡ x % 16 = omega arith in
    small ∙ and_mod x 0xee 8 ∙ byte_upper_bits (x % 256) (mod-lt x (zero-lt-suc 255))
    ∙ ap₂ (λ (l h : ℕ). l / 2 * 2 + h / 2 * 32) low high

-- where none of these bits is used, each half is below 2
pub halves_small : (halves : List ℕ) (count bits : ℕ) → ((j : ℕ) → j < count → Under (get_or halves j 0) bits) → bit_and bits 0xee ≡ 0
    → (i : ℕ) → i < count * 2 → half_of halves i < 2
halves_small halves count bits under none =
    let both = upper_bits bits in
    each_half halves (λ i x. x < 2) count (λ j h. omega (arith, (under j h).0)) (λ j h. omega (arith, (under j h).1))

-- so one plane added to zeros is the sum by the halves
pub one_plane : (halves : List ℕ) (pairs : List (List ℕ)) (count : ℕ) (l : List ℕ) → ((i : ℕ) → i < count * 2 → half_of halves i < 2)
    → l ≡ table 64 (λ v. get_or (replicate 64 0) v 0 ⊕ sum (count * 2) (term_at halves 0 pairs v)) → l ≡ halves_sum halves pairs count
unfolding halves_sum
one_plane halves pairs count l small e =
    let term = term_at halves 0 pairs in
    let byte : ℕ → ℕ → ℕ = λ v i. get_or (vector_of pairs i) v 0 in
    e
    ∙ table_equal 64 (λ v. get_or (replicate 64 0) v 0 ⊕ sum (count * 2) (term v)) (λ v. sum (count * 2) (λ i. half_of halves i ⊗ byte v i))
    (λ v h.
    ap (λ (x : ℕ). x ⊕ sum (count * 2) (term v)) (get_or-replicate 64 v 0 0 h)
    ∙ zero_plus (sum (count * 2) (term v))
    ∙ sum-equal (count * 2) (term v) (λ i. half_of halves i ⊗ byte v i)
    (λ i below. ap (λ (b : ℕ). b ⊗ byte v i) (bit_zero (half_of halves i) ∙ omega (arith, small i below))))
