-- A lost position below d, with the other losses within B positions: the rows from d on make a word that keeps k zeros, and
-- position T + i gives α times the multiplier of row i.
use mathlib.Core.Path.{◌≡◌, refl, sym, ap, ◌∙◌, subst}
use mathlib.Core.Bool.{Bool, true, false, not}
use Prim.Native.Nat.{ℕ, ◌+◌, ◌-◌, ◌≤◌, ◌<◌}
use native.Mathlib.Omega.{arith}
use lib.Dec.{T, not_T, eqb, ltb, lit<}
use borrow.Author.Tests.{ltb-true, ltb-false}
use Rattle.galois.specs.Bounded.{count}
use Rattle.galois.specs.Byte.{◌⊕◌, ◌⊗◌, alpha, widen}
use Rattle.galois.proofs.Xor.{plus_zero}
use Rattle.galois.proofs.ByteProduct.{times_zero, zero_times}
use Rattle.galois.proofs.Field.{no_zero_divisors}
use Rattle.galois.proofs.ByteField.{bytes}
use Rattle.galois.proofs.Extension.{widen_narrow}
use Rattle.galois.proofs.Sums.{sum_zeros}
use Rattle.galois.proofs.Counting.{count_split, count_all}
use Rattle.code.specs.declared.settings.Settings.{Settings}
use Rattle.code.specs.Settings.{delay_of, k_of, n_of, d_of}
use Rattle.code.specs.Matrix.{spread, entry}
use Rattle.code.specs.Word.{word_at}
use Rattle.code.proofs.Shape.{Shape}
use Rattle.code.proofs.Rows.{spread_zero_low}
use Rattle.code.proofs.Entries.{entry_zero_high, entry_beside}
use Rattle.code.proofs.Words.{word_first, zero_multipliers}
use Rattle.repair.proofs.SpreadWords.{spread_word, spread_roots}
use Rattle.repair.proofs.Erasures.{count_longer, zero_passed}
use Rattle.repair.proofs.LateRows.{late, late_either, word_late, word_alpha}

-- the word of the rows from d on is 0 before position d
late_word_low : (s : Settings) (u : ℕ → ℕ) (p : ℕ) → p < d_of s → spread_word s (late s u) p ≡ 0
unfolding spread_word
late_word_low s u p hp =
    sum_zeros (k_of s) (λ r. late s u r ⊗ widen (spread s r p))
    (λ r hr. late_either (λ x. x ⊗ widen (spread s r p) ≡ 0) s u r (λ _. zero_times (widen (spread s r p)))
    (λ from.
    ap (λ (x : ℕ). u r ⊗ x) (ap widen (spread_zero_low s r p hr (omega arith)) ∙ widen_narrow 0 (lit< tt))
    ∙ times_zero (u r)))

-- a test that passes below d and from b on, up to b + c, passes d + c times below b + c
count_two : (d b c : ℕ) (z : ℕ → Bool) → d ≤ b → ((p : ℕ) → p < d → T (z p)) → ((x : ℕ) → x < c → T (z (b + x)))
    → d + c ≤ count (b + c) z
count_two d b c z h low high =
    omega (arith, count_split b c z, count_longer d b z h, count_all d z low, count_all c (λ x. z (b + x)) high)

-- α is not 0, and a byte
alpha_nonzero : alpha ≡ 0 → ⊥
unfolding alpha
alpha_nonzero e = omega arith

alpha_byte : alpha < 256
unfolding alpha
alpha_byte = lit< tt

module _ (s : Settings) (h : Shape s) (u : ℕ → ℕ) (b : (r : ℕ) → u r < 256) (i : ℕ) (hi : i < d_of s)
    (before : (r : ℕ) → r < i → u r ≡ 0)
    (quiet : (p : ℕ) → i + s.burst ≤ p → p ≤ i + delay_of s → word_at s u p ≡ 0) where
  -- from i + B on, and before T + i, the rows below d add nothing
  early_adds_none : (p : ℕ) → i + s.burst ≤ p → p < i + delay_of s → (r : ℕ) → r < d_of s → u r ⊗ entry s r p ≡ 0
  early_adds_none p low high r hr = place (ltb p (delay_of s)) refl
    where
      row : delay_of s ≤ p → (t : Bool) → ltb r i ≡ t → u r ⊗ entry s r p ≡ 0
      row past true e = ap (λ (x : ℕ). x ⊗ entry s r p) (before r (ltb-true r i e)) ∙ zero_times (entry s r p)
      row past false e =
          let from : i ≤ r = ltb-false r i e in
          ap (λ (x : ℕ). u r ⊗ x) (entry_beside s h r p hr past (omega arith)) ∙ times_zero (u r)

      place : (t : Bool) → ltb p (delay_of s) ≡ t → u r ⊗ entry s r p ≡ 0
      place true e =
          ap (λ (x : ℕ). u r ⊗ x) (entry_zero_high s h r p (omega arith) (omega arith) (ltb-true p (delay_of s) e))
          ∙ times_zero (u r)
      place false e = row (ltb-false p (delay_of s) e) (ltb r i) refl

  -- so there the word of the rows from d on is 0
  late_word_high : (p : ℕ) → i + s.burst ≤ p → p < i + delay_of s → spread_word s (late s u) p ≡ 0
  late_word_high p low high =
      sym (word_late s u p (omega arith) (early_adds_none p low high)) ∙ quiet p low (omega arith)

  -- and so it is 0 at every position
  late_word_zero : (p : ℕ) → p < 16 → spread_word s (late s u) p ≡ 0
  late_word_zero =
      let w : ℕ → ℕ = spread_word s (late s u) in
      let c : ℕ = delay_of s - s.burst in
      let zeros = count_two (d_of s) (i + s.burst) c (λ p. eqb (w p) 0) (omega arith)
      (λ p hp. zero_passed (w p) (late_word_low s u p hp))
      (λ x hx. zero_passed (w (i + s.burst + x)) (late_word_high (i + s.burst + x) (omega arith) (omega arith))) in
      spread_roots s h (late s u) (i + s.burst + c) (omega arith) (omega (arith, zeros))

  -- the multiplier of row i is 0
  first_zero : u i ≡ 0
  first_zero =
      no_zero_divisors bytes alpha (u i) alpha_byte (b i) alpha_nonzero
      (sym
      (word_alpha s h u i hi ∙ ap (λ (x : ℕ). alpha ⊗ u i ⊕ x) (late_word_zero (delay_of s + i) (omega arith))
      ∙ plus_zero (alpha ⊗ u i))
      ∙ quiet (delay_of s + i) (omega arith) (omega arith))

-- a position below d, the first of losses within B positions, is 0
pub burst_loss : (s : Settings) → Shape s → (u : ℕ → ℕ) → ((r : ℕ) → u r < 256) → (i : ℕ) → i < k_of s → i < d_of s
    → ((p : ℕ) → p < i → word_at s u p ≡ 0) → (E : ℕ → Bool)
    → ((p : ℕ) → i ≤ p → p ≤ i + delay_of s → p < n_of s → T (not (E p)) → word_at s u p ≡ 0)
    → ((x : ℕ) → x ≤ delay_of s → T (E (i + x)) → x < s.burst) → word_at s u i ≡ 0
burst_loss s h u b i hi early before E heard burst =
    let zeros : (r : ℕ) → r < i → u r ≡ 0 = zero_multipliers s h u b i (omega arith) before in
    let quiet : (p : ℕ) → i + s.burst ≤ p → p ≤ i + delay_of s → word_at s u p ≡ 0 =
    λ p low high.
    let place : p ≡ i + (p - i) = omega arith in
    heard p (omega arith) high (omega arith)
    (not_T (E p) (λ t. omega (arith, burst (p - i) (omega arith) (subst (λ (q : ℕ). T (E q)) place t)))) in
    word_first s h u b i hi zeros ∙ first_zero s h u b i early zeros quiet
