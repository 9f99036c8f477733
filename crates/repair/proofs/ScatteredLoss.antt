-- A lost position below d, with at most N positions lost: where T + i is lost, the word keeps k zeros before T; else its cross
-- word does, and position T + i gives the rest.
use mathlib.Core.Path.{◌≡◌, refl, sym, ap, ◌∙◌, subst⁻¹}
use mathlib.Core.Bool.{Bool, true, false, not}
use mathlib.Core.Logic.{⊎_elim}
use Prim.Native.Nat.{ℕ, ◌+◌, ◌≤◌, ◌<◌}
use native.Mathlib.Nat.{eq-or-lt_of_le}
use native.Mathlib.Omega.{arith}
use lib.Dec.{T}
use Rattle.galois.specs.Bounded.{count}
use Rattle.galois.specs.Byte.{◌⊗◌, high, low, alpha}
use Rattle.galois.proofs.Xor.{plus_cancel}
use Rattle.galois.proofs.Extension.{ratio_zero}
use Rattle.code.specs.declared.settings.Settings.{Settings}
use Rattle.code.specs.Settings.{delay_of, k_of, n_of, d_of}
use Rattle.code.specs.Word.{word_at}
use Rattle.code.proofs.Shape.{Shape}
use Rattle.code.proofs.Words.{word_first, zero_multipliers}
use Rattle.repair.proofs.SpreadWords.{spread_word, spread_roots}
use Rattle.repair.proofs.Erasures.{count_longer, count_next, zeros_from, few_scattered}
use Rattle.repair.proofs.LateRows.{late, late_either, word_before, word_alpha}
use Rattle.repair.proofs.Cross.{low_word, high_word, low_word_narrow, high_word_narrow, word_parts, spread_zeros}
use Rattle.repair.proofs.Cross.{cross, cross_below, cross_zero, cross_self, word_cross, cross_follows}

-- the multipliers of the cross word of row i's parts
crossed : (ℕ → ℕ) → ℕ → ℕ → ℕ
crossed u i r = cross (low (u i)) (high (u i)) (u r)

module _ (s : Settings) (h : Shape s) (u : ℕ → ℕ) (b : (r : ℕ) → u r < 256) (i : ℕ) (hi : i < k_of s) (early : i < d_of s)
    (before : (p : ℕ) → p < i → word_at s u p ≡ 0) (E : ℕ → Bool)
    (heard : (p : ℕ) → i ≤ p → p ≤ i + delay_of s → p < n_of s → T (not (E p)) → word_at s u p ≡ 0)
    (sparse : count (delay_of s + 1) (λ x. E (i + x)) ≤ s.scattered) where
  -- before position T the word is one over the spread form
  same : (p : ℕ) → p < delay_of s → spread_word s u p ≡ word_at s u p
  same p hp = sym (word_before s h u p hp)

  -- the multipliers before i are 0
  zeros : (r : ℕ) → r < i → u r ≡ 0
  zeros = zero_multipliers s h u b i (omega arith) before

  -- where position i + T is lost, the word keeps k zeros before T
  last_lost : T (E (i + delay_of s)) → word_at s u i ≡ 0
  last_lost t =
      let kept = zeros_from i (delay_of s) (spread_word s u) E (omega arith)
      (λ p hp. same p (omega arith) ∙ before p hp)
      (λ p from to clear. same p to ∙ heard p from (omega arith) (omega arith) clear) in
      sym (same i (omega arith))
      ∙ spread_roots s h u (delay_of s) (omega arith)
      (omega (
        arith,
        kept,
        few_scattered s h E i sparse,
        count_next (i + delay_of s) E t,
        count_longer (delay_of s) (i + delay_of s) E (omega arith),
      ))
      i (omega arith)

  -- the cross word is 0 at i
  crossed_there : spread_word s (crossed u i) i ≡ 0
  unfolding crossed
  crossed_there =
      let q : ℕ → ℕ = λ r. cross (low (u i)) (high (u i)) (u r) in
      sym (word_before s h q i (omega arith))
      ∙ word_first s h q (λ r. cross_below (low (u i)) (high (u i)) (u r)) i hi
      (λ r hr. ap (cross (low (u i)) (high (u i))) (zeros r hr) ∙ cross_zero (low (u i)) (high (u i)))
      ∙ cross_self (u i)

  -- and wherever the word is
  crossed_zero : (p : ℕ) → spread_word s u p ≡ 0 → spread_word s (crossed u i) p ≡ 0
  unfolding crossed
  crossed_zero = cross_follows s (low (u i)) (high (u i)) u

  -- so where i is lost it keeps k zeros, and is 0 everywhere
  crossed_everywhere : T (E i) → (p : ℕ) → p < 16 → spread_word s (crossed u i) p ≡ 0
  crossed_everywhere t =
      let kept = zeros_from (i + 1) (delay_of s) (spread_word s (crossed u i)) E (omega arith)
      (λ p hp. ⊎_elim (λ there. subst⁻¹ (λ (q : ℕ). spread_word s (crossed u i) q ≡ 0) there crossed_there)
      (λ below. crossed_zero p (same p (omega arith) ∙ before p below)) (eq-or-lt_of_le {n = p} {m = i} (omega arith)))
      (λ p from to clear. crossed_zero p (same p to ∙ heard p (omega arith) (omega arith) (omega arith) clear)) in
      spread_roots s h (crossed u i) (delay_of s) (omega arith)
      (omega (
        arith,
        kept,
        few_scattered s h E i sparse,
        count_next i E t,
        count_longer (delay_of s) (i + delay_of s + 1) E (omega arith),
      ))

  -- its multipliers are 0
  crossed_none : T (E i) → (r : ℕ) → r < k_of s → crossed u i r ≡ 0
  crossed_none t =
      zero_multipliers s h (crossed u i) bytes (k_of s) (omega arith)
      (λ p hp. word_before s h (crossed u i) p (omega arith) ∙ crossed_everywhere t p (omega arith))
    where
      bytes : (r : ℕ) → crossed u i r < 256
      bytes r = unfold crossed in cross_below (low (u i)) (high (u i)) (u r)

  -- at T + i the parts of the rows from d on are in the ratio of row i's
  late_ratio : T (E i) → (p : ℕ) → low (u i) ⊗ high_word s (late s u) p ≡ high (u i) ⊗ low_word s (late s u) p
  unfolding crossed
  late_ratio t p =
      let x : ℕ = low (u i) in
      let y : ℕ = high (u i) in
      plus_cancel (x ⊗ high_word s (late s u) p) (y ⊗ low_word s (late s u) p)
      (sym (word_cross s x y (late s u) p)
      ∙ spread_zeros s (λ r. cross x y (late s u r))
      (λ r hr. late_either (λ z. cross x y z ≡ 0) s u r (λ _. cross_zero x y) (λ _. crossed_none t r hr)) p)

  -- where i is lost and T + i is not, the multiplier of row i is 0
  first_zero : T (E i) → word_at s u (delay_of s + i) ≡ 0 → u i ≡ 0
  first_zero t last =
      let p : ℕ = delay_of s + i in
      let v : ℕ → ℕ = late s u in
      ratio_zero (u i) (b i) (low_word s v p) (high_word s v p) (low_word_narrow s v p) (high_word_narrow s v p)
      (plus_cancel (alpha ⊗ u i) (spread_word s v p) (sym (word_alpha s h u i early) ∙ last)
      ∙ word_parts s v p)
      (late_ratio t p)

  -- by whether i and T + i are lost
  by_losses : (there last : Bool) → E i ≡ there → E (i + delay_of s) ≡ last → word_at s u i ≡ 0
  by_losses false last e f = heard i (omega arith) (omega arith) (omega arith) (subst⁻¹ (λ (t : Bool). T (not t)) e tt)
  by_losses true true e f = last_lost (subst⁻¹ T f tt)
  by_losses true false e f =
      let place : delay_of s + i ≡ i + delay_of s = omega arith in
      word_first s h u b i hi zeros
      ∙ first_zero (subst⁻¹ T e tt)
      (ap (word_at s u) place
      ∙ heard (i + delay_of s) (omega arith) (omega arith) (omega arith) (subst⁻¹ (λ (t : Bool). T (not t)) f tt))

  -- a position below d, with at most N lost from it on, is 0
  pub scattered_loss : word_at s u i ≡ 0
  scattered_loss = by_losses (E i) (E (i + delay_of s)) refl refl
