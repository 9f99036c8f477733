-- A lost position from d on: the word is one over the spread form, and keeps k zeros.
use mathlib.Core.Path.{◌≡◌, sym, ap, ◌∙◌}
use mathlib.Core.Bool.{Bool, not}
use Prim.Native.Nat.{ℕ, ◌+◌, ◌≤◌, ◌<◌}
use native.Mathlib.Omega.{arith}
use lib.Dec.{T}
use Rattle.galois.specs.Byte.{◌⊗◌}
use Rattle.galois.proofs.ByteProduct.{zero_times}
use Rattle.code.specs.declared.settings.Settings.{Settings}
use Rattle.code.specs.Settings.{delay_of, k_of, n_of, d_of}
use Rattle.code.specs.Matrix.{entry}
use Rattle.code.specs.Word.{word_at}
use Rattle.code.proofs.Shape.{Shape}
use Rattle.code.proofs.Words.{zero_multipliers}
use Rattle.repair.proofs.SpreadWords.{spread_word, spread_roots}
use Rattle.repair.proofs.Erasures.{Few, count_longer, zeros_from, few_most}
use Rattle.repair.proofs.LateRows.{late, word_late}

module _ (s : Settings) (h : Shape s) (u : ℕ → ℕ) (b : (r : ℕ) → u r < 256) (i : ℕ) (hi : i < k_of s)
    (before : (p : ℕ) → p < i → word_at s u p ≡ 0) (E : ℕ → Bool)
    (heard : (p : ℕ) → i ≤ p → p ≤ i + delay_of s → p < n_of s → T (not (E p)) → word_at s u p ≡ 0) where
  -- the rows below d have the multiplier 0
  late_word : d_of s ≤ i → (p : ℕ) → p < n_of s → word_at s u p ≡ spread_word s (late s u) p
  late_word from p hp =
      word_late s u p hp
      (λ r hr.
      ap (λ (x : ℕ). x ⊗ entry s r p) (zero_multipliers s h u b i (omega arith) before r (omega arith))
      ∙ zero_times (entry s r p))

  -- the lost position is 0
  pub late_loss : d_of s ≤ i → Few s E i → word_at s u i ≡ 0
  late_loss from few =
      let same : (p : ℕ) → p < n_of s → word_at s u p ≡ spread_word s (late s u) p = late_word from in
      let zeros = zeros_from i (n_of s) (spread_word s (late s u)) E (omega arith)
      (λ p hp. sym (same p (omega arith)) ∙ before p hp)
      (λ p low high t. sym (same p high) ∙ heard p low (omega arith) high t) in
      same i (omega arith)
      ∙ spread_roots s h (late s u) (n_of s) (omega arith)
      (omega (arith, zeros, few_most s h E i few, count_longer (n_of s) (i + delay_of s + 1) E (omega arith)))
      i (omega arith)
