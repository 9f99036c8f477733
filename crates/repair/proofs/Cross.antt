-- A word over the spread form by the parts of its multipliers: it is a + αb for two words of narrow symbols.
-- And the cross word of two bytes x and y: x times the high word and y times the low word, which is 0 wherever the word is 0.
use mathlib.Core.Path.{◌≡◌, sym, ap, ap₂, ◌∙◌}
use Prim.Native.Nat.{ℕ, ◌<◌}
use lib.Dec.{lit<}
use Rattle.galois.specs.Byte.{◌⊕◌, ◌⊗◌, high, low, alpha, widen}
use Rattle.galois.proofs.Xor.{plus_below, zero_plus, plus_self}
use Rattle.galois.proofs.ByteProduct.{high_below, low_below, times_below, times_comm, times_zero}
use Rattle.galois.proofs.Extension.{widen_below, narrow_times, byte_parts_unique, weights_parts}
use Rattle.galois.proofs.Sums.{sum_below, weights_plus, weights_times, weights_zeros}
use Rattle.code.specs.declared.settings.Settings.{Settings}
use Rattle.code.specs.Settings.{k_of}
use Rattle.code.specs.Matrix.{spread}
use Rattle.repair.proofs.SpreadWords.{spread_word}

-- ---- the parts of a word

-- narrow multipliers make a narrow word
narrow_word : (s : Settings) (a : ℕ → ℕ) → ((r : ℕ) → a r < 16) → (p : ℕ) → spread_word s a p < 16
unfolding spread_word
narrow_word s a narrow p =
    sum_below 4 (k_of s) (λ r. a r ⊗ widen (spread s r p))
    (λ r _. narrow_times (a r) (widen (spread s r p)) (narrow r) (widen_below (spread s r p)))

-- the words of the low and of the high parts of the multipliers
abbrev pub low_word : Settings → (ℕ → ℕ) → ℕ → ℕ
low_word s u = spread_word s (λ r. low (u r))

abbrev pub high_word : Settings → (ℕ → ℕ) → ℕ → ℕ
high_word s u = spread_word s (λ r. high (u r))

module _ (s : Settings) (u : ℕ → ℕ) where
  -- both are narrow
  pub low_word_narrow : (p : ℕ) → low_word s u p < 16
  low_word_narrow = narrow_word s (λ r. low (u r)) (λ r. low_below (u r))

  pub high_word_narrow : (p : ℕ) → high_word s u p < 16
  high_word_narrow = narrow_word s (λ r. high (u r)) (λ r. high_below (u r))

  -- the word is the first, and α times the second
  pub word_parts : (p : ℕ) → spread_word s u p ≡ low_word s u p ⊕ alpha ⊗ high_word s u p
  unfolding spread_word
  word_parts p = weights_parts (k_of s) (λ r. widen (spread s r p)) u

  -- multipliers that are 0 make the word 0
  pub spread_zeros : ((r : ℕ) → r < k_of s → u r ≡ 0) → (p : ℕ) → spread_word s u p ≡ 0
  unfolding spread_word
  spread_zeros e p = weights_zeros (k_of s) (λ r. widen (spread s r p)) u e

-- ---- the cross word

-- x times the high part of z, and y times its low part
unfoldable pub cross : ℕ → ℕ → ℕ → ℕ
cross x y z = x ⊗ high z ⊕ y ⊗ low z

-- it is a byte
pub cross_below : (x y z : ℕ) → cross x y z < 256
unfolding cross
cross_below x y z = plus_below 8 (x ⊗ high z) (y ⊗ low z) (times_below x (high z)) (times_below y (low z))

-- it is 0 at 0
pub cross_zero : (x y : ℕ) → cross x y 0 ≡ 0
unfolding cross high low
cross_zero x y = ap₂ ◌⊕◌ (times_zero x) (times_zero y) ∙ plus_self 0

-- and at the byte whose low part is x and whose high part is y
pub cross_self : (z : ℕ) → cross (low z) (high z) z ≡ 0
unfolding cross
cross_self z = ap (λ (t : ℕ). t ⊕ high z ⊗ low z) (times_comm (low z) (high z)) ∙ plus_self (high z ⊗ low z)

module _ (s : Settings) (x y : ℕ) (u : ℕ → ℕ) where
  -- the word of the cross multipliers
  pub word_cross : (p : ℕ) → spread_word s (λ r. cross x y (u r)) p ≡ x ⊗ high_word s u p ⊕ y ⊗ low_word s u p
  unfolding cross spread_word
  word_cross p =
      let g : ℕ → ℕ = λ r. widen (spread s r p) in
      weights_plus (k_of s) g (λ r. x ⊗ high (u r)) (λ r. y ⊗ low (u r))
      ∙ ap₂ ◌⊕◌ (weights_times (k_of s) g x (λ r. high (u r))) (weights_times (k_of s) g y (λ r. low (u r)))

  -- it is 0 where the word of the multipliers is
  pub cross_follows : (p : ℕ) → spread_word s u p ≡ 0 → spread_word s (λ r. cross x y (u r)) p ≡ 0
  cross_follows p e =
      let parts = byte_parts_unique (low_word s u p) (high_word s u p) 0 0 (low_word_narrow s u p) (high_word_narrow s u p)
      (lit< tt) (lit< tt) (sym (word_parts s u p) ∙ e ∙ sym (zero_plus (alpha ⊗ 0) ∙ times_zero alpha)) in
      word_cross p ∙ ap₂ (λ (g l : ℕ). x ⊗ g ⊕ y ⊗ l) parts.1 parts.0
      ∙ ap₂ ◌⊕◌ (times_zero x) (times_zero y) ∙ plus_self 0
