-- The rows from d on keep the spread form at every position; the rows below d leave it from position T on.
use mathlib.Core.Path.{◌≡◌, refl, sym, ap, ◌∙◌}
use mathlib.Core.Bool.{Bool, true, false, cond}
use Prim.Native.Nat.{ℕ, ◌+◌, ◌≤◌, ◌<◌}
use native.Mathlib.Omega.{arith}
use lib.Dec.{eqb, ltb}
use borrow.Author.Tests.{ltb-true, ltb-false, eqb-true, eqb-false, eq-eqb, ne_eqb}
use Rattle.galois.specs.Byte.{◌⊕◌, ◌⊗◌, alpha, widen}
use Rattle.galois.specs.Sum.{sum}
use Rattle.galois.proofs.Xor.{plus_zero, zero_plus}
use Rattle.galois.proofs.ByteProduct.{times_comm, times_zero, zero_times}
use Rattle.galois.proofs.Sums.{sum-equal, sum_single, sum_plus}
use Rattle.code.specs.declared.settings.Settings.{Settings}
use Rattle.code.specs.Settings.{delay_of, k_of, n_of, d_of}
use Rattle.code.specs.Matrix.{spread, entry}
use Rattle.code.specs.Word.{word_at}
use Rattle.code.proofs.Shape.{Shape}
use Rattle.code.proofs.Entries.{entry_spread_before, entry_spread_row, entry_alpha, entry_beside}
use Rattle.repair.proofs.SpreadWords.{spread_word}

-- ---- the multipliers of the rows from d on

-- u from row d on, and 0 in the rows below d
unfoldable pub late : Settings → (ℕ → ℕ) → ℕ → ℕ
late s u r = cond (ltb r (d_of s)) 0 (u r)

-- what holds of 0 in a row below d, and of u in a row from d on, holds of it
pub late_either : (P : ℕ → Type 0) (s : Settings) (u : ℕ → ℕ) (r : ℕ) → (r < d_of s → P 0) → (d_of s ≤ r → P (u r))
    → P (late s u r)
unfolding late
late_either P s u r below from = go (ltb r (d_of s)) refl
  where
    go : (t : Bool) → ltb r (d_of s) ≡ t → P (cond t 0 (u r))
    go true e = below (ltb-true r (d_of s) e)
    go false e = from (ltb-false r (d_of s) e)

-- ---- a word as one over the spread form

-- where the rows below d add nothing, the word is that of the rows from d on
pub word_late : (s : Settings) (u : ℕ → ℕ) (p : ℕ) → p < n_of s → ((r : ℕ) → r < d_of s → u r ⊗ entry s r p ≡ 0)
    → word_at s u p ≡ spread_word s (late s u) p
unfolding word_at spread_word
word_late s u p hp early =
    sum-equal (k_of s) (λ r. u r ⊗ entry s r p) (λ r. late s u r ⊗ widen (spread s r p))
    (λ r hr. late_either (λ x. u r ⊗ entry s r p ≡ x ⊗ widen (spread s r p)) s u r
    (λ below. early r below ∙ sym (zero_times (widen (spread s r p))))
    (λ from. ap (λ (x : ℕ). u r ⊗ x) (entry_spread_row s r p hr hp from)))

module _ (s : Settings) (h : Shape s) (u : ℕ → ℕ) where
  -- before position T every word is one over the spread form
  pub word_before : (p : ℕ) → p < delay_of s → word_at s u p ≡ spread_word s u p
  unfolding word_at spread_word
  word_before p hp =
      sum-equal (k_of s) (λ r. u r ⊗ entry s r p) (λ r. u r ⊗ widen (spread s r p))
      (λ r hr. ap (λ (x : ℕ). u r ⊗ x) (entry_spread_before s r p hr (omega arith) hp))

-- ---- position T + i, for a row i below d

-- x at i, else 0
only : ℕ → ℕ → ℕ → ℕ
only i x r = cond (eqb r i) x 0

-- what it is there, and beside it
only_there : (i x : ℕ) → only i x i ≡ x
unfolding only
only_there i x = rw (eq-eqb i i refl)

only_beside : (i x r : ℕ) → (r ≡ i → ⊥) → only i x r ≡ 0
unfolding only
only_beside i x r ne = rw (ne_eqb r i ne)

module _ (s : Settings) (h : Shape s) (u : ℕ → ℕ) (i : ℕ) (hi : i < d_of s) where
  -- of the rows below d, row i alone adds there, and adds α times its multiplier
  row_below : (r : ℕ) → r < d_of s → u r ⊗ entry s r (delay_of s + i) ≡ only i (alpha ⊗ u i) r
  unfolding only
  row_below r hr = go (eqb r i) refl
    where
      go : (t : Bool) → eqb r i ≡ t → u r ⊗ entry s r (delay_of s + i) ≡ cond t (alpha ⊗ u i) 0
      go true e =
          ap (λ (q : ℕ). u q ⊗ entry s q (delay_of s + i)) (eqb-true r i e)
          ∙ ap (λ (x : ℕ). u i ⊗ x) (entry_alpha s h i hi) ∙ times_comm (u i) alpha
      go false e =
          ap (λ (x : ℕ). u r ⊗ x)
          (entry_beside s h r (delay_of s + i) hr (omega arith) (λ same. eqb-false r i e (omega arith)))
          ∙ times_zero (u r)

  -- what row r adds there
  row_adds : (r : ℕ) → r < k_of s → u r ⊗ entry s r (delay_of s + i)
      ≡ only i (alpha ⊗ u i) r ⊕ late s u r ⊗ widen (spread s r (delay_of s + i))
  row_adds r hr =
      let W : ℕ = widen (spread s r (delay_of s + i)) in
      let one : ℕ = only i (alpha ⊗ u i) r in
      late_either (λ x. u r ⊗ entry s r (delay_of s + i) ≡ one ⊕ x ⊗ W) s u r
      (λ below. row_below r below ∙ sym (ap (λ (x : ℕ). one ⊕ x) (zero_times W) ∙ plus_zero one))
      (λ from.
      ap (λ (x : ℕ). u r ⊗ x) (entry_spread_row s r (delay_of s + i) hr (omega arith) from)
      ∙ sym (ap (λ (x : ℕ). x ⊕ u r ⊗ W) (only_beside i (alpha ⊗ u i) r (omega arith)) ∙ zero_plus (u r ⊗ W)))

  -- symbol T + i is α times multiplier i, and the word of the rows from d on
  pub word_alpha : word_at s u (delay_of s + i) ≡ alpha ⊗ u i ⊕ spread_word s (late s u) (delay_of s + i)
  unfolding word_at spread_word
  word_alpha =
      let rest : ℕ → ℕ = λ r. late s u r ⊗ widen (spread s r (delay_of s + i)) in
      let one : ℕ → ℕ = only i (alpha ⊗ u i) in
      sum-equal (k_of s) (λ r. u r ⊗ entry s r (delay_of s + i)) (λ r. one r ⊕ rest r) row_adds
      ∙ sum_plus (k_of s) one rest
      ∙ ap (λ (x : ℕ). x ⊕ sum (k_of s) rest)
      (sum_single (k_of s) i one (omega arith) (λ r _ ne. only_beside i (alpha ⊗ u i) r ne) ∙ only_there i (alpha ⊗ u i))
