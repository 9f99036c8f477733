-- Theorem 3: one codeword repairs its first lost position, where few of the positions from there on are lost.
use mathlib.Core.Path.{◌≡◌, refl}
use mathlib.Core.Bool.{Bool, true, false, not}
use mathlib.Core.Logic.{inl, inr}
use Prim.Native.Nat.{ℕ, ◌+◌, ◌≤◌, ◌<◌}
use lib.Dec.{T, ltb}
use borrow.Author.Tests.{ltb-true, ltb-false}
use Rattle.code.specs.declared.settings.Settings.{Settings}
use Rattle.code.specs.Settings.{delay_of, k_of, n_of, d_of}
use Rattle.code.specs.Word.{word_at}
use Rattle.code.proofs.Shape.{Shape}
use Rattle.repair.proofs.Erasures.{Few, OneCodeword}
use Rattle.repair.proofs.LateLoss.{late_loss}
use Rattle.repair.proofs.BurstLoss.{burst_loss}
use Rattle.repair.proofs.ScatteredLoss.{scattered_loss}

module _ (s : Settings) (h : Shape s) (u : ℕ → ℕ) (b : (r : ℕ) → u r < 256) (i : ℕ) (hi : i < k_of s)
    (before : (p : ℕ) → p < i → word_at s u p ≡ 0) (E : ℕ → Bool)
    (heard : (p : ℕ) → i ≤ p → p ≤ i + delay_of s → p < n_of s → T (not (E p)) → word_at s u p ≡ 0) where
  -- by whether i is below d, and then by which few are lost
  by_place : (t : Bool) → ltb i (d_of s) ≡ t → Few s E i → word_at s u i ≡ 0
  by_place true e (inl sparse) = scattered_loss s h u b i hi (ltb-true i (d_of s) e) before E heard sparse
  by_place true e (inr burst) = burst_loss s h u b i hi (ltb-true i (d_of s) e) before E heard burst
  by_place false e few = late_loss s h u b i hi before E heard (ltb-false i (d_of s) e) few

-- one codeword repairs its first lost position
pub one_codeword : (s : Settings) → Shape s → OneCodeword s
one_codeword s h u b i hi before E heard = by_place s h u b i hi before E heard (ltb i (d_of s)) refl
