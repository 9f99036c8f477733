-- A symbol of a word is the sum of the word's first k symbols, each by its entry of the systematic form. The sum goes over pairs of rows.
use mathlib.Core.Path.{◌≡◌, sym, ap, ap₂, ◌∙◌}
use mathlib.Core.Bool.{true}
use mathlib.Core.List.{List, []}
use Prim.Native.Nat.{ℕ, ◌+◌, ◌-◌, ◌*◌, ◌/◌, ◌≤◌, ◌<◌}
use native.Mathlib.Omega.{arith}
use lib.ListN.{get_or}
use Rattle.galois.specs.Byte.{◌⊕◌, ◌⊗◌}
use Rattle.galois.specs.Sum.{sum}
use Rattle.galois.proofs.ByteProduct.{times_below, times_comm, times_zero, zero_times, one_times}
use Rattle.galois.proofs.Xor.{plus_zero}
use Rattle.galois.proofs.Sums.{sum-equal, sum_zeros, sum_single, sum-split, sum_below}
use Rattle.gathering.specs.Pairs.{pairs_of}
use Rattle.code.specs.declared.settings.Settings.{Settings}
use Rattle.code.specs.Settings.{accepted, k_of}
use Rattle.galois.specs.Table.{table}
use Rattle.code.specs.Word.{word_at, multipliers, symbol, unit, systematic_of}
use Rattle.code.proofs.Shape.{Shape}
use Rattle.galois.proofs.ByIndex.{get_or-table}
use Rattle.code.proofs.Words.{unit_self, unit_other, word_of_sum, word_equal}
use Rattle.code.proofs.Symbols.{multiplier_below, symbol_source}
use Rattle.code.proofs.Systematic.{unit_multiplier, unit_source, unit_outside, systematic_accepted}

module _ (s : Settings) (h : Shape s) (x : ℕ → ℕ) (bytes : (r : ℕ) → x r < 256) where
  -- the sum of the units' words, each by its symbol
  abbrev combined : ℕ → ℕ
  combined p = sum (k_of s) (λ r. x r ⊗ symbol s (unit r) p)

  -- begins with the symbols
  combined_source : (p : ℕ) → p < k_of s → combined p ≡ x p
  combined_source p hp =
      sum_single (k_of s) p (λ r. x r ⊗ symbol s (unit r) p) hp
      (λ r hr ne.
      ap (λ (y : ℕ). x r ⊗ y) (unit_source s h r p hp ∙ unit_other r p (λ same. ne (sym same)))
      ∙ times_zero (x r))
      ∙ ap (λ (y : ℕ). x p ⊗ y) (unit_source s h p p hp ∙ unit_self p)
      ∙ times_comm (x p) 1 ∙ one_times (x p) (bytes p)

  -- so it is their word
  pub symbol_combined : (p : ℕ) → symbol s x p ≡ combined p
  unfolding symbol
  symbol_combined p =
      let own : ℕ → ℕ → ℕ = unit_multiplier s in
      let mine : ℕ → ℕ = λ q. sum (k_of s) (λ r. x r ⊗ own r q) in
      let is_sum : (q : ℕ) → word_at s mine q ≡ combined q = λ q. word_of_sum s (k_of s) x own q in
      word_equal s h (λ r. get_or (multipliers s x (k_of s)) r 0) mine (multiplier_below s x bytes (k_of s))
      (λ q. sum_below 8 (k_of s) (λ r. x r ⊗ own r q) (λ r hr. times_below (x r) (own r q)))
      (λ q hq. symbol_source s h x bytes q hq ∙ sym (is_sum q ∙ combined_source q hq)) p
      ∙ is_sum p

  -- the entry of the systematic form in row i and column p
  entry_systematic : accepted s ≡ true → (i p : ℕ) → i < 16 → p < 16 → get_or (get_or (systematic_of s) i []) p 0 ≡ symbol s (unit i) p
  entry_systematic passed i p hi hp =
      ap (λ (l : List (List ℕ)). get_or (get_or l i []) p 0) (sym (systematic_accepted s passed))
      ∙ ap (λ (l : List ℕ). get_or l p 0) (get_or-table 16 (λ i. table 16 (λ p. symbol s (unit i) p)) i [] hi)
      ∙ get_or-table 16 (λ p. symbol s (unit i) p) p 0 hp

  -- the rows from k on are zeros, so that a sum over whole pairs of rows is the symbol, whatever stands at k
  pub symbol_systematic : accepted s ≡ true → (y : ℕ → ℕ) → ((i : ℕ) → i < k_of s → y i ≡ x i) → (p : ℕ) → p < 16
      → sum (pairs_of (k_of s) * 2) (λ i. get_or (get_or (systematic_of s) i []) p 0 ⊗ y i) ≡ symbol s x p
  symbol_systematic passed y same p hp =
      let term : ℕ → ℕ = λ i. get_or (get_or (systematic_of s) i []) p 0 ⊗ y i in
      let over : ℕ = (k_of s + 1) / 2 * 2 - k_of s in
      let few : k_of s + over ≤ 16 = omega arith in
      let whole : (k_of s + 1) / 2 * 2 ≡ k_of s + over = omega arith in
      ap (λ (m : ℕ). sum m term) whole
      ∙ sum-split (k_of s) over term
      ∙ ap (λ (z : ℕ). sum (k_of s) term ⊕ z)
      (sum_zeros over (λ i. term (k_of s + i))
      (λ i hi.
      ap (λ (c : ℕ). c ⊗ y (k_of s + i))
      (entry_systematic passed (k_of s + i) p (omega arith) hp ∙ unit_outside s h (k_of s + i) p (omega arith))
      ∙ zero_times (y (k_of s + i))))
      ∙ plus_zero (sum (k_of s) term)
      ∙ sum-equal (k_of s) term (λ r. x r ⊗ symbol s (unit r) p)
      (λ r hr.
      ap₂ (λ (c b : ℕ). c ⊗ b) (entry_systematic passed r p (omega arith) hp) (same r hr)
      ∙ times_comm (symbol s (unit r) p) (x r))
      ∙ sym (symbol_combined p)
