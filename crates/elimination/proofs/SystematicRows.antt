-- The systematic form, from which elimination starts: unit columns at the sources, bytes, and the words of G.
use mathlib.Core.Path.{◌≡◌, sym, ap, ◌∙◌}
use mathlib.Core.List.{List, []}
use mathlib.Core.Logic.{◌≢◌}
use Prim.Native.Nat.{ℕ, ◌<◌}
use native.Mathlib.Omega.{arith}
use lib.Dec.{T}
use lib.ListN.{get_or}
use Rattle.galois.specs.Byte.{◌⊗◌}
use Rattle.galois.specs.Sum.{sum}
use Rattle.galois.specs.Table.{table}
use Rattle.galois.proofs.ByIndex.{get_or-table}
use Rattle.galois.proofs.Cases.{is_true}
use Rattle.galois.proofs.ByteProduct.{times_below, times_comm, times_zero, one_times}
use Rattle.galois.proofs.Sums.{sum-equal, sum_single, sum_below}
use Rattle.code.specs.declared.settings.Settings.{Settings}
use Rattle.code.specs.Settings.{accepted, k_of}
use Rattle.code.specs.Matrix.{entry}
use Rattle.code.specs.Word.{OfWord, word_at, symbol, unit, systematic_of}
use Rattle.code.proofs.Shape.{Shape, shape}
use Rattle.code.proofs.Words.{unit_self, unit_other, word_at_below, word_of_sum, word_equal}
use Rattle.code.proofs.Symbols.{symbol_below}
use Rattle.code.proofs.Systematic.{unit_multiplier, unit_source, systematic_accepted}
use Rattle.elimination.specs.Elimination.{cell}
use Rattle.elimination.proofs.Spans.{Spans, within_rows}

module _ (s : Settings) (passed : T (accepted s)) where
  -- ---- its entries

  -- an entry, as its table says
  systematic_cell : (r p : ℕ) → r < 16 → p < 16 → cell (systematic_of s) r p ≡ symbol s (unit r) p
  unfolding cell
  systematic_cell r p hr hp =
      ap (λ (l : List (List ℕ)). get_or (get_or l r []) p 0) (sym (systematic_accepted s (is_true (accepted s) passed)))
      ∙ ap (λ (l : List ℕ). get_or l p 0) (get_or-table 16 (λ i. table 16 (λ p. symbol s (unit i) p)) r [] hr)
      ∙ get_or-table 16 (λ p. symbol s (unit r) p) p 0 hp

  -- it is a byte
  pub systematic_below : (r p : ℕ) → r < k_of s → p < 16 → cell (systematic_of s) r p < 256
  systematic_below r p hr hp =
      let h : Shape s = shape s passed in
      rw (systematic_cell r p (omega arith) hp) (symbol_below s (unit r) p)

  -- at a source's position its own row is 1
  pub source_one : (r : ℕ) → r < k_of s → cell (systematic_of s) r r ≡ 1
  source_one r hr =
      let h : Shape s = shape s passed in
      systematic_cell r r (omega arith) (omega arith) ∙ unit_source s h r r hr ∙ unit_self r

  -- and every other row is 0
  pub source_zero : (r p : ℕ) → r < k_of s → p < k_of s → p ≢ r → cell (systematic_of s) r p ≡ 0
  source_zero r p hr hp ne =
      let h : Shape s = shape s passed in
      systematic_cell r p (omega arith) (omega arith) ∙ unit_source s h r p hp ∙ unit_other r p ne

  -- ---- its words

  -- a word is the sum of the units' words, each by its source symbol
  word_of_sources : (u : ℕ → ℕ) → OfWord u → (p : ℕ) → word_at s u p ≡ sum (k_of s) (λ r. word_at s u r ⊗ symbol s (unit r) p)
  unfolding symbol
  word_of_sources u hu p =
      let h : Shape s = shape s passed in
      let x : ℕ → ℕ = word_at s u in
      let own : ℕ → ℕ → ℕ = unit_multiplier s in
      let mine : ℕ → ℕ = λ q. sum (k_of s) (λ r. x r ⊗ own r q) in
      let is_sum : (q : ℕ) → word_at s mine q ≡ sum (k_of s) (λ r. x r ⊗ symbol s (unit r) q) = λ q. word_of_sum s (k_of s) x own q in
      word_equal s h u mine hu
      (λ q. sum_below 8 (k_of s) (λ r. x r ⊗ own r q) (λ r hr. times_below (x r) (own r q)))
      (λ q hq. sym (is_sum q ∙ at_source q hq)) p
      ∙ is_sum p
    where
      -- at a source that sum has one term
      at_source : (q : ℕ) → q < k_of s → sum (k_of s) (λ r. word_at s u r ⊗ symbol s (unit r) q) ≡ word_at s u q
      at_source q hq =
          let h : Shape s = shape s passed in
          let source : (r : ℕ) → symbol s (unit r) q ≡ unit r q = λ r. unit_source s h r q hq in
          sum_single (k_of s) q (λ r. word_at s u r ⊗ symbol s (unit r) q) hq
          (λ r hr ne. ap (λ (y : ℕ). word_at s u r ⊗ y) (source r ∙ unit_other r q (λ same. ne (sym same))) ∙ times_zero (word_at s u r))
          ∙ ap (λ (y : ℕ). word_at s u q ⊗ y) (source q ∙ unit_self q)
          ∙ times_comm (word_at s u q) 1 ∙ one_times (word_at s u q) (word_at_below s u q)

  -- the words are those of G
  pub systematic_spans : Spans (k_of s) 16 (cell (systematic_of s)) (entry s)
  unfolding symbol word_at
  systematic_spans =
      let h : Shape s = shape s passed in
      record {
        there =
            within_rows (k_of s) 16 (cell (systematic_of s)) (entry s) (unit_multiplier s)
            (λ r p hr hp. systematic_cell r p (omega arith) hp);
        back = λ u hu. (
          word_at s u,
          word_at_below s u,
          λ p hp.
              word_of_sources u hu p
              ∙ sum-equal (k_of s) (λ r. word_at s u r ⊗ symbol s (unit r) p) (λ r. word_at s u r ⊗ cell (systematic_of s) r p)
              (λ r hr. ap (λ (y : ℕ). word_at s u r ⊗ y) (sym (systematic_cell r p (omega arith) hp))),
        );
      }
