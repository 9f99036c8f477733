-- The systematic form by back substitution: each row is G's row with its later source symbols cancelled by the rows after it.
use mathlib.Core.Path.{◌≡◌, refl, sym, ap, ap₂, ◌∙◌}
use mathlib.Core.Bool.{Bool, true, false, cond}
use mathlib.Core.List.{List, []}
use mathlib.Core.Logic.{◌⊎◌, inl, inr, ⊎_elim}
use Prim.Native.Nat.{ℕ, ◌+◌, ◌-◌, ◌≤◌, ◌<◌}
use native.Mathlib.Nat.{eq-or-lt_of_le}
use native.Mathlib.Omega.{arith}
use lib.Dec.{ltb}
use lib.ListN.{get_or}
use borrow.Author.Tests.{ltb-true, ltb-false}
use Rattle.galois.specs.Byte.{◌⊕◌, ◌⊗◌}
use Rattle.galois.specs.Sum.{sum}
use Rattle.galois.specs.Table.{table}
use Rattle.galois.proofs.ByIndex.{get_or-table, table_equal}
use Rattle.galois.proofs.Cases.{le_or_lt}
use Rattle.galois.proofs.Xor.{plus_below, plus_self, plus_zero}
use Rattle.galois.proofs.ByteProduct.{times_below, times_comm, times_zero, zero_times, one_times}
use Rattle.galois.proofs.Sums.{sum-equal, sum_zeros, sum_single, sum_below, sum-split}
use Rattle.code.specs.declared.settings.Settings.{Settings}
use Rattle.code.specs.Settings.{k_of}
use Rattle.code.specs.Matrix.{entry}
use Rattle.code.specs.Word.{word_at, symbol, unit}
use Rattle.code.proofs.Shape.{Shape}
use Rattle.code.proofs.Entries.{entry_below, entry_zero_low, entry_zero_high, entry_one}
use Rattle.code.proofs.Words.{unit_self, unit_other, unit_below, word_of_unit, word_at_plus, word_of_sum, word_equal}
use Rattle.code.proofs.Systematic.{unit_multiplier, unit_multiplier_below, unit_source}
use Rattle.generator.specs.Matrix.{generator_of, band_end}

-- position p of row i of G, plus the rows after i by its later source symbols
abbrev pub back : Settings → ℕ → ℕ → ℕ
back s i p = entry s i p ⊕ sum (k_of s - (i + 1)) (λ e. entry s i (i + 1 + e) ⊗ symbol s (unit (i + 1 + e)) p)

module _ (s : Settings) (h : Shape s) (i : ℕ) (hi : i < k_of s) where
  -- up to its own symbol the sum is 0
  later : (p : ℕ) → p < k_of s → p ≤ i
      → sum (k_of s - (i + 1)) (λ e. entry s i (i + 1 + e) ⊗ symbol s (unit (i + 1 + e)) p) ≡ 0
  later p hp hl =
      sum_zeros (k_of s - (i + 1)) (λ e. entry s i (i + 1 + e) ⊗ symbol s (unit (i + 1 + e)) p)
      (λ e he. ap (λ (x : ℕ). entry s i (i + 1 + e) ⊗ x)
      (unit_source s h (i + 1 + e) p hp ∙ unit_other (i + 1 + e) p (λ same. omega arith))
      ∙ times_zero (entry s i (i + 1 + e)))

  -- at a later source symbol the sum is G's entry
  cancels : (p : ℕ) → p < k_of s → i < p
      → sum (k_of s - (i + 1)) (λ e. entry s i (i + 1 + e) ⊗ symbol s (unit (i + 1 + e)) p) ≡ entry s i p
  cancels p hp after =
      let at : i + 1 + (p - (i + 1)) ≡ p = omega arith in
      sum_single (k_of s - (i + 1)) (p - (i + 1)) (λ e. entry s i (i + 1 + e) ⊗ symbol s (unit (i + 1 + e)) p) (omega arith)
      (λ e he ne. ap (λ (x : ℕ). entry s i (i + 1 + e) ⊗ x)
      (unit_source s h (i + 1 + e) p hp ∙ unit_other (i + 1 + e) p (λ same. ne (omega arith)))
      ∙ times_zero (entry s i (i + 1 + e)))
      ∙ rw at (ap (λ (x : ℕ). entry s i p ⊗ x) (unit_source s h p p hp ∙ unit_self p)
      ∙ times_comm (entry s i p) 1 ∙ one_times (entry s i p) (entry_below s i p))

  -- so its first k symbols are the i-th unit
  back_source : (p : ℕ) → p < k_of s → back s i p ≡ unit i p
  back_source p hp =
      ⊎_elim
      (λ at-or-before.
      ap (λ (x : ℕ). entry s i p ⊕ x) (later p hp at-or-before) ∙ plus_zero (entry s i p)
      ∙ ⊎_elim (λ same. rw same (entry_one s h i hi ∙ sym (unit_self i)))
      (λ before. entry_zero_low s h i p hi before ∙ sym (unit_other i p (λ same. omega arith)))
      (eq-or-lt_of_le at-or-before))
      (λ after. ap (λ (x : ℕ). entry s i p ⊕ x) (cancels p hp after) ∙ plus_self (entry s i p)
      ∙ sym (unit_other i p (λ same. omega arith)))
      (le_or_lt p i)

  -- and it is that unit's word
  pub systematic_step : (p : ℕ) → symbol s (unit i) p ≡ back s i p
  unfolding symbol
  systematic_step p =
      let others : ℕ → ℕ = λ r. sum (k_of s - (i + 1)) (λ e. entry s i (i + 1 + e) ⊗ unit_multiplier s (i + 1 + e) r) in
      let mine : ℕ → ℕ = λ r. unit i r ⊕ others r in
      let is-back : (q : ℕ) → word_at s mine q ≡ back s i q = λ q.
      word_at_plus s (unit i) others q
      ∙ ap₂ ◌⊕◌ (word_of_unit s i hi q)
      (word_of_sum s (k_of s - (i + 1)) (λ e. entry s i (i + 1 + e)) (λ e. unit_multiplier s (i + 1 + e)) q) in
      word_equal s h (unit_multiplier s i) mine (unit_multiplier_below s i)
      (λ r. plus_below 8 (unit i r) (others r) (unit_below i r)
      (sum_below 8 (k_of s - (i + 1)) (λ e. entry s i (i + 1 + e) ⊗ unit_multiplier s (i + 1 + e) r)
      (λ e he. times_below (entry s i (i + 1 + e)) (unit_multiplier s (i + 1 + e) r))))
      (λ q hq. unit_source s h i q hq ∙ sym (is-back q ∙ back_source q hq)) p
      ∙ is-back p

-- ---- the rows as lists

-- an entry of G as it stands in its table
generator_entry : (s : Settings) (g : List (List ℕ)) → g ≡ generator_of s → (i q : ℕ) → i < 16 → q < 16
    → get_or (get_or g i []) q 0 ≡ entry s i q
unfolding generator_of
generator_entry s g same i q hi hq =
    ap (λ (l : List (List ℕ)). get_or (get_or l i []) q 0) same
    ∙ ap (λ (l : List ℕ). get_or l q 0) (get_or-table 16 (λ i. table 16 (λ j. entry s i j)) i [] hi)
    ∙ get_or-table 16 (λ j. entry s i j) q 0 hq

-- ---- the source symbols after a row's own that are not 0

-- the end is k or i + N, whichever is less
pub band_end_lem : (s : Settings) (i : ℕ) → (band_end s i ≤ k_of s) × (band_end s i ≤ i + s.scattered)
    × ((k_of s ≤ band_end s i) ⊎ (i + s.scattered ≤ band_end s i))
unfolding band_end
band_end_lem s i = go (ltb (k_of s) (i + s.scattered)) refl
  where
    go : (t : Bool) → ltb (k_of s) (i + s.scattered) ≡ t
        → let end : ℕ = cond t (k_of s) (i + s.scattered) in
        (end ≤ k_of s) × (end ≤ i + s.scattered) × ((k_of s ≤ end) ⊎ (i + s.scattered ≤ end))
    go true e = let h = ltb-true (k_of s) (i + s.scattered) e in (omega arith, omega arith, inl (omega arith))
    go false e = let h = ltb-false (k_of s) (i + s.scattered) e in (omega arith, omega arith, inr (omega arith))

module _ (s : Settings) (h : Shape s) (i : ℕ) (hi : i < k_of s) where
  -- a row's source symbols are 0 from the end on
  past_end : (q : ℕ) → band_end s i ≤ q → q < k_of s → entry s i q ≡ 0
  past_end q low high =
      ⊎_elim (λ all. omega arith)
      (λ above. entry_zero_high s h i q hi (omega arith) (omega arith))
      (band_end_lem s i).2

  -- so the sum over the later source symbols ends there
  band_sum : (f : ℕ → ℕ) → sum (k_of s - (i + 1)) (λ e. entry s i (i + 1 + e) ⊗ f e)
      ≡ sum (band_end s i - (i + 1)) (λ e. entry s i (i + 1 + e) ⊗ f e)
  band_sum f =
      let term : ℕ → ℕ = λ e. entry s i (i + 1 + e) ⊗ f e in
      let m : ℕ = band_end s i - (i + 1) in
      let n : ℕ = k_of s - band_end s i in
      let ends = band_end_lem s i in
      let all : k_of s - (i + 1) ≡ m + n = ⊎_elim (λ k. omega arith) (λ k. omega arith) ends.2 in
      let from : i + 1 ≤ band_end s i = ⊎_elim (λ k. omega arith) (λ k. omega arith) ends.2 in
      ap (λ (e : ℕ). sum e term) all ∙ sum-split m n term
      ∙ ap (λ (x : ℕ). sum m term ⊕ x)
      (sum_zeros n (λ e. term (m + e))
      (λ e he. ap (λ (x : ℕ). x ⊗ f (m + e)) (past_end (i + 1 + (m + e)) (omega arith) (omega arith)) ∙ zero_times (f (m + e))))
      ∙ plus_zero (sum m term)

-- G's row i with the rows after it cancelled is row i of the systematic form
pub row_done : (s : Settings) → Shape s → (i : ℕ) → i < k_of s → (g rows : List (List ℕ)) (end : ℕ)
    → g ≡ generator_of s → end ≡ band_end s i
    → ((r : ℕ) → i + 1 ≤ r → r < 16 → get_or rows r [] ≡ table 16 (symbol s (unit r)))
    → (row : List ℕ)
    → row ≡ table 16 (λ p. get_or (get_or g i []) p 0
    ⊕ sum (end - (i + 1)) (λ e. get_or (get_or g i []) (i + 1 + e) 0 ⊗ get_or (get_or rows (i + 1 + e) []) p 0))
    → row ≡ table 16 (symbol s (unit i))
row_done s h i hi g rows end same ends done row cancelled =
    let few = (band_end_lem s i).0 in
    cancelled
    ∙ table_equal 16
    (λ p. get_or (get_or g i []) p 0
    ⊕ sum (end - (i + 1)) (λ e. get_or (get_or g i []) (i + 1 + e) 0 ⊗ get_or (get_or rows (i + 1 + e) []) p 0))
    (symbol s (unit i))
    (λ p hp.
    ap₂ ◌⊕◌ (generator_entry s g same i p (omega arith) hp)
    (sum-equal (end - (i + 1))
    (λ e. get_or (get_or g i []) (i + 1 + e) 0 ⊗ get_or (get_or rows (i + 1 + e) []) p 0)
    (λ e. entry s i (i + 1 + e) ⊗ symbol s (unit (i + 1 + e)) p)
    (λ e he.
    ap₂ ◌⊗◌ (generator_entry s g same i (i + 1 + e) (omega arith) (omega arith))
    (ap (λ (l : List ℕ). get_or l p 0) (done (i + 1 + e) (omega arith) (omega arith))
    ∙ get_or-table 16 (symbol s (unit (i + 1 + e))) p 0 hp))
    ∙ ap (λ (m : ℕ). sum (m - (i + 1)) (λ e. entry s i (i + 1 + e) ⊗ symbol s (unit (i + 1 + e)) p)) ends
    ∙ sym (band_sum s h i hi (λ e. symbol s (unit (i + 1 + e)) p)))
    ∙ sym (systematic_step s h i hi p))
