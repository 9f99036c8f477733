-- The source symbols that stand in a table of pairs, and the sum of their multiples: a parity symbol of every lane.
use mathlib.Core.Path.{◌≡◌, refl, sym, ap, ◌∙◌, subst}
use mathlib.Core.Bool.{true}
use mathlib.Core.List.{List, []}
use mathlib.Core.Logic.{⊎_elim}
use Prim.Native.Nat.{ℕ, ◌+◌, ◌-◌, ◌*◌, ◌%◌, ◌≤◌, ◌<◌}
use native.Mathlib.Omega.{arith}
use borrow.Author.Tests.{lt-ltb, le-ltb}
use lib.ListN.{get_or, take}
use lib.Seq.{get_or-take, length-take-le}
use Rattle.galois.specs.Byte.{◌⊗◌}
use Rattle.galois.specs.Sum.{sum}
use Rattle.galois.specs.Table.{table}
use Rattle.galois.proofs.ByIndex.{length-table, get_or-table, is_table}
use Rattle.galois.proofs.Cases.{le_or_lt}
use Rattle.gathering.specs.Pairs.{pairs_of, vector_of, byte_of, Wide, gathered_of}
use Rattle.gathering.specs.declared.Source.{Source}
use Rattle.gathering.proofs.PairLaws.{byte_kept}
use Rattle.gathering.proofs.Gathered.{gathered_vector}
use Rattle.vectors.specs.Weighted.{weighted_of}
use Rattle.code.specs.declared.settings.Settings.{Settings}
use Rattle.code.specs.Settings.{accepted, k_of, n_of}
use Rattle.code.specs.Word.{symbol, systematic_of}
use Rattle.code.proofs.Shape.{Shape}
use Rattle.protocol.specs.Frame.{remembered}
use Rattle.protocol.specs.Lengths.{message_len, sender_len}
use Rattle.parity.specs.Sources.{source_in, row_of, source_of}
use Rattle.parity.specs.Parities.{parity_of}
use Rattle.parity.proofs.Places.{source_ends}
use Rattle.parity.proofs.SystematicSums.{symbol_systematic}

-- a source symbol, and what stands past the last one
module _ (s : Settings) (row i : ℕ) where
  abbrev place : ℕ
  place = row * message_len s + i * s.lanes

  pub source_inside : i < k_of s → record { start = place; keep = 255 } ≡ source_in s row i
  unfolding source_in
  source_inside h = rw (lt-ltb i (k_of s) h)

  pub source_past : k_of s ≤ i → record { start = 0; keep = 0 } ≡ source_in s row i
  unfolding source_in
  source_past h = rw (le-ltb i (k_of s) h)

  -- both lie within the rows
  pub source_held : Shape s → row < n_of s - 1 → (source_in s row i).start + s.lanes ≤ sender_len s
  source_held h below =
      let Held : Source → Type 0 = λ x. x.start + s.lanes ≤ sender_len s in
      ⊎_elim (λ past. subst Held (source_past past) (omega (arith, source_ends s h row 0 below (omega arith))))
      (λ one. subst Held (source_inside one) (source_ends s h row i below one)) (le_or_lt (k_of s) i)

-- the row of a source symbol holds the symbol that position p is the sum of
row_remembered : (s : Settings) (rows : List ℕ) (t p i v : ℕ) → i ≤ p → p < n_of s
    → get_or rows (row_of s t p i * message_len s + (i * s.lanes + v)) 0 ≡ remembered s rows t (p - i) i v
unfolding remembered row_of
row_remembered s rows t p i v hi hp =
    let slot : t + (n_of s - 1) - p + i ≡ t + (n_of s - 1) - (p - i) = omega arith in
    ap (λ (x : ℕ). get_or rows (x % (n_of s - 1) * message_len s + (i * s.lanes + v)) 0) slot

module _ (s : Settings) (rows : List ℕ) (t p : ℕ) (pairs : List (List ℕ)) (h : Shape s) (wide : Wide pairs)
    (bytes : (q : ℕ) → get_or rows q 0 < 256) (late : k_of s ≤ p) (within : p < n_of s) where
  -- the table with all of them
  abbrev all : List (List ℕ)
  all = gathered_of rows s.lanes (source_of s t p) (pairs_of (k_of s)) pairs

  -- vector i holds source symbol i of each lane
  gathered_symbol : (i v : ℕ) → i < k_of s → v < s.lanes → get_or (vector_of all i) v 0 ≡ remembered s rows t (p - i) i v
  gathered_symbol i v source lane =
      let row : ℕ = row_of s t p i in
      let here : place s row i + v ≡ row * message_len s + (i * s.lanes + v) = omega arith in
      gathered_vector rows s.lanes (source_of s t p) pairs h.lanes_few wide (pairs_of (k_of s)) i v (omega arith) (omega arith) lane
      ∙ ap (λ (x : Source). byte_of rows x v) (sym (source_inside s row i source))
      ∙ byte_kept rows (record { start = place s row i; keep = 255 }) v (bytes (place s row i + v)) refl
      ∙ ap (λ (q : ℕ). get_or rows q 0) here
      ∙ row_remembered s rows t p i v (omega arith) within

  -- and the first lanes of the sum by column p of the systematic form are the parity symbols of position p
  pub parity_symbols : accepted s ≡ true
      → take s.lanes (weighted_of (systematic_of s) p all (pairs_of (k_of s))) ≡ parity_of s rows t p
  unfolding parity_of weighted_of remembered
  parity_symbols passed =
      let lane : ℕ → ℕ =
      λ v. sum (pairs_of (k_of s) * 2) (λ i. get_or (get_or (systematic_of s) i []) p 0 ⊗ get_or (vector_of all i) v 0) in
      let sums : List ℕ = table 64 lane in
      is_table s.lanes (λ v. symbol s (λ i. remembered s rows t (p - i) i v) p) 0 (take s.lanes sums)
      (length-take-le s.lanes sums (omega (arith, length-table 64 lane, h.lanes_few)))
      (λ v hv.
      get_or-take s.lanes sums v 0 hv
      ∙ get_or-table 64 lane v 0 (omega arith)
      ∙ symbol_systematic s h (λ i. remembered s rows t (p - i) i v) (λ i. bytes _) passed (λ i. get_or (vector_of all i) v 0)
      (λ i hi. gathered_symbol i v hi hv)
      p (omega arith))
