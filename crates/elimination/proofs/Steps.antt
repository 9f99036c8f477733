-- What clearing one position by one row does to the matrix, entry by entry; and it keeps the words.
use mathlib.Core.Path.{◌≡◌, refl, sym, ap, ◌∙◌}
use mathlib.Core.Bool.{Bool, true, false, cond}
use mathlib.Core.List.{List, []}
use mathlib.Core.Logic.{◌≢◌, ◌⊎◌, inl, inr, ⊎_elim}
use Prim.Native.Nat.{ℕ, ◌≤◌, ◌<◌}
use native.Mathlib.Omega.{arith}
use lib.Dec.{eqb, ltb}
use lib.ListN.{get_or}
use borrow.Author.Tests.{eq-eqb, ne_eqb, eqb-true, eqb-false, lt-ltb}
use Rattle.galois.specs.Byte.{◌⊕◌, ◌⊗◌, quotient}
use Rattle.galois.proofs.Xor.{plus_below, plus_self, plus_zero}
use Rattle.galois.proofs.ByteProduct.{times_below, times_comm, times_zero, one_times}
use Rattle.galois.proofs.ByteField.{bytes, quotient_times}
use Rattle.galois.proofs.Field.{times_quotient}
use Rattle.galois.specs.Table.{table}
use Rattle.galois.proofs.ByIndex.{get_or-table}
use Rattle.elimination.specs.Elimination.{cell, scaled_at, cleared}
use Rattle.elimination.proofs.Spans.{Spans, spans_step}

-- a row is row r or another
pub same_or_other : (q r : ℕ) → (q ≡ r) ⊎ (q ≢ r)
same_or_other q r = go (eqb q r) refl
  where
    go : (t : Bool) → eqb q r ≡ t → (q ≡ r) ⊎ (q ≢ r)
    go true e = inl (eqb-true q r e)
    go false e = inr (eqb-false q r e)

-- ---- the matrix with position p cleared by row r from its first k rows

module _ (k : ℕ) (hk : k ≤ 16) where
  -- an entry of the first k rows of the new matrix, as its table says
  cell_cleared : (m : List (List ℕ)) (r p q j : ℕ) → q < k → j < 16
      → cell (cleared k m r p) q j ≡ cond (eqb q r) (scaled_at m r p j) (cell m q j ⊕ cell m q p ⊗ scaled_at m r p j)
  unfolding cell cleared
  cell_cleared m r p q j hq hj =
      let changed : ℕ → List ℕ = λ q.
      table 16 (λ j. cond (eqb q r) (scaled_at m r p j) (cell m q j ⊕ cell m q p ⊗ scaled_at m r p j)) in
      ap (λ (l : List ℕ). get_or l j 0)
      (get_or-table 16 (λ q. cond (ltb q k) (changed q) (get_or m q [])) q [] (omega arith)
      ∙ ap (λ (b : Bool). cond b (changed q) (get_or m q [])) (lt-ltb q k hq))
      ∙ get_or-table 16 (λ j. cond (eqb q r) (scaled_at m r p j) (cell m q j ⊕ cell m q p ⊗ scaled_at m r p j)) j 0 hj

  -- row r divided by its entry at p
  pub cleared_pivot : (m : List (List ℕ)) (r p j : ℕ) → r < k → j < 16
      → cell (cleared k m r p) r j ≡ quotient 1 (cell m r p) ⊗ cell m r j
  unfolding scaled_at
  cleared_pivot m r p j hr hj =
      cell_cleared m r p r j hr hj
      ∙ ap (λ (b : Bool). cond b (scaled_at m r p j) (cell m r j ⊕ cell m r p ⊗ scaled_at m r p j)) (eq-eqb r r refl)
      ∙ quotient_times (cell m r j) (cell m r p) ∙ times_comm (cell m r j) (quotient 1 (cell m r p))

  -- any other row, with its entry at p times the new row r added
  pub cleared_other : (m : List (List ℕ)) (r p q j : ℕ) → r < k → q < k → j < 16 → q ≢ r
      → cell (cleared k m r p) q j ≡ cell m q j ⊕ cell m q p ⊗ cell (cleared k m r p) r j
  cleared_other m r p q j hr hq hj ne =
      cell_cleared m r p q j hq hj
      ∙ ap (λ (b : Bool). cond b (scaled_at m r p j) (cell m q j ⊕ cell m q p ⊗ scaled_at m r p j)) (ne_eqb q r ne)
      ∙ ap (λ (z : ℕ). cell m q j ⊕ cell m q p ⊗ z)
      (sym (cell_cleared m r p r j hr hj
      ∙ ap (λ (b : Bool). cond b (scaled_at m r p j) (cell m r j ⊕ cell m r p ⊗ scaled_at m r p j)) (eq-eqb r r refl)))

  -- entries stay bytes
  pub cleared_below : (m : List (List ℕ)) (r p q j : ℕ) → r < k → q < k → j < 16 → cell m q j < 256
      → cell (cleared k m r p) q j < 256
  cleared_below m r p q j hr hq hj hb =
      ⊎_elim (λ same. rw same (rw (cleared_pivot m r p j hr hj) (times_below (quotient 1 (cell m r p)) (cell m r j))))
      (λ ne. rw (cleared_other m r p q j hr hq hj ne)
      (plus_below 8 (cell m q j) (cell m q p ⊗ cell (cleared k m r p) r j) hb
      (times_below (cell m q p) (cell (cleared k m r p) r j))))
      (same_or_other q r)

  -- a position where row r is 0 stays as it was
  pub cleared_kept : (m : List (List ℕ)) (r p q j : ℕ) → r < k → q < k → j < 16 → cell m r j ≡ 0
      → cell (cleared k m r p) q j ≡ cell m q j
  cleared_kept m r p q j hr hq hj e =
      let pivot : cell (cleared k m r p) r j ≡ 0 =
      cleared_pivot m r p j hr hj ∙ ap (λ (z : ℕ). quotient 1 (cell m r p) ⊗ z) e ∙ times_zero (quotient 1 (cell m r p)) in
      ⊎_elim (λ same. rw same (pivot ∙ sym e))
      (λ ne. cleared_other m r p q j hr hq hj ne
      ∙ ap (λ (z : ℕ). cell m q j ⊕ z) (ap (λ (z : ℕ). cell m q p ⊗ z) pivot ∙ times_zero (cell m q p))
      ∙ plus_zero (cell m q j))
      (same_or_other q r)

  -- at position p row r is 1
  pub cleared_one : (m : List (List ℕ)) (r p : ℕ) → r < k → p < 16 → cell m r p < 256 → cell m r p ≢ 0
      → cell (cleared k m r p) r p ≡ 1
  cleared_one m r p hr hp hb ne =
      cleared_pivot m r p p hr hp ∙ times_comm (quotient 1 (cell m r p)) (cell m r p) ∙ times_quotient bytes (cell m r p) hb ne

  -- and every other row is 0
  pub cleared_zero : (m : List (List ℕ)) (r p q : ℕ) → r < k → q < k → p < 16 → cell m r p < 256 → cell m r p ≢ 0
      → cell m q p < 256 → q ≢ r → cell (cleared k m r p) q p ≡ 0
  cleared_zero m r p q hr hq hp hb nz hq-byte ne =
      cleared_other m r p q p hr hq hp ne
      ∙ ap (λ (z : ℕ). cell m q p ⊕ z)
      (ap (λ (z : ℕ). cell m q p ⊗ z) (cleared_one m r p hr hp hb nz) ∙ times_comm (cell m q p) 1 ∙ one_times (cell m q p) hq-byte)
      ∙ plus_self (cell m q p)

  -- the words stay
  pub cleared_spans : (m : List (List ℕ)) (r p : ℕ) → r < k → p < 16 → cell m r p ≢ 0
      → ((q j : ℕ) → q < k → j < 16 → cell m q j < 256) → Spans k 16 (cell (cleared k m r p)) (cell m)
  cleared_spans m r p hr hp nz below =
      spans_step k 16 (cell (cleared k m r p)) (cell m) r (quotient 1 (cell m r p)) (cell m r p) (λ q. cell m q p) hr
      (times_quotient bytes (cell m r p) (below r p hr hp) nz) below
      (λ q j hq hj. cleared_below m r p q j hr hq hj (below q j hq hj))
      (λ j hj. cleared_pivot m r p j hr hj)
      (λ q j hq ne hj. cleared_other m r p q j hr hq hj ne)
