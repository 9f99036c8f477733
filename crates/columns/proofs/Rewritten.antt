-- One column step on the lists: what each row becomes.
use mathlib.Core.Path.{◌≡◌, refl, sym, ap, ◌∙◌}
use mathlib.Core.Bool.{Bool, true, false, cond}
use mathlib.Core.List.{List, [], ◌++◌}
use mathlib.Core.Logic.{⊎_elim}
use Prim.Native.Nat.{ℕ, ◌+◌, ◌-◌, ◌≤◌, ◌<◌}
use native.Mathlib.Omega.{arith}
use borrow.Author.Tests.{lt-ltb, le-ltb, eqb-true, eqb-false}
use lib.Dec.{eqb, ltb}
use lib.ListN.{length, get_or, set, drop, replicate, length-set, length-drop, length-append, get_or-append}
use lib.Seq.{get_or-drop, get_or-append-add, get_or-set_same, get_or-set_other}
use Rattle.galois.specs.Reciprocal.{none, element}
use Rattle.galois.specs.Byte.{◌⊕◌, ◌⊗◌, reciprocal, quotient}
use Rattle.galois.specs.Table.{table}
use Rattle.galois.proofs.ByIndex.{get_or-table, is_table, table_equal}
use Rattle.galois.proofs.Cases.{le_or_lt}
use Rattle.galois.proofs.ByteField.{bytes}
use Rattle.galois.proofs.ByteProduct.{times_comm}
use Rattle.galois.proofs.Field.{by_none, by_element, quotient_one}
use Rattle.elimination.specs.declared.reduced.Reduced.{Reduced}
use Rattle.elimination.specs.Elimination.{cell, scaled_at, cleared, pivot_from, pivoted, column_step}

-- row q once row r is the pivot of position p
abbrev pub cleared_row : List (List ℕ) → ℕ → ℕ → ℕ → List ℕ
cleared_row m r p q = table 16 (λ j. cond (eqb q r) (scaled_at m r p j) (cell m q j ⊕ cell m q p ⊗ scaled_at m r p j))

-- row q with position p cleared by the scaled pivot
abbrev pub swept_row : List (List ℕ) → ℕ → ℕ → ℕ → List ℕ
swept_row m r p q = table 16 (λ j. cell m q j ⊕ cell m q p ⊗ scaled_at m r p j)

-- by the scaled pivot, as a list
pub row_swept : (m : List (List ℕ)) (r p q : ℕ)
    → table 16 (λ j. cell m q j ⊕ cell m q p ⊗ get_or (table 16 (scaled_at m r p)) j 0) ≡ swept_row m r p q
row_swept m r p q =
    table_equal 16 (λ j. cell m q j ⊕ cell m q p ⊗ get_or (table 16 (scaled_at m r p)) j 0)
    (λ j. cell m q j ⊕ cell m q p ⊗ scaled_at m r p j)
    (λ j h. ap (λ (x : ℕ). cell m q j ⊕ cell m q p ⊗ x) (get_or-table 16 (scaled_at m r p) j 0 h))

-- the pivot's own row is the scaled one, and every other row is swept
pub row_own : (m : List (List ℕ)) (r p q : ℕ) → eqb q r ≡ true → table 16 (scaled_at m r p) ≡ cleared_row m r p q
row_own m r p q e = rw e refl

pub row_other : (m : List (List ℕ)) (r p q : ℕ) → eqb q r ≡ false → swept_row m r p q ≡ cleared_row m r p q
row_other m r p q e = rw e refl

-- whichever way a test comes out
either : {P : Type 0} (b : Bool) → (b ≡ true → P) → (b ≡ false → P) → P
either true f g = f refl
either false f g = g refl

-- the first k rows swept, and the pivot's row set
pub swept_cleared : (m swept : List (List ℕ)) (k r p : ℕ) → length m ≡ 16 → r < k → k ≤ 16 → length swept ≡ k
    → ((i : ℕ) → i < k → get_or swept i [] ≡ swept_row m r p i)
    → set (swept ++ drop k m) r (table 16 (scaled_at m r p)) ≡ cleared k m r p
unfolding cleared
swept_cleared m swept k r p sixteen inside few long rows =
    is_table 16 (λ i. row (ltb i k) i) [] (set all r pivot) (length-set all r pivot ∙ whole)
    (λ i h. either (eqb i r) (own i) (other i))
  where
    pivot : List ℕ
    pivot = table 16 (scaled_at m r p)

    all : List (List ℕ)
    all = swept ++ drop k m

    row : Bool → ℕ → List ℕ
    row b i = cond b (cleared_row m r p i) (get_or m i [])

    whole : length all ≡ 16
    whole = omega (arith, length-append swept (drop k m), length-drop k m)

    own : (i : ℕ) → eqb i r ≡ true → get_or (set all r pivot) i [] ≡ row (ltb i k) i
    own i e =
        let same : i ≡ r = eqb-true i r e in
        ap (λ (q : ℕ). get_or (set all r pivot) q []) same ∙ get_or-set_same all r pivot [] (omega (arith, whole)) ∙ row_own m r p i e
        ∙ sym (ap (λ (b : Bool). row b i) (lt-ltb i k (omega arith)))

    past : (i : ℕ) → k ≤ i → get_or all i [] ≡ get_or m i []
    past i h =
        let v : ℕ = i - k in
        let place : i ≡ length swept + v = omega arith in
        let back : k + v ≡ i = omega arith in
        ap (λ (j : ℕ). get_or all j []) place ∙ get_or-append-add swept (drop k m) v [] ∙ get_or-drop k m v []
        ∙ ap (λ (j : ℕ). get_or m j []) back

    other : (i : ℕ) → eqb i r ≡ false → get_or (set all r pivot) i [] ≡ row (ltb i k) i
    other i e =
        let kept = get_or-set_other all r i pivot [] (eqb-false i r e) in
        ⊎_elim (λ h. kept ∙ past i h ∙ sym (ap (λ (b : Bool). row b i) (le-ltb i k h)))
        (λ h. kept ∙ get_or-append swept (drop k m) [] i (omega arith) ∙ rows i h ∙ row_other m r p i e
        ∙ sym (ap (λ (b : Bool). row b i) (lt-ltb i k h)))
        (le_or_lt k i)

-- a row by the reciprocal of a byte is the row divided by the byte
pub row_divided : (row : List ℕ) (y r : ℕ) → reciprocal y ≡ element r
    → table 16 (λ j. r ⊗ get_or row j 0) ≡ table 16 (λ j. quotient (get_or row j 0) y)
row_divided row y r e =
    table_equal 16 (λ j. r ⊗ get_or row j 0) (λ j. quotient (get_or row j 0) y)
    (λ j _. times_comm r (get_or row j 0) ∙ sym (by_element bytes (get_or row j 0) y r e))

-- and where there is none the row becomes zeros
pub row_zeros : (row : List ℕ) (y : ℕ) → reciprocal y ≡ none → replicate 16 0 ≡ table 16 (λ j. quotient (get_or row j 0) y)
unfolding table
row_zeros row y e = table_equal 16 (λ j. 0) (λ j. quotient (get_or row j 0) y) (λ j _. sym (by_none bytes (get_or row j 0) y e))

-- a row of bytes divided by 1 stays as it is
pub row_by_one : (row : List ℕ) (y : ℕ) → length row ≡ 16 → ((j : ℕ) → get_or row j 0 < 256) → y ≡ 1
    → row ≡ table 16 (λ j. quotient (get_or row j 0) y)
row_by_one row y n below e =
    is_table 16 (λ j. quotient (get_or row j 0) y) 0 row n
    (λ j h. sym (ap (quotient (get_or row j 0)) e ∙ quotient_one bytes (get_or row j 0) (below j)))

-- ---- one position

-- an unknown position changes nothing
pub unknown_step : (k p : ℕ) (x : Reduced) (b : Bool) → b ≡ false → x ≡ column_step k b p x
unfolding column_step
unknown_step k p x b e = rw (e, column_step)

-- nor does one for which no row can be the pivot
pub no_pivot_step : (k p : ℕ) (x : Reduced) (b : Bool) → b ≡ true → 15 < pivot_from x p 0 k → x ≡ column_step k b p x
unfolding column_step pivoted
no_pivot_step k p x b e h = rw (e, column_step, le-ltb (pivot_from x p 0 k) 16 h, pivoted)
