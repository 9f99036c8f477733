-- The loop sweeps the first k rows, from the first on; those from there on are as they came. The pivot's row is set at the end.
use mathlib.Core.Path.{◌≡◌, ap, ap₂, ◌∙◌}
use mathlib.Core.List.{[], List, ◌++◌}
use native.Mathlib.Nat.{le_refl}
use native.Mathlib.Omega.{arith}
use Prim.Native.Nat.{ℕ, ◌<◌}
use lib.ListN.{get_or, set, take, drop}
use lib.Seq.{length-take-le, get_or-take}
use Rattle.galois.specs.Byte.{◌⊕◌, ◌⊗◌}
use Rattle.galois.specs.Table.{table}
use Rattle.galois.proofs.ByIndex.{filled_more, kept_more}
use Rattle.multiples.specs.Quarters.{row_by}
use Rattle.multiples.proofs.Digits.{row_by_quarters}
use Rattle.elimination.specs.Elimination.{cell, scaled_at}
use Rattle.columns.proofs.Rewritten.{swept_row, row_swept, swept_cleared}
use Rattle.columns.proofs.clear_column.Goals as goal

pub loop-row-preserved : goal.loop-row-preserved
unfolding cell scaled_at
loop-row-preserved c =
    let rows : List (List ℕ) = c.args.rows.now in
    let q : ℕ = c.loop-row.row-index in
    let row : List ℕ = get_or c.loop-row.row-items q [] in
    let below : q < c.args.k = omega (arith, length-take-le c.args.k rows (omega arith)) in
    let came : row ≡ get_or rows q [] = c.loop-row.invariant.1 q (le_refl q) ∙ get_or-take c.args.k rows q [] below in
    let swept : c.row_by.result ≡ swept_row rows c.args.r c.args.p q =
    c.row_by.ensures
    ∙ ap (λ (parts : List (List ℕ)). row_by row (get_or row c.args.p 0) parts) c.quarters-parts.ensures
    ∙ row_by_quarters row c.scaled-pivot.result (get_or row c.args.p 0)
    ∙ ap₂ (λ (row pivot : List ℕ). table 16 (λ j. get_or row j 0 ⊕ get_or row c.args.p 0 ⊗ get_or pivot j 0)) came c.scaled-pivot.ensures
    ∙ row_swept rows c.args.r c.args.p q in (
      filled_more (swept_row rows c.args.r c.args.p) [] c.loop-row.row-items q c.row_by.result (omega arith) swept
          c.loop-row.invariant.0,
      kept_more (λ i. get_or (take c.args.k rows) i []) [] c.loop-row.row-items q c.row_by.result c.loop-row.invariant.1,
    )

pub returns : goal.returns
unfolding cell scaled_at
returns c =
    let rows : List (List ℕ) = c.args.rows.now in
    let long = length-take-le c.args.k rows (omega arith) in
    ap (λ (pivot : List ℕ). set (c.loop-row.row-items ++ drop c.args.k rows) c.args.r pivot) c.scaled-pivot.ensures
    ∙ swept_cleared rows c.loop-row.row-items c.args.k c.args.r c.args.p (omega arith) c.requires.0 c.requires.2 (omega (arith, long))
    (λ i h. c.loop-row.invariant.0 i (omega (arith, long)))
