-- The loop fills the row from the front; the four entries added are those of the digits of c.
use mathlib.Core.List.{[]}
use mathlib.Core.Path.{ap, ◌∙◌}
use native.Mathlib.Omega.{arith}
use Prim.Native.Nat.{ℕ, ◌+◌, ◌/◌, ◌%◌}
use lib.ListN.{get_or, length-set}
use Rattle.galois.specs.Byte.{◌⊕◌}
use Rattle.galois.proofs.ByIndex.{is_table, filled_more}
use Rattle.multiples.specs.Quarters.{digits_at, row_by}
use Rattle.multiples.proofs.rows.row_by.Goals as goal

pub loop-j-preserved : goal.loop-j-preserved
unfolding digits_at
loop-j-preserved c =
    let part : ℕ → ℕ = λ e. get_or (get_or c.args.parts.now e []) c.loop-j.j 0 in
    let two = c.sum-in-loop-j.ensures ∙ ap (λ (y : ℕ). y ⊕ part (8 + c.args.c / 16 % 4)) c.sum.ensures in
    let digits = c.sum-digits.ensures ∙ ap (λ (y : ℕ). y ⊕ part (12 + c.args.c / 64 % 4)) two in (
      simp length-set c.loop-j.invariant.0,
      filled_more (λ i. get_or c.args.row i 0 ⊕ digits_at c.args.parts.now c.args.c i) 0 c.loop-j.out c.loop-j.j _ (omega arith)
          (c.sum-in-loop-j-2.ensures ∙ ap (λ (y : ℕ). get_or c.args.row c.loop-j.j 0 ⊕ y) digits) c.loop-j.invariant.1,
    )

pub returns : goal.returns
unfolding row_by
returns c =
    is_table 16 (λ j. get_or c.args.row j 0 ⊕ digits_at c.args.parts.now c.args.c j) 0 c.loop-j.out c.loop-j.invariant.0
    (λ i h. c.loop-j.invariant.1 i (omega arith))
