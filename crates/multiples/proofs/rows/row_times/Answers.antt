-- The loop fills the row from the front.
use native.Mathlib.Omega.{arith}
use lib.ListN.{get_or, length-set}
use Rattle.galois.specs.Byte.{◌⊗◌}
use Rattle.galois.proofs.ByIndex.{is_table, filled_more}
use Rattle.multiples.proofs.rows.row_times.Goals as goal

pub loop-j-preserved : goal.loop-j-preserved
loop-j-preserved c = (
  simp length-set c.loop-j.invariant.0,
  filled_more (λ i. c.args.c ⊗ get_or c.args.row i 0) 0 c.loop-j.out c.loop-j.j _ (omega arith) c.product.ensures c.loop-j.invariant.1,
)

pub returns : goal.returns
returns c =
    is_table 16 (λ j. c.args.c ⊗ get_or c.args.row j 0) 0 c.loop-j.out c.loop-j.invariant.0 (λ i h. c.loop-j.invariant.1 i (omega arith))
