-- The loop doubles the lanes from the front; what stands from the index on is as it came.
use mathlib.Core.Path.{ap, ◌∙◌}
use native.Mathlib.Nat.{le_refl}
use native.Mathlib.Omega.{arith}
use Prim.Native.Nat.{ℕ}
use lib.ListN.{get_or, length-set}
use Rattle.galois.specs.Byte.{◌⊗◌}
use Rattle.galois.proofs.ByIndex.{is_table, filled_more, kept_more}
use Rattle.vectors.proofs.sums.double.Goals as goal

pub loop-lane-preserved : goal.loop-lane-preserved
loop-lane-preserved c =
    let at = c.loop-lane.lane-index in
    let value = c.times_z.ensures ∙ ap (λ (y : ℕ). 2 ⊗ y) (c.loop-lane.invariant.2 at (le_refl at)) in (
      simp length-set c.loop-lane.invariant.0,
      filled_more (λ i. 2 ⊗ get_or c.args.sum.now i 0) 0 c.loop-lane.sum at _ (omega arith) value c.loop-lane.invariant.1,
      kept_more (λ i. get_or c.args.sum.now i 0) 0 c.loop-lane.sum at _ c.loop-lane.invariant.2,
    )

pub returns : goal.returns
returns c =
    is_table 64 (λ i. 2 ⊗ get_or c.args.sum.now i 0) 0 c.loop-lane.sum c.loop-lane.invariant.0
    (λ i h. c.loop-lane.invariant.1 i (omega arith))
