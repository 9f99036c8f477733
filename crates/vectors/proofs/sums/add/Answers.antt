-- The loop adds the lanes from the front; what stands from v on is as it came.
use mathlib.Core.Path.{ap, ◌∙◌}
use native.Mathlib.Nat.{le_refl}
use native.Mathlib.Omega.{arith}
use Prim.Native.Nat.{ℕ}
use lib.ListN.{get_or, length-set}
use Rattle.galois.specs.Byte.{◌⊕◌}
use Rattle.galois.proofs.ByIndex.{is_table, filled_more, kept_more}
use Rattle.vectors.proofs.sums.add.Goals as goal

pub loop-v-preserved : goal.loop-v-preserved
loop-v-preserved c =
    let value =
    c.sum.ensures ∙ ap (λ (y : ℕ). y ⊕ get_or c.args.vector.now c.loop-v.v 0) (c.loop-v.invariant.2 c.loop-v.v (le_refl c.loop-v.v)) in (
      simp length-set c.loop-v.invariant.0,
      filled_more (λ i. get_or c.args.sum.now i 0 ⊕ get_or c.args.vector.now i 0) 0 c.loop-v.sum c.loop-v.v _ (omega arith) value
          c.loop-v.invariant.1,
      kept_more (λ i. get_or c.args.sum.now i 0) 0 c.loop-v.sum c.loop-v.v _ c.loop-v.invariant.2,
    )

pub returns-clause-sum : goal.returns-clause-sum
returns-clause-sum c =
    is_table 64 (λ i. get_or c.args.sum.now i 0 ⊕ get_or c.args.vector.now i 0) 0 c.loop-v.sum c.loop-v.invariant.0
    (λ i h. c.loop-v.invariant.1 i (omega arith))
