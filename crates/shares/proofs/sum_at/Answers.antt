-- The count of pairs is that of k rows.
use mathlib.Core.Path.{ap, ◌∙◌, subst⁻¹}
use Prim.Native.Nat.{ℕ}
use native.Mathlib.Omega.{arith}
use Rattle.gathering.specs.Pairs.{Paired}
use Rattle.vectors.specs.Weighted.{weighted_of}
use Rattle.code.proofs.Shape.{shape}
use Rattle.shares.proofs.sum_at.Goals as goal

pub weighted-requires : goal.weighted-requires
weighted-requires c =
    let h = shape c.args.s c.requires.0 in
    (omega arith, omega arith, subst⁻¹ (λ (m : ℕ). Paired m c.args.pairs.now) c.pairs.ensures c.requires.1)

pub returns : goal.returns
returns c =
    c.weighted.ensures ∙ ap (λ (m : ℕ). weighted_of c.args.rows.now c.args.q c.args.pairs.now m) c.pairs.ensures
