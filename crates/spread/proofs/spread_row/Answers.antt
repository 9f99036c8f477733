-- The products over no points are 1; each turn of the loop takes them over one point more.
use mathlib.Core.Path.{◌≡◌, refl, ◌∙◌}
use native.Mathlib.Omega.{arith}
use Prim.Native.Nat.{◌+◌, ◌-◌}
use Rattle.galois.specs.Table.{table}
use Rattle.code.specs.Matrix.{product, product_row}
use Rattle.code.proofs.Products.{row_step}
use Rattle.spread.proofs.spread_row.Goals as goal

pub loop-m-init : goal.loop-m-init
unfolding product product_row table
loop-m-init c = refl

pub loop-m-preserved : goal.loop-m-preserved
loop-m-preserved c =
    let fewer : c.loop-m.m + 1 - 1 ≡ c.loop-m.m = omega arith in
    c.with_point-next.ensures
    ∙ row_step c.args.scattered c.args.row (c.loop-m.m + 1) c.zero_point.result c.loop-m.products (omega arith)
    (rw fewer c.loop-m.invariant) (rw fewer c.zero_point.ensures)
