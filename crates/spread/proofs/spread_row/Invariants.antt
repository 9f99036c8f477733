-- The products over no points are 1; each turn of the loop takes them over one point more.
use mathlib.Core.Path.{◌≡◌}
use Rattle.code.specs.Matrix.{product_row}
use Rattle.spread.proofs.spread_row.Given as goal

abbrev pub invariant-loop-m : goal.invariant-loop-m
invariant-loop-m l = l.products ≡ product_row l.scattered l.row l.m
