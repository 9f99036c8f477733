-- Each call gives the product at its position.
use Rattle.std.proofs.Common.{rules}
use Rattle.code.specs.Matrix.{gf16}
use Rattle.code.proofs.Rows.{factor_once}
use Rattle.code.proofs.FromFn.{from_fn_table}
use Rattle.spread.proofs.with_point.Goals as goal

pub returns : goal.returns
returns c =
    from_fn_table _ _ _ (gf16 0) _ 16 c.from_fn.ensures.items
    (λ j y q h called. (search (rules, factor_once), search rules))
