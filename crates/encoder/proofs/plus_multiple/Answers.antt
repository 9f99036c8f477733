-- Each call gives the sum at its position.
use Rattle.std.proofs.Common.{rules}
use Rattle.code.proofs.FromFn.{from_fn_table}
use Rattle.encoder.proofs.plus_multiple.Goals as goal

pub returns : goal.returns
returns c =
    from_fn_table _ _ _ 0 _ 16 c.from_fn.ensures.items
    (λ j y q h called. (search rules, search rules))
