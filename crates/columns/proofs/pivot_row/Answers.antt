-- The row that is found is the first that can be the pivot.
use Rattle.std.proofs.Common.{arith, rules, tests}
use Rattle.std.proofs.lemmas.Iterator.{first_from_Range}
use Rattle.std.proofs.lemmas.List.{get_or_read}
use Rattle.elimination.specs.Elimination.{cell}
use Rattle.elimination.proofs.PivotSearch.{Fit, Unfit}
use Rattle.columns.proofs.Search.{first_found}
use Rattle.columns.proofs.pivot_row.Goals as goal

pub returns : goal.returns
unfolding cell
returns c =
    let x = c.args.reduced.now in
    first_found x c.args.p c.args.k c.requires.1 c.find.result
    (first_from_Range _ _ _ _ (Fit x c.args.p) (Unfit x c.args.p) c.find.ensures.ran
    (λ r q called. grind (arith, tests, get_or_read))
    (λ r q called. (search rules, grind (arith, tests, get_or_read))))
