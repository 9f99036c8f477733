-- The rows are looked through for one that differs.
use Rattle.std.proofs.Common.{refl, arith, rules, tests}
use Rattle.std.proofs.lemmas.Iterator.{cases_from_any, YieldsList-from_range}
use Rattle.std.proofs.lemmas.List.{get_or_read}
use Rattle.code.specs.Settings.{k_of}
use Rattle.elimination.specs.Elimination.{cell}
use Rattle.elimination.proofs.PivotSearch.{Fit, Unfit}
use Rattle.clashes.proofs.Looks.{differs_any}
use Rattle.clashes.proofs.differing.Goals as goal

pub returns : goal.returns
unfolding cell
returns c =
    let x = c.args.reduced.now in
    differs_any c.args.s x c.args.i c.requires.1 c.any.result
    (cases_from_any _ _ _ (Fit x c.args.i) (Unfit x c.args.i) c.any.ensures.ran
    (YieldsList-from_range 0 c.sources.result (k_of c.args.s) refl (omega arith))
    (λ r q called. grind (arith, tests, get_or_read))
    (λ r q called. (search rules, grind (arith, tests, get_or_read))))
