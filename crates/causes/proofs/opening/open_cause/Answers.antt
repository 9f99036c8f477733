-- Each way out is one entry of the opening's table.
use borrow.Author.Tests.{eq-eqb, ne_eqb}
use mathlib.Core.Path.{sym, ◌∙◌}
use lib.ListN.{length}
use Rattle.protocol.specs.Causes.{open_cause}
use Rattle.causes.proofs.opening.open_cause.Goals as goal

pub returns-then-not-accepted : goal.returns-then-not-accepted
unfolding open_cause
returns-then-not-accepted c =
    rw (sym c.accepted.ensures ∙ c.if-not-accepted.true)

pub returns-then-rows-size : goal.returns-then-rows-size
unfolding open_cause
returns-then-rows-size c =
    rw (sym c.accepted.ensures ∙ c.if-not-accepted.false, ne_eqb (length c.args.rows.now) c.args.size c.if-rows-size.true)

pub returns : goal.returns
unfolding open_cause
returns c =
    rw (sym c.accepted.ensures ∙ c.if-not-accepted.false, eq-eqb (length c.args.rows.now) c.args.size c.if-rows-size.false)
