-- Each way out is one entry of the table.
use borrow.Author.Tests.{lt-ltb, le-ltb}
use mathlib.Core.Path.{sym, ◌∙◌}
use native.Mathlib.Omega.{arith}
use lib.ListN.{length}
use Rattle.protocol.proofs.HeaderTests.{mark_test}
use Rattle.frames.specs.Fields.{slot_read_cause}
use Rattle.frames.proofs.reading.slot_read_cause.Goals as goal

pub returns-then-frame-lt14 : goal.returns-then-frame-lt14
unfolding slot_read_cause
returns-then-frame-lt14 c =
    rw (lt-ltb (length c.args.frame.now) 14 (omega arith))

pub returns-then-not-agrees : goal.returns-then-not-agrees
unfolding slot_read_cause
returns-then-not-agrees c =
    let mark = mark_test 1 c.settings_at.result 0 c.args.frame.now _ c.header_bytes-head.ensures in
    rw (le-ltb (length c.args.frame.now) 14 (omega (arith, c)), sym mark ∙ sym c.agrees.ensures ∙ c.if-not-agrees.true)

pub returns : goal.returns
unfolding slot_read_cause
returns c =
    let mark = mark_test 1 c.settings_at.result 0 c.args.frame.now _ c.header_bytes-head.ensures in
    rw (le-ltb (length c.args.frame.now) 14 (omega (arith, c)), sym mark ∙ sym c.agrees.ensures ∙ c.if-not-agrees.false)
