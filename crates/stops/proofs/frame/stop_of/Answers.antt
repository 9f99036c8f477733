-- A cause of the header is the first; then come the two bounds of the slot.
use mathlib.Core.Path.{sym, ◌∙◌}
use native.Mathlib.Omega.{arith}
use Rattle.protocol.proofs.QuestionMark.{refused_for}
use Rattle.stops.proofs.StopLaws.{stop_header, stop_below, stop_above, passes}
use Rattle.stops.proofs.frame.stop_of.Goals.{then-slot-x-via-then-slot-x, then-slot-x-via-else-slot-x+then-slot-x-gt-LONGEST_GAP}
use Rattle.stops.proofs.frame.stop_of.Goals as goal

pub returns-in_err-header_cause : goal.returns-in_err-header_cause
returns-in_err-header_cause c =
    refused_for _ _ c.from_residual.ensures.1
    ∙ stop_header c.args.x c.args.frame.now _ (sym c.header_cause.ensures ∙ c.in_err-header_cause.was)

pub returns-then-slot-x : goal.returns-then-slot-x
returns-then-slot-x c =
    let own = sym c.header_cause.ensures ∙ c.in_ok-header_cause.was in
    let slot = c.slot_of-slot.ensures in
    elim c.then-slot-x.branch [
      | then-slot-x-via-then-slot-x w ↦ stop_below c.args.x c.args.frame.now own (omega (arith, slot, w.if-slot-x.true))
      | then-slot-x-via-else-slot-x+then-slot-x-gt-LONGEST_GAP w ↦
          stop_above c.args.x c.args.frame.now own (omega (arith, slot, w.if-slot-x.false))
          (omega (arith, slot, w.if-slot-x.false, w.if-slot-x-gt-LONGEST_GAP.true))
    ]

pub returns : goal.returns
returns c =
    let own = sym c.header_cause.ensures ∙ c.in_ok-header_cause.was in
    let slot = c.slot_of-slot.ensures in
    passes c.args.x c.args.frame.now own (omega (arith, slot)) (omega (arith, slot))
