-- Each way out is one case of a step at a frame.
use mathlib.Core.Path.{◌≡◌, sym, ap, ap₂, ◌∙◌}
use mathlib.Core.List.{List}
use native.Mathlib.Omega.{arith}
use Prim.Native.Nat.{ℕ, ◌+◌, ◌*◌, ◌≤◌}
use lib.Dec.{leb}
use lib.ListN.{length}
use Rattle.protocol.specs.Calls.{Reported}
use Rattle.reporting.specs.Acts.{report_act}
use Rattle.reporting.specs.Outcomes.{printed_on}
use Rattle.reporting.proofs.FrameOutcomes.{frame_stops, frame_reports, stop_line_lem, report_line}
use Rattle.reporting.proofs.at_frame.Goals as goal

fits_kept : (before after line : List ℕ) → length after ≡ length before → 18 + 2 * length before ≤ length line
    → 18 + 2 * length after ≤ length line
fits_kept before after line same fits = omega arith

pub returns-in-Err : goal.returns-in-Err
returns-in-Err c =
    stop_line_lem c.args.line.now _ _ _ _ c.args.p c.args.rows.now c.args.message.now c.in-Err.c
    c.stopped.ensures.player c.stopped.ensures.len c.stopped.ensures.over c.stopped.ensures.line
    ∙ ap (printed_on c.args.line.now)
    (frame_stops c.args.p c.args.frame.now c.args.end c.args.rows.now c.args.message.now c.in-Err.c
    (sym c.stop_of.ensures ∙ c.in-Err.is))

pub told-requires : goal.told-requires
told-requires c =
    fits_kept c.args.message.now c.report_kept-r.new.message c.args.line.now c.report_kept-r.auto.message c.requires.1

pub returns : goal.returns
returns c =
    report_line c.args.line.now _ _ _ _ c.args.p.receiver c.offset_after.result _
    c.told.ensures.player c.told.ensures.len c.told.ensures.over c.told.ensures.line
    ∙ ap₂ (λ (offset : ℕ) (r : Reported). printed_on c.args.line.now (report_act c.args.p.receiver offset r))
    c.offset_after.ensures c.report_kept-r.ensures
    ∙ ap (printed_on c.args.line.now)
    (frame_reports c.args.p c.args.frame.now c.args.end c.args.rows.now c.args.message.now
    (sym c.stop_of.ensures ∙ c.in_default.is)
    _ (ap (λ (n : ℕ). leb n c.args.p.receiver.due) c.slot_of.ensures))
