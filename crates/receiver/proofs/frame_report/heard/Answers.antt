-- A cause that is found refuses the frame, and else the report moves on by its row.
use Rattle.std.specs.Prelude.{Ok}
use mathlib.Core.Path.{◌≡◌, sym, ap, ◌∙◌}
use mathlib.Core.List.{List, ◌∷◌}
use native.Mathlib.Omega.{arith}
use Prim.Native.Nat.{ℕ, ◌%◌, ◌≤◌}
use lib.Dec.{T}
use lib.ListN.{length, drop, length-drop}
use Rattle.code.specs.Settings.{accepted}
use Rattle.protocol.specs.declared.Receiver.{Receiver}
use Rattle.protocol.specs.Answers.{Answer}
use Rattle.protocol.specs.Calls.{Reported, told_by, moved_on, heard_of}
use Rattle.protocol.specs.Causes.{frame_cause}
use Rattle.protocol.specs.Lengths.{last_slot, frame_len, row_len, row_count, receiver_len, message_len}
use Rattle.protocol.specs.Rows.{put_row}
use Rattle.protocol.proofs.ReportCauses.{FrameOpen, frame_open}
use Rattle.protocol.proofs.ReportSteps.{heard_stays, heard_moves}
use Rattle.ring.proofs.RowEnds.{kept}
use Rattle.receiver.proofs.frame_report.heard.Goals as goal

-- where no cause was found
module _ (x : Receiver) (rows frame message : List ℕ) (found : Answer) (is : found ≡ frame_cause x rows frame message)
    (none : found ≡ Ok tt) where
  clear : FrameOpen x rows message 1 frame
  clear = frame_open x rows message 1 frame (sym is ∙ none)

  -- the row that is written leaves the rows their length, and the report moves on
  module _ (after : List ℕ)
      (wrote : after ≡ put_row (row_len x.settings) (x.due % row_count x.settings) (1 ∷ drop 14 frame) rows) where
    can_move : T (accepted x.settings) × (x.due ≤ last_slot) × (length after ≡ receiver_len x.settings)
        × (length message ≡ message_len x.settings)
    unfolding frame_len row_len
    can_move =
        let exact = kept x.settings x.due rows (1 ∷ drop 14 frame) clear.rows_exact
        (omega (arith, length-drop 14 frame, clear.frame_exact)) in
        (clear.settings, clear.in_time_lem, ap length wrote ∙ exact, clear.message_exact)

    moves : (r : Reported) → r ≡ told_by x after → r ≡ heard_of x rows frame message
    unfolding moved_on
    moves r told = told ∙ ap (told_by x) wrote ∙ sym (heard_moves x rows frame message (sym is ∙ none))

pub returns-in-Err : goal.returns-in-Err
returns-in-Err c =
    ap (λ r. record { reply = r.answer; receiver = r.state; rows = c.args.rows.now; message = c.args.message.now }) c.refused.ensures
    ∙ sym (heard_stays c.args.x c.args.rows.now c.args.frame.now c.args.message.now _ (sym c.frame_cause.ensures ∙ c.in-Err.is))

pub record_heard-requires : goal.record_heard-requires
record_heard-requires c =
    let f = clear c.args.x c.args.rows.now c.args.frame.now c.args.message.now _ c.frame_cause.ensures c.in_default.is in
    (f.settings, f.rows_exact, f.frame_exact)

pub moved_on-requires : goal.moved_on-requires
moved_on-requires c =
    can_move c.args.x c.args.rows.now c.args.frame.now c.args.message.now _ c.frame_cause.ensures c.in_default.is _ c.record_heard.ensures

pub returns : goal.returns
returns c =
    moves c.args.x c.args.rows.now c.args.frame.now c.args.message.now _ c.frame_cause.ensures c.in_default.is _ c.record_heard.ensures
    _ c.moved_on.ensures
