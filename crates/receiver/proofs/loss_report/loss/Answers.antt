-- A cause that is found refuses the loss, and else the report moves on by a row of zeros.
use Rattle.std.specs.Prelude.{Ok}
use mathlib.Core.Path.{◌≡◌, sym, ap, ◌∙◌}
use mathlib.Core.List.{List}
use Prim.Native.Nat.{ℕ, ◌%◌, ◌≤◌}
use lib.Dec.{T}
use lib.ListN.{length, replicate, length-replicate}
use Rattle.code.specs.Settings.{accepted}
use Rattle.protocol.specs.declared.Receiver.{Receiver}
use Rattle.protocol.specs.Answers.{Answer}
use Rattle.protocol.specs.Calls.{Reported, told_by, moved_on, loss_of}
use Rattle.protocol.specs.Causes.{loss_cause}
use Rattle.protocol.specs.Lengths.{last_slot, row_len, row_count, receiver_len, message_len}
use Rattle.protocol.specs.Rows.{put_row}
use Rattle.protocol.proofs.ReportCauses.{LossOpen, loss_open}
use Rattle.protocol.proofs.ReportSteps.{loss_stays, loss_moves}
use Rattle.ring.proofs.RowEnds.{kept}
use Rattle.receiver.proofs.loss_report.loss.Goals as goal

-- where no cause was found
module _ (x : Receiver) (rows message : List ℕ) (found : Answer) (is : found ≡ loss_cause x rows message) (none : found ≡ Ok tt) where
  clear : LossOpen x rows message
  clear = loss_open x rows message (sym is ∙ none)

  -- the zeros that are written leave the rows their length, and the report moves on
  module _ (after : List ℕ)
      (wrote : after ≡ put_row (row_len x.settings) (x.due % row_count x.settings) (replicate (row_len x.settings) 0) rows) where
    can_move : T (accepted x.settings) × (x.due ≤ last_slot) × (length after ≡ receiver_len x.settings)
        × (length message ≡ message_len x.settings)
    can_move =
        let size = row_len x.settings in
        let exact = kept x.settings x.due rows (replicate size 0) clear.rows_exact (length-replicate size 0) in
        (clear.settings, clear.in_time_lem, ap length wrote ∙ exact, clear.message_exact)

    moves : (r : Reported) → r ≡ told_by x after → r ≡ loss_of x rows message
    unfolding moved_on
    moves r told = told ∙ ap (told_by x) wrote ∙ sym (loss_moves x rows message (sym is ∙ none))

pub returns-in-Err : goal.returns-in-Err
returns-in-Err c =
    ap (λ r. record { reply = r.answer; receiver = r.state; rows = c.args.rows.now; message = c.args.message.now }) c.refused.ensures
    ∙ sym (loss_stays c.args.x c.args.rows.now c.args.message.now _ (sym c.loss_cause.ensures ∙ c.in-Err.is))

pub record_lost-requires : goal.record_lost-requires
record_lost-requires c =
    let f = clear c.args.x c.args.rows.now c.args.message.now _ c.loss_cause.ensures c.in_default.is in (f.settings, f.rows_exact)

pub moved_on-requires : goal.moved_on-requires
moved_on-requires c =
    can_move c.args.x c.args.rows.now c.args.message.now _ c.loss_cause.ensures c.in_default.is _ c.record_lost.ensures

pub returns : goal.returns
returns c =
    moves c.args.x c.args.rows.now c.args.message.now _ c.loss_cause.ensures c.in_default.is _ c.record_lost.ensures _ c.moved_on.ensures
