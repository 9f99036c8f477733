-- What a step comes to at a frame, as a function of the player, its rows and its message buffer.
use Rattle.std.specs.Prelude.{Bool, true, false, List, ℕ, ltb, Ok, Err}
use Rattle.protocol.specs.declared.Receiver.{Receiver}
use Rattle.protocol.specs.declared.Cause.{Cause}
use Rattle.protocol.specs.Calls.{Reported, message_due, loss_of, heard_of}
use Rattle.lines.specs.Text.{stop_line, line_of}
use Rattle.frames.specs.Fields.{slot_in}
use Rattle.stops.specs.Stops.{frame_stop}
use Rattle.progress.specs.declared.Player.{Player}
use Rattle.progress.specs.Refusal.{refuses}

-- what a step prints, what it leaves, and whether it is the last
pub record Act : Type 0 where
  pub player : Player
  pub rows : List ℕ
  pub message : List ℕ
  pub text : List ℕ
  pub over : Bool

-- a refusal
unfoldable pub stop_act : Player → List ℕ → List ℕ → Cause → Act
stop_act p rows message c = record { player = p; rows = rows; message = message; text = stop_line c; over = true }

-- a report of the slot due, after which the next frame starts at this offset; a refused one is the last
unfoldable pub report_act : Receiver → ℕ → Reported → Act
report_act x offset r =
    record {
      player = record { receiver = r.receiver; offset = offset };
      rows = r.rows;
      message = r.message;
      text = line_of (message_due x.settings x.due) r.reply r.message;
      over = refuses r.reply;
    }

-- at a frame that ends at this offset: it stops the player, or the slot due is below its own and is lost, or it is reported
unfoldable pub frame_act : Player → List ℕ → ℕ → List ℕ → List ℕ → Act
frame_act p frame end rows message =
    let x : Receiver = p.receiver in
    elim (frame_stop x frame) [
      | Err c ↦ stop_act p rows message c
      | Ok tt ↦ elim (ltb x.due (slot_in frame)) [
        | true ↦ report_act x p.offset (loss_of x rows message)
        | false ↦ report_act x end (heard_of x rows frame message)
      ]
    ]
