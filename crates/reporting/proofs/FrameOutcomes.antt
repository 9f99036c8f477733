-- What each way out of a step at a frame gives back, by the tests before it.
use Rattle.std.specs.Prelude.{Ok, Err}
use mathlib.Core.Path.{◌≡◌, refl, sym}
use mathlib.Core.Bool.{Bool, true, false, cond}
use mathlib.Core.List.{List}
use Prim.Native.Nat.{ℕ}
use lib.Dec.{leb}
use lib.ListN.{length}
use borrow.Author.Tests.{lt-ltb, le-ltb, leb-true, leb-false}
use Rattle.protocol.specs.declared.Receiver.{Receiver}
use Rattle.protocol.specs.declared.Cause.{Cause}
use Rattle.protocol.specs.Calls.{Reported, message_due}
use Rattle.protocol.specs.TwoLists.{report_of}
use Rattle.terminal.specs.Given.{report_in}
use Rattle.lines.specs.Text.{stop_line, line_of, written}
use Rattle.frames.specs.Fields.{slot_in}
use Rattle.stops.specs.Stops.{frame_stop}
use Rattle.progress.specs.declared.Player.{Player}
use Rattle.progress.specs.Refusal.{refuses}
use Rattle.reporting.specs.Acts.{Act, stop_act, report_act, frame_act}
use Rattle.reporting.specs.Outcomes.{printed_on}

-- ---- at a frame

module _ (p : Player) (frame : List ℕ) (end : ℕ) (rows message : List ℕ) where
  pub frame_stops : (c : Cause) → frame_stop p.receiver frame ≡ Err c
      → stop_act p rows message c ≡ frame_act p frame end rows message
  unfolding frame_act
  frame_stops c e = rw (e, frame_act)

  -- one that passes is reported where its slot is due, else the slot due is a loss
  pub frame_reports : frame_stop p.receiver frame ≡ Ok tt → (heard : Bool) → heard ≡ leb (slot_in frame) p.receiver.due
      → report_act p.receiver (cond heard end p.offset) (report_of p.receiver rows (report_in heard frame message))
      ≡ frame_act p frame end rows message
  unfolding frame_act report_of report_in
  frame_reports passed true e =
      rw (passed, frame_act)
      (rw (le-ltb p.receiver.due (slot_in frame) (leb-true (slot_in frame) p.receiver.due (sym e))) refl)
  frame_reports passed false e =
      rw (passed, frame_act)
      (rw (lt-ltb p.receiver.due (slot_in frame) (leb-false (slot_in frame) p.receiver.due (sym e))) refl)

-- ---- on a line

-- the parts that a step gives back are those of its act
module _ (line : List ℕ) (q : Player) (now : List ℕ) (len : ℕ) (over : Bool) where
  pub on_line : (a : Act) → q ≡ a.player → len ≡ length a.text → over ≡ a.over → now ≡ written a.text line
      → record { player = q; rows = a.rows; message = a.message; out = now; len = len; over = over } ≡ printed_on line a
  unfolding printed_on
  on_line a same long ended wrote = rw (same, long, ended, wrote) refl

  -- a refusal
  pub stop_line_lem : (p : Player) (rows message : List ℕ) (c : Cause)
      → q ≡ p → len ≡ length (stop_line c) → over ≡ true → now ≡ written (stop_line c) line
      → record { player = q; rows = rows; message = message; out = now; len = len; over = over }
      ≡ printed_on line (stop_act p rows message c)
  unfolding stop_act
  stop_line_lem p rows message c = on_line (stop_act p rows message c)

  -- a report
  pub report_line : (x : Receiver) (offset : ℕ) (r : Reported)
      → q ≡ record { receiver = r.receiver; offset = offset }
      → len ≡ length (line_of (message_due x.settings x.due) r.reply r.message)
      → over ≡ refuses r.reply
      → now ≡ written (line_of (message_due x.settings x.due) r.reply r.message) line
      → record { player = q; rows = r.rows; message = r.message; out = now; len = len; over = over }
      ≡ printed_on line (report_act x offset r)
  unfolding report_act
  report_line x offset r = on_line (report_act x offset r)
