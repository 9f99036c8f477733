-- Lists of calls on one state and its rows: each call gets both as the call before it left them.
use Rattle.std.specs.Prelude.{cond, List, [], ◌∷◌, ℕ, ◌+◌}
use Rattle.protocol.specs.TwoLists.{Send, Report, heard, missed}
use Rattle.early.specs.Mixed.{Call, report, look_up}
use Rattle.layout.specs.Numbers.{acceptance}
use Rattle.library.specs.Calls.{Sending, send_bytes, Reporting, heard_bytes, lost_bytes, Looking, look_up_bytes}

-- the slot due after a call, by its reply: one more where it was accepted, the same where it was refused
abbrev pub due_after : ℕ → ℕ → ℕ
due_after due reply = cond (acceptance reply) (due + 1) due

-- a send that was made: the slot due, what it was lent by the caller, and what came of it
pub record SendDone : Type 0 where
  pub due : ℕ
  pub call : Send
  pub after : Sending

-- the sends of a list
unfoldable pub sends_bytes : ℕ → List ℕ → List ℕ → List Send → List SendDone
sends_bytes due state rows [] = []
sends_bytes due state rows (c ∷ cs) =
    let b : Sending = send_bytes state rows c.message c.frame in
    record { due = due; call = c; after = b } ∷ sends_bytes (due_after due b.reply) b.state b.rows cs

-- one report: of a frame, or of a loss
unfoldable pub report_bytes : List ℕ → List ℕ → Report → Reporting
report_bytes state rows (heard frame message) = heard_bytes state rows frame message
report_bytes state rows (missed message) = lost_bytes state rows message

-- a report that was made: the slot due, what it was lent by the caller, and what came of it
pub record ReportDone : Type 0 where
  pub due : ℕ
  pub call : Report
  pub after : Reporting

-- the reports of a list
unfoldable pub reports_bytes : ℕ → List ℕ → List ℕ → List Report → List ReportDone
reports_bytes due state rows [] = []
reports_bytes due state rows (c ∷ cs) =
    let b : Reporting = report_bytes state rows c in
    record { due = due; call = c; after = b } ∷ reports_bytes (due_after due b.reply) b.state b.rows cs

-- ---- reports and look-ups mixed

-- one call: a look-up leaves the state and rows
abbrev pub call_bytes : List ℕ → List ℕ → Call → Reporting
call_bytes state rows (report call) = report_bytes state rows call
call_bytes state rows (look_up number message) =
    let r : Looking = look_up_bytes state rows number message in
    record { reply = r.reply; state = state; rows = rows; message = r.message }

-- the slot due after it
abbrev pub due_after_call : ℕ → Call → ℕ → ℕ
due_after_call due (report call) reply = due_after due reply
due_after_call due (look_up number message) reply = due

-- a call that was made: the slot due, what it was lent by the caller, and what came of it
pub record CallDone : Type 0 where
  pub due : ℕ
  pub call : Call
  pub after : Reporting

-- the calls of a list
unfoldable pub calls_bytes : ℕ → List ℕ → List ℕ → List Call → List CallDone
calls_bytes due state rows [] = []
calls_bytes due state rows (c ∷ cs) =
    let b : Reporting = call_bytes state rows c in
    record { due = due; call = c; after = b } ∷ calls_bytes (due_after_call due c b.reply) b.state b.rows cs

-- the reports among them
abbrev pub with_report : CallDone → Call → List ReportDone → List ReportDone
with_report b (report call) later = record { due = b.due; call = call; after = b.after } ∷ later
with_report b (look_up number message) later = later

unfoldable pub reports_in_bytes : List CallDone → List ReportDone
reports_in_bytes [] = []
reports_in_bytes (b ∷ bs) = with_report b b.call (reports_in_bytes bs)
