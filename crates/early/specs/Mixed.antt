-- Reports and look-ups mixed, in any list: each call gets the state and rows as the call before it returned or left them.
use Rattle.std.specs.Prelude.{List, [], ◌∷◌, ℕ, ℤ}
use Rattle.protocol.specs.declared.Receiver.{Receiver}
use Rattle.protocol.specs.Calls.{Reported, Looked, look_up_of}
use Rattle.protocol.specs.TwoLists.{Report, report_of, ReportMade}

-- a call of a receiver: a report, or the look-up of a message by its number, with the lent message buffer
pub data Call : Type 0 where
  report : Report → Call
  look_up : ℤ → List ℕ → Call

-- what a look-up leaves: the state and rows as they were
abbrev pub left_by : Receiver → List ℕ → Looked → Reported
left_by x rows r = record { reply = r.reply; receiver = x; rows = rows; message = r.message }

-- what comes of a call
abbrev pub call_of : Receiver → List ℕ → Call → Reported
call_of x rows (report call) = report_of x rows call
call_of x rows (look_up number message) = left_by x rows (look_up_of x rows number message)

-- a call that was made: the receiver and rows that it got, and what came of it
pub record CallMade : Type 0 where
  pub before : Receiver
  pub rows : List ℕ
  pub call : Call
  pub after : Reported

-- any list of calls
unfoldable pub calls : Receiver → List ℕ → List Call → List CallMade
calls x rows [] = []
calls x rows (c ∷ cs) =
    let r : Reported = call_of x rows c in
    record { before = x; rows = rows; call = c; after = r } ∷ calls r.receiver r.rows cs

-- the reports among calls that were made
abbrev pub with_report : CallMade → Call → List ReportMade → List ReportMade
with_report m (report call) later = record { before = m.before; rows = m.rows; call = call; after = m.after } ∷ later
with_report m (look_up number message) later = later

unfoldable pub reports_in : List CallMade → List ReportMade
reports_in [] = []
reports_in (m ∷ ms) = with_report m m.call (reports_in ms)
