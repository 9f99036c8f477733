-- Document 01, "Two lists, one claim": each call gets the state and rows as the call before it returned or left them.
use Rattle.std.specs.Prelude.{List, [], ◌∷◌, ℕ, drop, replicate}
use Rattle.code.specs.declared.settings.Settings.{Settings}
use Rattle.protocol.specs.declared.Sender.{Sender}
use Rattle.protocol.specs.declared.Receiver.{Receiver}
use Rattle.protocol.specs.Lengths.{row_len}
use Rattle.protocol.specs.Calls.{Sent, Reported, send_of, loss_of, heard_of}

-- a send: the message and the lent frame
pub record Send : Type 0 where
  pub message : List ℕ
  pub frame : List ℕ

-- a send that was made: the sender and rows that it got, and what came of it
pub record SendMade : Type 0 where
  pub before : Sender
  pub rows : List ℕ
  pub call : Send
  pub after : Sent

-- any list of sends
unfoldable pub sends : Sender → List ℕ → List Send → List SendMade
sends x rows [] = []
sends x rows (c ∷ cs) =
    let r : Sent = send_of x rows c.message c.frame in
    record { before = x; rows = rows; call = c; after = r } ∷ sends r.sender r.rows cs

-- a report: of a frame or of a loss, with the lent message buffer
pub data Report : Type 0 where
  heard : List ℕ → List ℕ → Report
  missed : List ℕ → Report

-- what comes of it
unfoldable pub report_of : Receiver → List ℕ → Report → Reported
report_of x rows (heard frame message) = heard_of x rows frame message
report_of x rows (missed message) = loss_of x rows message

-- the row that it writes where it is accepted: 1 and then the frame's body, or zeros
unfoldable pub row_of : Settings → Report → List ℕ
row_of s (heard frame message) = 1 ∷ drop 14 frame
row_of s (missed message) = replicate (row_len s) 0

-- a report that was made: the receiver and rows that it got, and what came of it
pub record ReportMade : Type 0 where
  pub before : Receiver
  pub rows : List ℕ
  pub call : Report
  pub after : Reported

-- any list of reports
unfoldable pub reports : Receiver → List ℕ → List Report → List ReportMade
reports x rows [] = []
reports x rows (c ∷ cs) =
    let r : Reported = report_of x rows c in
    record { before = x; rows = rows; call = c; after = r } ∷ reports r.receiver r.rows cs
