-- Each call on the bytes that a cut leaves of what is lent: the state that it hands back, and every lent byte after it.
use Rattle.std.specs.Prelude.{List, ◌++◌, ℕ, ◌-◌, length, take, drop}
use Rattle.code.specs.declared.settings.Settings.{Settings}
use Rattle.protocol.specs.declared.Sender.{Sender}
use Rattle.protocol.specs.declared.Receiver.{Receiver}
use Rattle.protocol.specs.States.{sender_at, receiver_at}
use Rattle.protocol.specs.Calls.{Reported, open_sender_of, send_of, open_receiver_of, heard_of, loss_of}
use Rattle.cuts.specs.declared.Call.{Call}

-- the length without the cut, 0 where there is less
abbrev pub end_of : ℕ → ℕ → ℕ
end_of size cut = size - cut

-- the bytes before the cut
unfoldable pub before : ℕ → List ℕ → List ℕ
before cut bytes = take (end_of (length bytes) cut) bytes

-- the bytes of the cut
unfoldable pub behind : ℕ → List ℕ → List ℕ
behind cut bytes = drop (end_of (length bytes) cut) bytes

-- ---- openings

-- what an opening of the sender leaves
pub record SenderOpening : Type 0 where
  pub sender : Sender
  pub rows : List ℕ

-- an opening of the sender
unfoldable pub open_sender_cut : Settings → ℕ → List ℕ → SenderOpening
open_sender_cut s cut rows =
    let o = open_sender_of s (before cut rows) in
    record { sender = o.sender; rows = o.rows ++ behind cut rows }

-- what an opening of the receiver leaves
pub record ReceiverOpening : Type 0 where
  pub receiver : Receiver
  pub rows : List ℕ

-- an opening of the receiver at this slot
unfoldable pub open_receiver_cut : Settings → ℕ → ℕ → List ℕ → ReceiverOpening
open_receiver_cut s slot cut rows =
    let o = open_receiver_of s slot (before cut rows) in
    record { receiver = o.receiver; rows = o.rows ++ behind cut rows }

-- ---- sends

-- what a send leaves
pub record Sending : Type 0 where
  pub sender : Sender
  pub rows : List ℕ
  pub frame : List ℕ

-- a send, in which the message and then the frame are cut after the rows
unfoldable pub send_cut : Call → List ℕ → List ℕ → List ℕ → Sending
send_cut c rows message frame =
    let o =
    send_of (sender_at c.settings c.due) (before c.rows rows) (before c.first message)
    (before c.second frame) in
    record { sender = o.sender; rows = o.rows ++ behind c.rows rows; frame = o.frame ++ behind c.second frame }

-- ---- reports

-- what a report leaves
pub record Reporting : Type 0 where
  pub receiver : Receiver
  pub rows : List ℕ
  pub buffer : List ℕ

-- a report, and the bytes behind its rows and its buffer
unfoldable pub report_cut : Reported → List ℕ → List ℕ → Reporting
report_cut o rows buffer = record { receiver = o.receiver; rows = o.rows ++ rows; buffer = o.message ++ buffer }

-- the report of a frame, in which the frame and then the buffer are cut after the rows
unfoldable pub heard_cut : Call → List ℕ → List ℕ → List ℕ → Reporting
heard_cut c rows frame buffer =
    report_cut
    (heard_of (receiver_at c.settings c.opening c.due) (before c.rows rows) (before c.first frame)
    (before c.second buffer))
    (behind c.rows rows)
    (behind c.second buffer)

-- the report of a loss, in which the buffer is cut after the rows
unfoldable pub loss_cut : Call → List ℕ → List ℕ → Reporting
loss_cut c rows buffer =
    report_cut
    (loss_of (receiver_at c.settings c.opening c.due) (before c.rows rows) (before c.first buffer))
    (behind c.rows rows)
    (behind c.first buffer)
