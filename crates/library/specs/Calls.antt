-- Each call of the static library, as a function of every lent list. Refused for its first cause, it changes nothing; else it is protocol's
-- call on the state that the bytes keep, and the next state is written over them.
use Rattle.std.specs.Prelude.{cond, List, ℕ, ℤ, Ok, Err}
use Rattle.code.specs.declared.settings.Settings.{Settings}
use Rattle.code.specs.Settings.{accepted}
use Rattle.protocol.specs.Lengths.{sender_len}
use Rattle.protocol.specs.Causes.{number_of}
use Rattle.protocol.specs.Calls.{OpenedSender, OpenedReceiver, Sent, Reported, open_sender_of, send_of, open_receiver_of, heard_of, loss_of}
use Rattle.protocol.specs.Calls.{Looked, look_up_of}
use Rattle.protocol.specs.Answers.{Answer}
use Rattle.frames.specs.Fields.{settings_at, slot_at, slot_in, slot_read_cause}
use Rattle.aerials.specs.Pair.{pair_cause}
use Rattle.state.specs.State.{sender_bytes, receiver_bytes, sender_in, receiver_in, due_read_cause}
use Rattle.protocol.specs.Numbers.{answer_number, reply_number}
use Rattle.library.specs.Causes.{open_bytes_cause, open_receiver_bytes_cause, send_bytes_cause, heard_bytes_cause, lost_bytes_cause}
use Rattle.library.specs.Causes.{look_up_bytes_cause}

-- ---- version and lengths

-- the version of the interface: 100 times its first number, and its second
abbrev pub interface_version : ℕ
interface_version = 100

-- the settings that a caller lends
unfoldable pub settings_of : List ℕ → Settings
settings_of settings = settings_at 0 settings

-- the length that settings give, or 0 where they are not accepted
unfoldable pub length_for : (Settings → ℕ) → List ℕ → ℕ
length_for size settings = cond (accepted (settings_of settings)) (size (settings_of settings)) 0

-- ---- openings

-- an opening's reply number, and what it leaves of the lent lists
pub record Opening : Type 0 where
  pub reply : ℕ
  pub state : List ℕ
  pub rows : List ℕ

-- what an opening of a sender leaves, by protocol's
abbrev pub opened_sender : OpenedSender → Opening
opened_sender r = record {
  reply = answer_number r.answer;
  state = sender_bytes r.sender;
  rows = r.rows;
}

-- the opening of a sender
unfoldable pub open_sender_bytes : List ℕ → List ℕ → List ℕ → Opening
open_sender_bytes settings state rows =
    let s : Settings = settings_of settings in
    elim (open_bytes_cause s (sender_len s) state rows) [
      | Err c ↦ record { reply = number_of c; state = state; rows = rows }
      | Ok tt ↦ opened_sender (open_sender_of s rows)
    ]

-- what an opening of a receiver leaves, by protocol's
abbrev pub opened_receiver : OpenedReceiver → Opening
opened_receiver r = record {
  reply = answer_number r.answer;
  state = receiver_bytes r.receiver;
  rows = r.rows;
}

-- the opening of a receiver at this slot
unfoldable pub open_receiver_bytes : List ℕ → ℕ → List ℕ → List ℕ → Opening
open_receiver_bytes settings slot state rows =
    let s : Settings = settings_of settings in
    elim (open_receiver_bytes_cause s slot state rows) [
      | Err c ↦ record { reply = number_of c; state = state; rows = rows }
      | Ok tt ↦ opened_receiver (open_receiver_of s slot rows)
    ]

-- ---- sends

-- a send's reply number, and what it leaves of the lent lists
pub record Sending : Type 0 where
  pub reply : ℕ
  pub state : List ℕ
  pub rows : List ℕ
  pub frame : List ℕ

-- what a send leaves, by protocol's
abbrev pub sent_bytes : Sent → Sending
sent_bytes r = record {
  reply = answer_number r.answer;
  state = sender_bytes r.sender;
  rows = r.rows;
  frame = r.frame;
}

-- a send of the sender that the state keeps
unfoldable pub send_bytes : List ℕ → List ℕ → List ℕ → List ℕ → Sending
send_bytes state rows message frame =
    elim (send_bytes_cause state rows message frame) [
      | Err c ↦ record { reply = number_of c; state = state; rows = rows; frame = frame }
      | Ok tt ↦ sent_bytes (send_of (sender_in state) rows message frame)
    ]

-- ---- reports

-- a report's reply number, and what it leaves of the lent lists
pub record Reporting : Type 0 where
  pub reply : ℕ
  pub state : List ℕ
  pub rows : List ℕ
  pub message : List ℕ

-- what a report leaves, by protocol's
abbrev pub reported_bytes : Reported → Reporting
reported_bytes r = record {
  reply = reply_number r.reply;
  state = receiver_bytes r.receiver;
  rows = r.rows;
  message = r.message;
}

-- the report of a frame to the receiver that the state keeps
unfoldable pub heard_bytes : List ℕ → List ℕ → List ℕ → List ℕ → Reporting
heard_bytes state rows frame message =
    elim (heard_bytes_cause state rows frame message) [
      | Err c ↦ record { reply = number_of c; state = state; rows = rows; message = message }
      | Ok tt ↦ reported_bytes (heard_of (receiver_in state) rows frame message)
    ]

-- the report of a loss to the receiver that the state keeps
unfoldable pub lost_bytes : List ℕ → List ℕ → List ℕ → Reporting
lost_bytes state rows message =
    elim (lost_bytes_cause state rows message) [
      | Err c ↦ record { reply = number_of c; state = state; rows = rows; message = message }
      | Ok tt ↦ reported_bytes (loss_of (receiver_in state) rows message)
    ]

-- ---- look-ups

-- a look-up's reply number, and the message buffer; the state and rows are lent to it to read
pub record Looking : Type 0 where
  pub reply : ℕ
  pub message : List ℕ

-- what a look-up leaves, by protocol's
abbrev pub looked_bytes : Looked → Looking
looked_bytes r = record { reply = reply_number r.reply; message = r.message }

-- a look-up by the receiver that the state keeps
unfoldable pub look_up_bytes : List ℕ → List ℕ → ℤ → List ℕ → Looking
look_up_bytes state rows number message =
    elim (look_up_bytes_cause state rows number message) [
      | Err c ↦ record { reply = number_of c; message = message }
      | Ok tt ↦ looked_bytes (look_up_of (receiver_in state) rows number message)
    ]

-- ---- a pair of recordings

-- the check of a pair, with the settings that a caller lends
unfoldable pub pair_bytes : List ℕ → List ℕ → List ℕ → ℕ
pair_bytes settings first second = pair_cause (settings_of settings) first second

-- ---- slots that are read

-- the number of such a call, and the slot that it was lent
pub record Reading : Type 0 where
  pub reply : ℕ
  pub slot : ℕ

-- by its cause: refused, it leaves the slot as it was; else the slot is what is read
abbrev pub read_by : Answer → ℕ → ℕ → Reading
read_by (Err c) found slot = record { reply = number_of c; slot = slot }
read_by (Ok tt) found slot = record { reply = 0; slot = found }

-- the slot due that a state keeps, of either end
unfoldable pub slot_due_bytes : List ℕ → ℕ → Reading
slot_due_bytes state slot = read_by (due_read_cause state) (slot_at 9 state) slot

-- the slot in the header of a frame
unfoldable pub frame_slot_bytes : List ℕ → ℕ → Reading
frame_slot_bytes frame slot = read_by (slot_read_cause frame) (slot_in frame) slot
