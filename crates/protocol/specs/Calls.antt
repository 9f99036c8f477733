-- Document 01, "What is remembered" and "Why a call says no", and document 02 §3 and §6: each call as a function of the state and every
-- lent list.
use Rattle.std.specs.Prelude.{cond, List, ◌∷◌, ℕ, ◌+◌, ◌-◌, ◌%◌, ltb, ℤ, nat_abs, Ok, Err, drop, replicate}
use Rattle.code.specs.declared.settings.Settings.{Settings}
use Rattle.code.specs.Settings.{delay_of, n_of}
use Rattle.protocol.specs.declared.Sender.{Sender}
use Rattle.protocol.specs.declared.Receiver.{Receiver}
use Rattle.protocol.specs.Answers.{Answer, Reply}
use Rattle.protocol.specs.declared.Told.TheVariants.{NoneYet}
use Rattle.protocol.specs.Lengths.{message_len, body_len, sender_len, row_len, row_count}
use Rattle.protocol.specs.States.{opened_sender, sent_on, no_sender, opened_receiver, reported_on, no_receiver}
use Rattle.protocol.specs.Frame.{frame_of}
use Rattle.protocol.specs.Rows.{put_row, joined}
use Rattle.protocol.specs.Verdict.{verdict, buffer_of}
use Rattle.protocol.specs.Causes.{open_cause, open_receiver_cause, send_cause, loss_cause, look_up_cause, frame_cause}

-- ---- the sender

pub record OpenedSender : Type 0 where
  pub answer : Answer
  pub sender : Sender
  pub rows : List ℕ

-- opening zeroes the sender's rows
unfoldable pub open_sender_of : Settings → List ℕ → OpenedSender
open_sender_of s rows =
    elim (open_cause s (sender_len s) rows) [
      | Ok tt ↦ record { answer = Ok tt; sender = opened_sender s; rows = replicate (sender_len s) 0 }
      | Err c ↦ record { answer = Err c; sender = no_sender; rows = rows }
    ]

pub record Sent : Type 0 where
  pub answer : Answer
  pub sender : Sender
  pub rows : List ℕ
  pub frame : List ℕ

-- the frame is worked out from the rows as they are; then message t is written over its row, t mod (n - 1)
unfoldable pub send_of : Sender → List ℕ → List ℕ → List ℕ → Sent
send_of x rows message frame =
    elim (send_cause x rows message frame) [
      | Ok tt ↦ record {
        answer = Ok tt;
        sender = sent_on x;
        rows = put_row (message_len x.settings) (x.due % (n_of x.settings - 1)) message rows;
        frame = frame_of 1 x.settings rows message x.due;
      }
      | Err c ↦ record { answer = Err c; sender = x; rows = rows; frame = frame }
    ]

-- ---- the receiver

-- a row that was received, all zeros
unfoldable pub received_zeros : Settings → List ℕ
received_zeros s = 1 ∷ replicate (body_len s) 0

-- the row of a slot before the opening: lost, that is zeros, from slot 0 on, and received zeros before it. Here σ counts the slots from
-- the (k + T)th before slot 0 on
unfoldable pub row_before : Settings → ℕ → List ℕ
row_before s σ = cond (ltb σ (row_count s)) (received_zeros s) (replicate (row_len s) 0)

-- the last slot before this one that sits in row r, counted so
unfoldable pub last_in : Settings → ℕ → ℕ → ℕ
last_in s slot r = slot + (r + (row_count s - slot % row_count s)) % row_count s

-- the rows of an opening: the last k + T slots before it, each in its row
unfoldable pub opened_rows : Settings → ℕ → List ℕ
opened_rows s slot = joined (row_count s) (λ r. row_before s (last_in s slot r))

pub record OpenedReceiver : Type 0 where
  pub answer : Answer
  pub receiver : Receiver
  pub rows : List ℕ

-- opening at a slot makes it due, and writes the rows of the slots before it
unfoldable pub open_receiver_of : Settings → ℕ → List ℕ → OpenedReceiver
open_receiver_of s slot rows =
    elim (open_receiver_cause s slot rows) [
      | Ok tt ↦ record { answer = Ok tt; receiver = opened_receiver s slot; rows = opened_rows s slot }
      | Err c ↦ record { answer = Err c; receiver = no_receiver; rows = rows }
    ]

pub record Reported : Type 0 where
  pub reply : Reply
  pub receiver : Receiver
  pub rows : List ℕ
  pub message : List ℕ

-- the message that the report of this slot tells of, if there is one
unfoldable pub message_due : Settings → ℕ → ℕ
message_due s due = due - delay_of s

-- an accepted report once its row is written: the slot due moves on, and message due - T is told, if there is one
abbrev pub told_by : Receiver → List ℕ → Reported
told_by x now =
    let s = x.settings in
    let t : ℕ = message_due s x.due in
    let told : Reply = cond (ltb x.due (delay_of s)) (Ok NoneYet) (verdict s now (x.due + 1) t) in
    record {
      reply = told;
      receiver = reported_on x;
      rows = now;
      message = buffer_of s now (x.due + 1) t told;
    }

-- its row is written at slot due, t mod (k + T)
unfoldable pub moved_on : Receiver → List ℕ → List ℕ → Reported
moved_on x row rows = told_by x (put_row (row_len x.settings) (x.due % row_count x.settings) row rows)

-- a reported loss writes zeros over the whole row
unfoldable pub loss_of : Receiver → List ℕ → List ℕ → Reported
loss_of x rows message =
    elim (loss_cause x rows message) [
      | Ok tt ↦ moved_on x (replicate (row_len x.settings) 0) rows
      | Err c ↦ record { reply = Err c; receiver = x; rows = rows; message = message }
    ]

-- an accepted frame writes 1 and then its body
unfoldable pub heard_of : Receiver → List ℕ → List ℕ → List ℕ → Reported
heard_of x rows frame message =
    elim (frame_cause x rows frame message) [
      | Ok tt ↦ moved_on x (1 ∷ drop 14 frame) rows
      | Err c ↦ record { reply = Err c; receiver = x; rows = rows; message = message }
    ]

pub record Looked : Type 0 where
  pub reply : Reply
  pub message : List ℕ

-- what the rows tell of message t by the slots below due, and the message buffer, as at a report
unfoldable pub tell_of : Settings → List ℕ → ℕ → ℕ → Looked
tell_of s rows due t = let told : Reply = verdict s rows due t in record { reply = told; message = buffer_of s rows due t told }

-- a look-up tells of a message by the slots reported so far, which are those below the slot due: later ones are as losses to it. It
-- leaves the state and rows
unfoldable pub look_up_of : Receiver → List ℕ → ℤ → List ℕ → Looked
look_up_of x rows number message =
    elim (look_up_cause x rows number message) [
      | Ok tt ↦ tell_of x.settings rows x.due (nat_abs number)
      | Err c ↦ record { reply = Err c; message = message }
    ]
