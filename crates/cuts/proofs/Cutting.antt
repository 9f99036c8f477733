-- A call on parts of the lent bytes, each from 0 to the end that its cut leaves, is the call in cut buffers.
use mathlib.Core.Path.{◌≡◌}
use mathlib.Core.List.{List, ◌++◌}
use Prim.Native.Nat.{ℕ, ◌-◌, ◌≤◌}
use native.Mathlib.Nat.{sub-zero}
use native.Mathlib.Omega.{arith}
use lib.ListN.{length, take, drop}
use Rattle.code.specs.declared.settings.Settings.{Settings}
use Rattle.protocol.specs.declared.Sender.{Sender}
use Rattle.protocol.specs.declared.Receiver.{Receiver}
use Rattle.protocol.specs.States.{sender_at, receiver_at}
use Rattle.protocol.specs.Calls.{OpenedSender, OpenedReceiver, Sent, Reported, open_sender_of, open_receiver_of, send_of, heard_of, loss_of}
use Rattle.cuts.specs.declared.Call.{Call}
use Rattle.cuts.specs.Cuts.{end_of, before, behind, open_sender_cut, open_receiver_cut, send_cut, report_cut, heard_cut, loss_cut}

-- an end is within
pub within : {e size : ℕ} (cut : ℕ) → e ≡ end_of size cut → e ≤ size
within cut ends = omega (arith, ends)

-- ---- openings

module _ (s : Settings) (cut e : ℕ) (rows : List ℕ) (ends : e ≡ end_of (length rows) cut) where
  pub sender_opened : (o : OpenedSender) → o ≡ open_sender_of s (take (e - 0) rows)
      → record { sender = o.sender; rows = o.rows ++ drop (e - 0) rows } ≡ open_sender_cut s cut rows
  unfolding open_sender_cut before behind
  sender_opened o called = rw (called, sub-zero e, ends)

  pub receiver_opened : (slot : ℕ) (o : OpenedReceiver) → o ≡ open_receiver_of s slot (take (e - 0) rows)
      → record { receiver = o.receiver; rows = o.rows ++ drop (e - 0) rows } ≡ open_receiver_cut s slot cut rows
  unfolding open_receiver_cut before behind
  receiver_opened slot o called = rw (called, sub-zero e, ends)

-- ---- a send

pub sent : (c : Call) (rows message frame : List ℕ) (d e f : ℕ) (x : Sender) (o : Sent)
    → x ≡ sender_at c.settings c.due → d ≡ end_of (length rows) c.rows → e ≡ end_of (length message) c.first → f
    ≡ end_of (length frame) c.second
    → o ≡ send_of x (take (d - 0) rows) (take (e - 0) message) (take (f - 0) frame)
    → record { sender = o.sender; rows = o.rows ++ drop (d - 0) rows; frame = o.frame ++ drop (f - 0) frame }
    ≡ send_cut c rows message frame
unfolding send_cut before behind
sent c rows message frame d e f x o state rows_end message-end frame-end called =
    rw (called, state, sub-zero d, sub-zero e, sub-zero f, rows_end, message-end, frame-end)

-- ---- reports

pub heard : (c : Call) (rows frame buffer : List ℕ) (d e f : ℕ) (x : Receiver) (o : Reported)
    → x ≡ receiver_at c.settings c.opening c.due → d ≡ end_of (length rows) c.rows → e ≡ end_of (length frame) c.first → f
    ≡ end_of (length buffer) c.second
    → o ≡ heard_of x (take (d - 0) rows) (take (e - 0) frame) (take (f - 0) buffer)
    → record { receiver = o.receiver; rows = o.rows ++ drop (d - 0) rows; buffer = o.message ++ drop (f - 0) buffer }
    ≡ heard_cut c rows frame buffer
unfolding report_cut heard_cut before behind
heard c rows frame buffer d e f x o state rows_end frame-end buffer-end called =
    rw (called, state, sub-zero d, sub-zero e, sub-zero f, rows_end, frame-end, buffer-end)

pub lost : (c : Call) (rows buffer : List ℕ) (d f : ℕ) (x : Receiver) (o : Reported)
    → x ≡ receiver_at c.settings c.opening c.due → d ≡ end_of (length rows) c.rows → f ≡ end_of (length buffer) c.first
    → o ≡ loss_of x (take (d - 0) rows) (take (f - 0) buffer)
    → record { receiver = o.receiver; rows = o.rows ++ drop (d - 0) rows; buffer = o.message ++ drop (f - 0) buffer }
    ≡ loss_cut c rows buffer
unfolding report_cut loss_cut before behind
lost c rows buffer d f x o state rows_end buffer-end called = rw (called, state, sub-zero d, sub-zero f, rows_end, buffer-end)
