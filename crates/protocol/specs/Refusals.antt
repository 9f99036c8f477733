-- Demand 1, as one statement: a refusal is made for its listed cause only, the first listed cause wins, and it changes no lent byte and
-- no state. That a call replies and ends is what the checker proves of every function.
use Rattle.std.specs.Prelude.{◌≡◌, ◌↔◌, Bool, true, ◌&&◌, List, [], ◌∷◌, ℕ, T, ltb, ℤ}
use Rattle.code.specs.declared.settings.Settings.{Settings}
use Rattle.protocol.specs.declared.Sender.{Sender}
use Rattle.protocol.specs.declared.Receiver.{Receiver}
use Rattle.protocol.specs.declared.Cause.{Cause}
use Rattle.protocol.specs.Lengths.{sender_len}
use Rattle.protocol.specs.States.{no_sender, no_receiver}
use Rattle.protocol.specs.Causes.{number_of, Row, open_table, open_receiver_table, send_table, loss_table, frame_table, look_up_table}
use Rattle.protocol.specs.Numbers.{answer_number, reply_number}
use Rattle.protocol.specs.Calls.{OpenedSender, open_sender_of, Sent, send_of, OpenedReceiver, open_receiver_of}
use Rattle.protocol.specs.Calls.{Reported, loss_of, heard_of, Looked, look_up_of}

-- c is the first cause of the table that holds: its row does, and none above it
pub data First (c : Cause) : List Row → Type 0 where
  here : {r : Row} {rs : List Row} → T r.holds → r.why ≡ c → First c (r ∷ rs)
  later : {r : Row} {rs : List Row} → (T r.holds → ⊥) → First c rs → First c (r ∷ rs)

-- the table stands in the order of the papers' numbers, from above n on
abbrev pub in_order : ℕ → List Row → Bool
in_order n [] = true
in_order n (r ∷ rs) = ltb n (number_of r.why) && in_order (number_of r.why) rs

-- a call with this table that gave this number: it is a cause's number exactly if that cause is the first that holds, and then all stays
pub record Refuses (table : List Row) (number : ℕ) (Stays : Type 0) : Type 0 where
  pub order : T (in_order 0 table)
  pub first : (c : Cause) → (number ≡ number_of c) ↔ First c table
  pub stays : (c : Cause) → number ≡ number_of c → Stays

-- demand 1, of each of the six calls, with anything at all handed to it
pub record Demand1 : Type 0 where
  -- a refused opening hands back a state of zeros, and the rows as they were
  pub open_sender : (s : Settings) (rows : List ℕ)
      → let r : OpenedSender = open_sender_of s rows in
      Refuses (open_table s (sender_len s) rows) (answer_number r.answer)
      ((r.sender ≡ no_sender) × (r.rows ≡ rows))
  pub open_receiver : (s : Settings) (slot : ℕ) (rows : List ℕ)
      → let r : OpenedReceiver = open_receiver_of s slot rows in
      Refuses (open_receiver_table s slot rows) (answer_number r.answer)
      ((r.receiver ≡ no_receiver) × (r.rows ≡ rows))
  -- a refused send leaves the state, the rows and the lent frame as they were
  pub send : (x : Sender) (rows message frame : List ℕ)
      → let r : Sent = send_of x rows message frame in
      Refuses (send_table x rows message frame) (answer_number r.answer)
      ((r.sender ≡ x) × (r.rows ≡ rows) × (r.frame ≡ frame))
  -- a refused report leaves the state, the rows and the lent message buffer as they were
  pub loss : (x : Receiver) (rows message : List ℕ)
      → let r : Reported = loss_of x rows message in
      Refuses (loss_table x rows message) (reply_number r.reply)
      ((r.receiver ≡ x) × (r.rows ≡ rows) × (r.message ≡ message))
  pub heard : (x : Receiver) (rows frame message : List ℕ)
      → let r : Reported = heard_of x rows frame message in
      Refuses (frame_table x rows frame message) (reply_number r.reply)
      ((r.receiver ≡ x) × (r.rows ≡ rows) × (r.message ≡ message))
  -- a refused look_up leaves the lent message buffer as it was; it is lent the rows to read and the state by value
  pub look_up : (x : Receiver) (rows : List ℕ) (number : ℤ) (message : List ℕ)
      → let r : Looked = look_up_of x rows number message in
      Refuses (look_up_table x rows number message) (reply_number r.reply) (r.message ≡ message)
