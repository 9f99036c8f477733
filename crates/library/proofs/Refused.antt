-- Demand 1 of the static library: a call replies with a cause's number exactly if that cause is the first of its table that holds, and
-- then it changes no lent byte. Also the order in which the tables stand, and the check of a pair.
use Rattle.std.specs.Prelude.{Ok, Err}
use mathlib.Core.Path.{◌≡◌, refl, sym, ap, ◌∙◌}
use mathlib.Core.List.{List}
use Prim.Native.Nat.{ℕ}
use lib.IntN.{ℤ}
use Rattle.code.specs.declared.settings.Settings.{Settings}
use Rattle.protocol.specs.declared.Cause.{Cause}
use Rattle.protocol.specs.Answers.{Answer}
use Rattle.protocol.specs.Lengths.{sender_len}
use Rattle.protocol.specs.Causes.{number_of, Row, first_of, open_cause, open_receiver_cause, send_cause, loss_cause, frame_cause}
use Rattle.protocol.specs.Causes.{look_up_cause}
use Rattle.protocol.specs.Calls.{open_sender_of, open_receiver_of, send_of, heard_of, loss_of, look_up_of}
use Rattle.protocol.proofs.CauseTables.{both_clear}
use Rattle.protocol.proofs.NumberLaws.{accepted_number}
use Rattle.protocol.proofs.Refusals.{Comes, number_first, number_refused, moved_number, told_number}
use Rattle.frames.specs.Fields.{slot_read_table, slot_read_cause}
use Rattle.aerials.proofs.Accepted.{pair_causes}
use Rattle.state.specs.State.{sender_end, receiver_end, state_len, sender_in, receiver_in, state_cause, due_read_table, due_read_cause}
use Rattle.library.specs.Causes.{open_bytes_table, open_receiver_bytes_table, send_bytes_table, heard_bytes_table, lost_bytes_table}
use Rattle.library.specs.Causes.{look_up_bytes_table}
use Rattle.library.specs.Causes.{open_bytes_cause, open_receiver_bytes_cause, send_bytes_cause, heard_bytes_cause, lost_bytes_cause}
use Rattle.library.specs.Causes.{look_up_bytes_cause}
use Rattle.library.specs.Calls.{settings_of, Opening, open_sender_bytes, open_receiver_bytes, Sending, send_bytes, Reporting, heard_bytes}
use Rattle.library.specs.Calls.{lost_bytes}
use Rattle.library.specs.Calls.{Looking, look_up_bytes, Reading, read_by, slot_due_bytes, frame_slot_bytes, pair_bytes}
use Rattle.library.specs.Refusals.{RefusesBytes, Demand1Bytes, TablesInOrder, PairRefuses}
use Rattle.library.proofs.Outcomes.{open_cause_lem, open_receiver_cause_lem, send_cause_lem, heard_cause, lost_cause, look_up_cause_lem}

-- ---- the openings

abbrev unopened : List ℕ → List ℕ → Cause → Opening
unopened state rows c = record { reply = number_of c; state = state; rows = rows }

abbrev Opens : List ℕ → List ℕ → Opening → Answer → Type 0
Opens state rows = Comes (λ (r : Opening). r.reply) (unopened state rows)

module _ (settings state rows : List ℕ) where
  abbrev s : Settings
  s = settings_of settings

  sender_opens : (a : Answer) → open_bytes_cause s (sender_len s) state rows ≡ a
      → Opens state rows (open_sender_bytes settings state rows) a
  unfolding open_sender_bytes open_sender_of
  sender_opens (Ok tt) e =
      let none = (both_clear (open_cause s state_len state) (open_cause s (sender_len s) rows)
      (sym (open_cause_lem s (sender_len s) state rows) ∙ e)).1 in
      rw (e, open_sender_bytes, none, open_sender_of) accepted_number
  sender_opens (Err c) e = rw (e, open_sender_bytes)

  receiver_opens : (slot : ℕ) (a : Answer) → open_receiver_bytes_cause s slot state rows ≡ a
      → Opens state rows (open_receiver_bytes settings slot state rows) a
  unfolding open_receiver_bytes open_receiver_of
  receiver_opens slot (Ok tt) e =
      let none = (both_clear (open_cause s state_len state) (open_receiver_cause s slot rows)
      (sym (open_receiver_cause_lem s slot state rows) ∙ e)).1 in
      rw (e, open_receiver_bytes, none, open_receiver_of) accepted_number
  receiver_opens slot (Err c) e = rw (e, open_receiver_bytes)

opening_stays : {state rows : List ℕ} {r : Opening} (c : Cause) → r ≡ unopened state rows c → (r.state ≡ state) × (r.rows ≡ rows)
opening_stays c e = (ap (λ (r : Opening). r.state) e, ap (λ (r : Opening). r.rows) e)

-- ---- a send

abbrev unsent : List ℕ → List ℕ → List ℕ → Cause → Sending
unsent state rows frame c = record { reply = number_of c; state = state; rows = rows; frame = frame }

sends : (state rows message frame : List ℕ) (a : Answer) → send_bytes_cause state rows message frame ≡ a
    → Comes (λ (r : Sending). r.reply) (unsent state rows frame) (send_bytes state rows message frame) a
unfolding send_bytes send_of
sends state rows message frame (Ok tt) e =
    let none = (both_clear (state_cause sender_end state) (send_cause (sender_in state) rows message frame)
    (sym (send_cause_lem state rows message frame) ∙ e)).1 in
    rw (e, send_bytes, none, send_of) accepted_number
sends state rows message frame (Err c) e = rw (e, send_bytes)

send_stays : {state rows frame : List ℕ} {r : Sending} (c : Cause) → r ≡ unsent state rows frame c
    → (r.state ≡ state) × (r.rows ≡ rows) × (r.frame ≡ frame)
send_stays c e = (ap (λ (r : Sending). r.state) e, ap (λ (r : Sending). r.rows) e, ap (λ (r : Sending). r.frame) e)

-- ---- reports

abbrev unreported : List ℕ → List ℕ → List ℕ → Cause → Reporting
unreported state rows message c = record { reply = number_of c; state = state; rows = rows; message = message }

abbrev Reports : List ℕ → List ℕ → List ℕ → Reporting → Answer → Type 0
Reports state rows message = Comes (λ (r : Reporting). r.reply) (unreported state rows message)

hears : (state rows frame message : List ℕ) (a : Answer) → heard_bytes_cause state rows frame message ≡ a
    → Reports state rows message (heard_bytes state rows frame message) a
unfolding heard_bytes heard_of
hears state rows frame message (Ok tt) e =
    let none = (both_clear (state_cause receiver_end state) (frame_cause (receiver_in state) rows frame message)
    (sym (heard_cause state rows message frame) ∙ e)).1 in
    rw (e, heard_bytes, none, heard_of) (moved_number (receiver_in state) _ rows)
hears state rows frame message (Err c) e = rw (e, heard_bytes)

loses : (state rows message : List ℕ) (a : Answer) → lost_bytes_cause state rows message ≡ a
    → Reports state rows message (lost_bytes state rows message) a
unfolding lost_bytes loss_of
loses state rows message (Ok tt) e =
    let none = (both_clear (state_cause receiver_end state) (loss_cause (receiver_in state) rows message)
    (sym (lost_cause state rows message) ∙ e)).1 in
    rw (e, lost_bytes, none, loss_of) (moved_number (receiver_in state) _ rows)
loses state rows message (Err c) e = rw (e, lost_bytes)

report_stays : {state rows message : List ℕ} {r : Reporting} (c : Cause) → r ≡ unreported state rows message c
    → (r.state ≡ state) × (r.rows ≡ rows) × (r.message ≡ message)
report_stays c e = (ap (λ (r : Reporting). r.state) e, ap (λ (r : Reporting). r.rows) e, ap (λ (r : Reporting). r.message) e)

-- ---- look-ups

abbrev unlooked : List ℕ → Cause → Looking
unlooked message c = record { reply = number_of c; message = message }

looks : (state rows : List ℕ) (number : ℤ) (message : List ℕ) (a : Answer) → look_up_bytes_cause state rows number message ≡ a
    → Comes (λ (r : Looking). r.reply) (unlooked message) (look_up_bytes state rows number message) a
unfolding look_up_bytes look_up_of
looks state rows number message (Ok tt) e =
    let x = receiver_in state in
    let none = (both_clear (state_cause receiver_end state) (look_up_cause x rows number message)
    (sym (look_up_cause_lem state rows message number) ∙ e)).1 in
    rw (e, look_up_bytes, none, look_up_of) (told_number x.settings rows _ _)
looks state rows number message (Err c) e = rw (e, look_up_bytes)

-- ---- slots that are read

abbrev unread : ℕ → Cause → Reading
unread slot c = record { reply = number_of c; slot = slot }

reads : (a : Answer) (found slot : ℕ) → Comes (λ (r : Reading). r.reply) (unread slot) (read_by a found slot) a
reads (Ok tt) found slot = accepted_number
reads (Err c) found slot = refl

-- ---- demand 1

refuses : {R : Type 0} {Stays : Type 0} (reply : R → ℕ) (refusal : Cause → R) (r : R) → ((c : Cause) → reply (refusal c) ≡ number_of c)
    → (rs : List Row) → Comes reply refusal r (first_of rs) → ((c : Cause) → r ≡ refusal c → Stays) → RefusesBytes rs (reply r) Stays
refuses reply refusal r says rs by stays = record {
  first = number_first reply refusal r says rs by;
  stays = λ c e. stays c (number_refused reply refusal r says rs by c e);
}

pub demand1_bytes : Demand1Bytes
unfolding open_bytes_cause open_receiver_bytes_cause send_bytes_cause heard_bytes_cause lost_bytes_cause look_up_bytes_cause
    slot_due_bytes due_read_cause frame_slot_bytes slot_read_cause
demand1_bytes = record {
  open_sender = λ settings state rows.
      let s : Settings = settings_of settings in
      refuses (λ (r : Opening). r.reply) (unopened state rows) (open_sender_bytes settings state rows) (λ c. refl)
      (open_bytes_table s (sender_len s) state rows)
      (sender_opens settings state rows (open_bytes_cause s (sender_len s) state rows) refl) opening_stays;
  open_receiver = λ settings slot state rows.
      let s : Settings = settings_of settings in
      refuses (λ (r : Opening). r.reply) (unopened state rows) (open_receiver_bytes settings slot state rows) (λ c. refl)
      (open_receiver_bytes_table s slot state rows)
      (receiver_opens settings state rows slot (open_receiver_bytes_cause s slot state rows) refl) opening_stays;
  send = λ state rows message frame.
      refuses (λ (r : Sending). r.reply) (unsent state rows frame) (send_bytes state rows message frame) (λ c. refl)
      (send_bytes_table state rows message frame)
      (sends state rows message frame (send_bytes_cause state rows message frame) refl) send_stays;
  heard = λ state rows frame message.
      refuses (λ (r : Reporting). r.reply) (unreported state rows message) (heard_bytes state rows frame message) (λ c. refl)
      (heard_bytes_table state rows frame message)
      (hears state rows frame message (heard_bytes_cause state rows frame message) refl) report_stays;
  lost = λ state rows message.
      refuses (λ (r : Reporting). r.reply) (unreported state rows message) (lost_bytes state rows message) (λ c. refl)
      (lost_bytes_table state rows message)
      (loses state rows message (lost_bytes_cause state rows message) refl) report_stays;
  look_up = λ state rows number message.
      refuses (λ (r : Looking). r.reply) (unlooked message) (look_up_bytes state rows number message) (λ c. refl)
      (look_up_bytes_table state rows number message)
      (looks state rows number message (look_up_bytes_cause state rows number message) refl) (λ c e. ap (λ (r : Looking). r.message) e);
  slot_due = λ state slot.
      refuses (λ (r : Reading). r.reply) (unread slot) (slot_due_bytes state slot) (λ c. refl) (due_read_table state)
      (reads (first_of (due_read_table state)) _ slot) (λ c e. ap (λ (r : Reading). r.slot) e);
  frame_slot = λ frame slot.
      refuses (λ (r : Reading). r.reply) (unread slot) (frame_slot_bytes frame slot) (λ c. refl) (slot_read_table frame)
      (reads (first_of (slot_read_table frame)) _ slot) (λ c e. ap (λ (r : Reading). r.slot) e);
}

-- each table stands in its order
pub tables_in_order : TablesInOrder
tables_in_order = record {
  open_sender = λ settings state rows. tt;
  open_receiver = λ settings slot state rows. tt;
  send = λ state rows message frame. (_, refl, tt);
  heard = λ state rows frame message. (_, refl, tt);
  lost = λ state rows message. (_, refl, tt);
  look_up = λ state rows number message. (_, refl, tt);
  slot_due = λ state. (_, refl, tt);
  frame_slot = λ frame. tt;
}

-- the check of a pair is that of the recordings, by the settings that are lent
pub pair_refuses : PairRefuses
unfolding PairRefuses pair_bytes
pair_refuses settings first second =
    let s : Settings = settings_of settings in
    record { order = pair_causes.order s first second; first = pair_causes.first s first second }
