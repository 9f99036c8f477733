-- Demand 1, proved of every call: `demand1`, whose statement is `Demand1` of specs/Refusals.antt.
use Rattle.std.specs.Prelude.{Ok, Err}
use mathlib.Core.Path.{◌≡◌, refl, sym, ap, ◌∙◌, subst, subst⁻¹}
use mathlib.Core.Bool.{Bool, true, false}
use mathlib.Core.Logic.{◌↔◌, ◌≢◌}
use mathlib.Core.List.{List, [], ◌∷◌}
use native.Mathlib.Omega.{arith}
use Prim.Native.Nat.{ℕ}
use lib.Dec.{T}
use lib.IntN.{ℤ}
use Rattle.code.specs.declared.settings.Settings.{Settings}
use Rattle.protocol.specs.declared.Sender.{Sender}
use Rattle.protocol.specs.declared.Receiver.{Receiver}
use Rattle.protocol.specs.declared.Cause.{Cause}
use Rattle.protocol.specs.Answers.{Answer, Reply}
use Rattle.protocol.specs.Lengths.{sender_len}
use Rattle.protocol.specs.States.{no_sender, no_receiver}
use Rattle.protocol.specs.Causes.{number_of, check, Row, first_of}
use Rattle.protocol.specs.Causes.{open_table, open_receiver_table, send_table, loss_table, frame_table, look_up_table}
use Rattle.protocol.specs.Causes.{open_cause, open_receiver_cause, send_cause, loss_cause, frame_cause, frame_cause_of, look_up_cause}
use Rattle.protocol.specs.Numbers.{answer_number, reply_number}
use Rattle.protocol.specs.Calls.{OpenedSender, open_sender_of, Sent, send_of, OpenedReceiver, open_receiver_of}
use Rattle.protocol.specs.Verdict.{verdict}
use Rattle.protocol.specs.Calls.{Reported, moved_on, loss_of, heard_of, Looked, tell_of, look_up_of}
use Rattle.protocol.specs.Histories.{accepts}
use Rattle.protocol.specs.Refusals.{First, here, later, in_order, Refuses, Demand1}
use Rattle.protocol.proofs.NumberLaws.{reply_tells, accepted_number}
use Rattle.protocol.proofs.NumberLaws.{number_tells}
use Rattle.protocol.proofs.ReportRows.{verdict_accepts, moved_accepts}

-- ---- a table read from the top finds c exactly if c is the first that holds

pub found_first : (c : Cause) (rs : List Row) → first_of rs ≡ Err c → First c rs
found_first c [] e = let z : ◌≡◌ {A = ℕ} 0 1 = cc in absurd (omega arith)
found_first c (r ∷ rs) e = go (found_first c rs) r.holds refl e
  where
    go : (first_of rs ≡ Err c → First c rs) → (b : Bool) → r.holds ≡ b → check b r.why (first_of rs) ≡ Err c → First c (r ∷ rs)
    go rest true h e = let why : r.why ≡ c = cc in here (subst⁻¹ T h tt) why
    go rest false h e = later (λ t. subst T h t) (rest e)

pub first_found : (c : Cause) (rs : List Row) → First c rs → first_of rs ≡ Err c
first_found c [] x' = elim x' [ ]
first_found c (r ∷ rs) (here h e) = go r.holds h
  where
    go : (b : Bool) → T b → check b r.why (first_of rs) ≡ Err c
    go true h = ap Err e
    go false h = absurd h
first_found c (r ∷ rs) (later n f) = go r.holds n (first_found c rs f)
  where
    go : (b : Bool) → (T b → ⊥) → first_of rs ≡ Err c → check b r.why (first_of rs) ≡ Err c
    go true n e = absurd (n tt)
    go false n e = e

-- ---- a call by what its table says

module _ {R : Type 0} (number : R → ℕ) (refusal : Cause → R) (r : R) where
  -- accepted, its number is no cause's; refused for a cause, it is that refusal
  abbrev pub Comes : Answer → Type 0
  Comes (Ok tt) = (c : Cause) → number r ≢ number_of c
  Comes (Err c) = r ≡ refusal c

  module _ (says : (c : Cause) → number (refusal c) ≡ number_of c) where
    told : (c : Cause) (a : Answer) → Comes a → number r ≡ number_of c → a ≡ Err c
    told c (Ok tt) none e = absurd (none c e)
    told c (Err d) is e = ap Err (number_tells d c (sym (says d) ∙ ap number (sym is) ∙ e))

    -- so its number is a cause's exactly if that cause is the first of the table that holds
    pub number_first : (rs : List Row) → Comes (first_of rs) → (c : Cause) → (number r ≡ number_of c) ↔ First c rs
    number_first rs by c = (
      λ e. found_first c rs (told c (first_of rs) by e),
      λ h. ap number (subst Comes (first_found c rs h) by) ∙ says c,
    )

    -- and then it is refused for that cause
    pub number_refused : (rs : List Row) → Comes (first_of rs) → (c : Cause) → number r ≡ number_of c → r ≡ refusal c
    number_refused rs by c e = subst Comes (told c (first_of rs) by e) by

    refuses : {Stays : Type 0} (rs : List Row) → T (in_order 0 rs) → Comes (first_of rs) → ((c : Cause) → r ≡ refusal c → Stays)
        → Refuses rs (number r) Stays
    refuses rs order by stays =
        record { order = order; first = number_first rs by; stays = λ c e. stays c (number_refused rs by c e) }

-- ---- the openings

abbrev no_sender_for : List ℕ → Cause → OpenedSender
no_sender_for rows c = record { answer = Err c; sender = no_sender; rows = rows }

abbrev no_receiver_for : List ℕ → Cause → OpenedReceiver
no_receiver_for rows c = record { answer = Err c; receiver = no_receiver; rows = rows }

module _ (s : Settings) (rows : List ℕ) where
  sender_opens : (a : Answer) → open_cause s (sender_len s) rows ≡ a
      → Comes (λ (r : OpenedSender). answer_number r.answer) (no_sender_for rows) (open_sender_of s rows) a
  unfolding open_sender_of
  sender_opens (Ok tt) e = rw (e, open_sender_of) accepted_number
  sender_opens (Err c) e = rw (e, open_sender_of)

  receiver_opens : (slot : ℕ) (a : Answer) → open_receiver_cause s slot rows ≡ a
      → Comes (λ (r : OpenedReceiver). answer_number r.answer) (no_receiver_for rows) (open_receiver_of s slot rows) a
  unfolding open_receiver_of
  receiver_opens slot (Ok tt) e = rw (e, open_receiver_of) accepted_number
  receiver_opens slot (Err c) e = rw (e, open_receiver_of)

-- ---- send

abbrev unsent : Sender → List ℕ → List ℕ → Cause → Sent
unsent x rows frame c = record { answer = Err c; sender = x; rows = rows; frame = frame }

sends : (x : Sender) (rows message frame : List ℕ) (a : Answer) → send_cause x rows message frame ≡ a
    → Comes (λ (r : Sent). answer_number r.answer) (unsent x rows frame) (send_of x rows message frame) a
unfolding send_of
sends x rows message frame (Ok tt) e = rw (e, send_of) accepted_number
sends x rows message frame (Err c) e = rw (e, send_of)

-- ---- reports

abbrev unreported : Receiver → List ℕ → List ℕ → Cause → Reported
unreported x rows message c = record { reply = Err c; receiver = x; rows = rows; message = message }

abbrev Reports : Receiver → List ℕ → List ℕ → Reported → Answer → Type 0
Reports x rows message = Comes (λ (r : Reported). reply_number r.reply) (unreported x rows message)

-- the number of a reply that is no refusal is no cause's
taken_number : (r : Reply) → T (accepts r) → (c : Cause) → reply_number r ≢ number_of c
taken_number r ok c e = subst (λ (r : Reply). T (accepts r)) (reply_tells r (Err c) e) ok

-- so is that of a report that moves the slot due on
pub moved_number : (x : Receiver) (row rows : List ℕ) (c : Cause) → reply_number (moved_on x row rows).reply ≢ number_of c
moved_number x row rows = taken_number (moved_on x row rows).reply (moved_accepts x row rows)

-- and that of what is told by the rows
pub told_number : (s : Settings) (rows : List ℕ) (due t : ℕ) (c : Cause) → reply_number (tell_of s rows due t).reply ≢ number_of c
unfolding tell_of
told_number s rows due t = taken_number (verdict s rows due t) (verdict_accepts s rows due t)

loses : (x : Receiver) (rows message : List ℕ) (a : Answer) → loss_cause x rows message ≡ a
    → Reports x rows message (loss_of x rows message) a
unfolding loss_of
loses x rows message (Ok tt) e = rw (e, loss_of) (moved_number x _ rows)
loses x rows message (Err c) e = rw (e, loss_of)

hears : (x : Receiver) (rows frame message : List ℕ) (a : Answer) → frame_cause x rows frame message ≡ a
    → Reports x rows message (heard_of x rows frame message) a
unfolding heard_of
hears x rows frame message (Ok tt) e = rw (e, heard_of) (moved_number x _ rows)
hears x rows frame message (Err c) e = rw (e, heard_of)

report_stays : {x : Receiver} {rows message : List ℕ} {r : Reported} (c : Cause) → r ≡ unreported x rows message c
    → (r.receiver ≡ x) × (r.rows ≡ rows) × (r.message ≡ message)
report_stays c e = (ap (λ (r : Reported). r.receiver) e, ap (λ (r : Reported). r.rows) e, ap (λ (r : Reported). r.message) e)

-- ---- look-ups

abbrev unlooked : List ℕ → Cause → Looked
unlooked message c = record { reply = Err c; message = message }

looks : (x : Receiver) (rows : List ℕ) (number : ℤ) (message : List ℕ) (a : Answer) → look_up_cause x rows number message ≡ a
    → Comes (λ (r : Looked). reply_number r.reply) (unlooked message) (look_up_of x rows number message) a
unfolding look_up_of
looks x rows number message (Ok tt) e = rw (e, look_up_of) (told_number x.settings rows _ _)
looks x rows number message (Err c) e = rw (e, look_up_of)

-- ---- demand 1

pub demand1 : Demand1
unfolding open_cause open_receiver_cause send_cause loss_cause frame_cause_of look_up_cause
demand1 = record {
  open_sender = λ s rows.
      refuses (λ (r : OpenedSender). answer_number r.answer) (no_sender_for rows) (open_sender_of s rows) (λ c. refl)
      (open_table s (sender_len s) rows) tt (sender_opens s rows (open_cause s (sender_len s) rows) refl)
      (λ c e. (ap (λ (r : OpenedSender). r.sender) e, ap (λ (r : OpenedSender). r.rows) e));
  open_receiver = λ s slot rows.
      refuses (λ (r : OpenedReceiver). answer_number r.answer) (no_receiver_for rows) (open_receiver_of s slot rows) (λ c. refl)
      (open_receiver_table s slot rows) tt (receiver_opens s rows slot (open_receiver_cause s slot rows) refl)
      (λ c e. (ap (λ (r : OpenedReceiver). r.receiver) e, ap (λ (r : OpenedReceiver). r.rows) e));
  send = λ x rows message frame.
      refuses (λ (r : Sent). answer_number r.answer) (unsent x rows frame) (send_of x rows message frame) (λ c. refl)
      (send_table x rows message frame) tt (sends x rows message frame (send_cause x rows message frame) refl)
      (λ c e. (ap (λ (r : Sent). r.sender) e, ap (λ (r : Sent). r.rows) e, ap (λ (r : Sent). r.frame) e));
  loss = λ x rows message.
      refuses (λ (r : Reported). reply_number r.reply) (unreported x rows message) (loss_of x rows message) (λ c. refl)
      (loss_table x rows message) tt (loses x rows message (loss_cause x rows message) refl) report_stays;
  heard = λ x rows frame message.
      refuses (λ (r : Reported). reply_number r.reply) (unreported x rows message) (heard_of x rows frame message) (λ c. refl)
      (frame_table x rows frame message) tt (hears x rows frame message (frame_cause x rows frame message) refl) report_stays;
  look_up = λ x rows number message.
      refuses (λ (r : Looked). reply_number r.reply) (unlooked message) (look_up_of x rows number message) (λ c. refl)
      (look_up_table x rows number message) tt (looks x rows number message (look_up_cause x rows number message) refl)
      (λ c e. ap (λ (r : Looked). r.message) e);
}
