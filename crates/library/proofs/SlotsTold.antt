-- What the calls that read a slot tell, of the states that calls leave and of a frame that was refused for its slot.
use Rattle.std.specs.Prelude.{Ok, Err}
use mathlib.Core.Path.{◌≡◌, refl, sym, ap, ◌∙◌, subst, subst⁻¹}
use mathlib.Core.Bool.{Bool, true, false, not, ◌&&◌, ◌||◌}
use mathlib.Core.List.{List, [], ◌∷◌, ◌++◌}
use native.Mathlib.Omega.{arith}
use Prim.Native.Nat.{ℕ, ◌+◌, ◌≤◌}
use lib.Dec.{T, eqb}
use lib.ListN.{length, drop}
use borrow.Author.Tests.{eq-eqb, le-ltb, not-false}
use Rattle.galois.specs.Byte.{Bytes}
use Rattle.galois.proofs.Cases.{is_true, is_false, and_left, and_right}
use Rattle.code.specs.declared.settings.Settings.{Settings}
use Rattle.code.specs.Settings.{accepted}
use Rattle.protocol.specs.declared.Cause.{Cause}
use Rattle.protocol.specs.declared.Cause.TheVariants.{BadSettings, BadLength, OtherMark, OtherSlot}
use Rattle.protocol.specs.declared.Sender.{Sender}
use Rattle.protocol.specs.declared.Receiver.{Receiver}
use Rattle.protocol.specs.Answers.{Answer}
use Rattle.protocol.specs.Lengths.{last_slot, sender_len, receiver_len, frame_len, exactly_framed}
use Rattle.protocol.specs.Frame.{mark, slot_bytes}
use Rattle.protocol.specs.States.{opened_sender, sent_on, opened_receiver, reported_on}
use Rattle.protocol.specs.Causes.{number_of, Row, row, first_of, agree, open_table, slot_table, header_table}
use Rattle.protocol.specs.Causes.{open_cause, open_receiver_cause, loss_cause, frame_cause}
use Rattle.protocol.specs.Refusals.{First, here, later}
use Rattle.protocol.specs.Calls.{open_sender_of, open_receiver_of, moved_on}
use Rattle.protocol.specs.Histories.{accepts}
use Rattle.protocol.specs.TwoLists.{Report, heard, missed}
use Rattle.protocol.proofs.CauseTables.{none_holds, one_below, both_clear, passes, fails, receiver_open, framed_lengths}
use Rattle.protocol.proofs.Sending as sending
use Rattle.protocol.proofs.Sending.{SendCase, taken_send}
use Rattle.protocol.proofs.ReportCauses.{loss_open, frame_open}
use Rattle.protocol.proofs.ReportRows.{moved_accepts}
use Rattle.protocol.proofs.ReportSteps as steps
use Rattle.protocol.proofs.SentLengths.{byte_at}
use Rattle.frames.specs.Fields.{settings_at, slot_at, slot_in, slot_read_cause}
use Rattle.frames.proofs.SlotBytes.{slot_agrees}
use Rattle.state.specs.State.{sender_end, receiver_end, mark_of, sender_bytes, receiver_bytes, state_len, sender_in, receiver_in}
use Rattle.state.specs.State.{state_table, state_cause, either_mark, due_read_cause}
use Rattle.state.proofs.KeptStates.{settings_read, due_read, state_uncaused, uncaused_length}
use Rattle.layout.specs.Numbers.{acceptance}
use Rattle.layout.proofs.Refusals.{cause_refused}
use Rattle.library.specs.Causes.{open_bytes_cause, open_receiver_bytes_cause}
use Rattle.library.specs.Calls.{settings_of, open_sender_bytes, open_receiver_bytes, Sending, send_bytes, Reporting, heard_bytes}
use Rattle.library.specs.Calls.{lost_bytes}
use Rattle.library.specs.Calls.{Reading, slot_due_bytes, frame_slot_bytes}
use Rattle.library.specs.Chains.{report_bytes}
use Rattle.library.specs.Slots.{Tells, SlotsTell}
use Rattle.library.proofs.Outcomes.{open_cause_lem, open_receiver_cause_lem, send_left, send_caused, send_uncaused}
use Rattle.library.proofs.Refused.{demand1_bytes}
use Rattle.library.proofs.Outcomes.{report_left, heard_caused, heard_uncaused, lost_caused, lost_uncaused}

-- ---- a state of either end with accepted settings tells its slot due

module _ (state : List ℕ) (settled : T (accepted (settings_at 4 state))) where
  -- it begins with its end's mark
  marked : (end : ℕ) → state_cause end state ≡ Ok tt → agree 4 state (mark_of end) ≡ true
  unfolding state_cause
  marked end none = not-false (agree 4 state (mark_of end)) (none_holds (state_table end state) none BadSettings)

  uncaused : (end : ℕ) → state_cause end state ≡ Ok tt → either_mark state ≡ true → due_read_cause state ≡ Ok tt
  unfolding due_read_cause
  uncaused end none either =
      rw (eq-eqb (length state) state_len (uncaused_length end state none), either, is_true (accepted (settings_at 4 state)) settled)

  sender_tells : state_cause sender_end state ≡ Ok tt → (was : ℕ) → Tells (slot_due_bytes state was) (slot_at 9 state)
  unfolding slot_due_bytes either_mark
  sender_tells none was = rw (uncaused sender_end none (rw (marked sender_end none) refl)) refl

  receiver_tells : state_cause receiver_end state ≡ Ok tt → (was : ℕ) → Tells (slot_due_bytes state was) (slot_at 9 state)
  unfolding slot_due_bytes either_mark
  receiver_tells none was = rw (uncaused receiver_end none (either (agree 4 state (mark_of sender_end)) (marked receiver_end none))) refl
    where
      either : (b : Bool) {c : Bool} → c ≡ true → b || c ≡ true
      either true e = refl
      either false e = e

-- ---- the states that calls write

abbrev told : ℕ → Reading
told slot = record { reply = 0; slot = slot }

sender_written : (x : Sender) → T (accepted x.settings) → x.due ≤ last_slot + 1 → (was : ℕ)
    → Tells (slot_due_bytes (sender_bytes x) was) x.due
sender_written x ok few was =
    let s : Settings = x.settings in
    let due : ℕ = x.due in
    sender_tells (sender_bytes x) (subst⁻¹ (λ (z : Settings). T (accepted z)) (settings_read sender_end s due 0) ok)
    (state_uncaused sender_end s due 0) was
    ∙ ap told (due_read sender_end s due 0 few)

receiver_written : (y : Receiver) → T (accepted y.settings) → y.due ≤ last_slot + 1 → (was : ℕ)
    → Tells (slot_due_bytes (receiver_bytes y) was) y.due
receiver_written y ok few was =
    let s : Settings = y.settings in
    let due : ℕ = y.due in
    let opening : ℕ = y.opening in
    receiver_tells (receiver_bytes y) (subst⁻¹ (λ (z : Settings). T (accepted z)) (settings_read receiver_end s due opening) ok)
    (state_uncaused receiver_end s due opening) was
    ∙ ap told (due_read receiver_end s due opening few)

-- a call that replied with a cause's number was not accepted
not-accepted : (c : Cause) {n : ℕ} → n ≡ number_of c → T (acceptance n) → ⊥
not-accepted c e t = subst T (ap acceptance e ∙ cause_refused c) t

-- ---- openings

module _ (settings state rows : List ℕ) (was : ℕ) where
  abbrev s : Settings
  s = settings_of settings

  sender_opened : (a : Answer) → open_bytes_cause s (sender_len s) state rows ≡ a → (open_sender_bytes settings state rows).reply ≡ 0
      → Tells (slot_due_bytes (open_sender_bytes settings state rows).state was) 0
  unfolding open_sender_bytes open_sender_of open_cause
  sender_opened (Ok tt) e replied =
      let none = (both_clear (open_cause s state_len state) (open_cause s (sender_len s) rows)
      (sym (open_cause_lem s (sender_len s) state rows) ∙ e)).1 in
      let settled = passes (accepted s) (none_holds (open_table s (sender_len s) rows) none BadSettings) in
      rw (e, open_sender_bytes, none, open_sender_of) (sender_written (opened_sender s) settled (omega arith) was)
  sender_opened (Err c) e replied =
      absurd (not-accepted c (sym replied ∙ rw (e, open_sender_bytes) refl) tt)

  receiver_opened : (slot : ℕ) (a : Answer) → open_receiver_bytes_cause s slot state rows ≡ a
      → (open_receiver_bytes settings slot state rows).reply ≡ 0
      → Tells (slot_due_bytes (open_receiver_bytes settings slot state rows).state was) slot
  unfolding open_receiver_bytes open_receiver_of
  receiver_opened slot (Ok tt) e replied =
      let none = (both_clear (open_cause s state_len state) (open_receiver_cause s slot rows)
      (sym (open_receiver_cause_lem s slot state rows) ∙ e)).1 in
      let opens = receiver_open s slot rows none in
      rw (e, open_receiver_bytes, none, open_receiver_of)
      (receiver_written (opened_receiver s slot) opens.settings (omega (arith, opens.in_time_lem)) was)
  receiver_opened slot (Err c) e replied =
      absurd (not-accepted c (sym replied ∙ rw (e, open_receiver_bytes) refl) tt)

-- ---- a send

module _ (state rows message frame : List ℕ) (was : ℕ) (passed : T (acceptance (send_bytes state rows message frame).reply)) where
  abbrev x : Sender
  x = sender_in state

  abbrev Moved : Type 0
  Moved = Tells (slot_due_bytes (send_bytes state rows message frame).state was) ((slot_due_bytes state was).slot + 1)

  by_case : state_cause sender_end state ≡ Ok tt → SendCase x rows message frame → Moved
  unfolding sender_in
  by_case none (sending.taken h e) =
      let left : send_bytes state rows message frame ≡ send_left state (taken_send x rows message)
      = sym (send_uncaused state rows message frame none) ∙ ap (send_left state) e in
      let before = sender_tells state h.settled none was in
      rw (left, before) (sender_written (sent_on x) h.settled (omega (arith, h.in_time_lem)) was)
  by_case none (sending.refused c _ e) =
      absurd (not-accepted c
      (ap (λ (r : Sending). r.reply) (sym (send_uncaused state rows message frame none) ∙ ap (send_left state) e)) passed)

  sent_by_lem : (a : Answer) → state_cause sender_end state ≡ a → Moved
  sent_by_lem (Ok tt) none = by_case none (sending.send_case x rows message frame)
  sent_by_lem (Err c) e =
      absurd (not-accepted c (ap (λ (r : Sending). r.reply) (sym (send_caused state rows message frame c e))) passed)

-- ---- reports

module _ (state rows message : List ℕ) (was : ℕ) where
  abbrev y : Receiver
  y = receiver_in state

  abbrev On : Reporting → Type 0
  On r = Tells (slot_due_bytes r.state was) ((slot_due_bytes state was).slot + 1)

  moved : state_cause receiver_end state ≡ Ok tt → T (accepted y.settings) → y.due ≤ last_slot → (row : List ℕ)
      → On (report_left state (moved_on y row rows))
  unfolding receiver_in moved_on
  moved none ok few row =
      let taken = is_true (accepts (moved_on y row rows).reply) (moved_accepts y row rows) in
      rw (taken, receiver_tells state ok none was) (receiver_written (reported_on y) ok (omega arith) was)

  refused : (c : Cause) {r : Reporting} → r ≡ record { reply = number_of c; state = state; rows = rows; message = message }
      → T (acceptance r.reply) → On r
  refused c e t = absurd (not-accepted c (ap (λ (b : Reporting). b.reply) e) t)

  -- by what the state gives, and then by what the report finds
  lost_by : (a b : Answer) → state_cause receiver_end state ≡ a → loss_cause y rows message ≡ b
      → T (acceptance (lost_bytes state rows message).reply) → On (lost_bytes state rows message)
  lost_by (Err c) b none e t = refused c (sym (lost_caused state rows message c none)) t
  lost_by (Ok tt) (Err c) none e t =
      refused c (sym (lost_uncaused state rows message none) ∙ ap (report_left state) (steps.loss_stays y rows message c e)) t
  lost_by (Ok tt) (Ok _) none e t =
      let free = loss_open y rows message e in
      subst On (ap (report_left state) (sym (steps.loss_moves y rows message e)) ∙ lost_uncaused state rows message none)
      (moved none free.settings free.in_time_lem _)

  heard_by : (frame : List ℕ) (a b : Answer) → state_cause receiver_end state ≡ a → frame_cause y rows frame message ≡ b
      → T (acceptance (heard_bytes state rows frame message).reply) → On (heard_bytes state rows frame message)
  heard_by frame (Err c) b none e t = refused c (sym (heard_caused state rows message frame c none)) t
  heard_by frame (Ok tt) (Err c) none e t =
      refused c (sym (heard_uncaused state rows message frame none) ∙ ap (report_left state) (steps.heard_stays y rows frame message c e)) t
  heard_by frame (Ok tt) (Ok _) none e t =
      let free = frame_open y rows message 1 frame e in
      subst On (ap (report_left state) (sym (steps.heard_moves y rows frame message e)) ∙ heard_uncaused state rows message frame none)
      (moved none free.settings free.in_time_lem _)

reported_by : (state rows : List ℕ) (call : Report) (was : ℕ) → T (acceptance (report_bytes state rows call).reply)
    → Tells (slot_due_bytes (report_bytes state rows call).state was) ((slot_due_bytes state was).slot + 1)
unfolding report_bytes
reported_by state rows (heard frame message) was =
    heard_by state rows message was frame (state_cause receiver_end state) (frame_cause (receiver_in state) rows frame message) refl refl
reported_by state rows (missed message) was =
    lost_by state rows message was (state_cause receiver_end state) (loss_cause (receiver_in state) rows message) refl refl

-- ---- a frame of another slot

-- no row of the table is for this cause
abbrev without : Cause → List Row → Bool
without c [] = true
without c (r ∷ rs) = not (eqb (number_of r.why) (number_of c)) && without c rs

-- what stands above the first cause that holds finds nothing
first_below : (c : Cause) (rs ss : List Row) → T (without c rs) → First c (rs ++ ss) → (first_of rs ≡ Ok tt) × First c ss
first_below c [] ss t f = (refl, f)
first_below c (r ∷ rs) ss t (here h w) =
    let other = and_left (not (eqb (number_of r.why) (number_of c))) (without c rs) t in
    absurd (subst (λ (b : Bool). T (not b)) (eq-eqb (number_of r.why) (number_of c) (ap number_of w)) other)
first_below c (r ∷ rs) ss t (later none f) =
    let rest = first_below c rs ss (and_right (not (eqb (number_of r.why) (number_of c))) (without c rs) t) f in
    (rw (is_false r.holds none) rest.0, rest.1)

module _ (state rows frame message : List ℕ) (was : ℕ) (bytes : Bytes frame) where
  abbrev z : Receiver
  z = receiver_in state

  abbrev size : Bool
  size = exactly_framed z.settings (receiver_len z.settings) (length rows) (length message) (length frame)

  -- causes 1 to 5, of the call on what the state keeps
  abbrev above : List Row
  above = slot_table z.settings size z.due ++ header_table 1 z.settings frame

  abbrev unlike : Bool
  unlike = not (agree 4 (drop 10 frame) (slot_bytes z.due))

  abbrev Differ : Type 0
  Differ = ((slot_due_bytes state was).reply ≡ 0) × ((frame_slot_bytes frame was).reply ≡ 0)
      × ((frame_slot_bytes frame was).slot ≡ (slot_due_bytes state was).slot → ⊥)

  first_other : First OtherSlot (row unlike OtherSlot ∷ []) → T unlike
  first_other (here h w) = h
  first_other (later _ rest) = elim rest [ ]

  differ : state_cause receiver_end state ≡ Ok tt → first_of above ≡ Ok tt → T unlike → Differ
  unfolding receiver_in frame_len frame_slot_bytes slot_read_cause
  differ none clear other =
      let free = none_holds above clear in
      let due = receiver_tells state (passes (accepted z.settings) (free BadSettings)) none was in
      let lengths = framed_lengths z.settings (receiver_len z.settings) (length rows) (length message) (length frame)
      (passes size (free BadLength)) in
      let long : length frame ≡ frame_len z.settings = lengths.2 in
      let read : slot_read_cause frame ≡ Ok tt =
      rw (le-ltb (length frame) 14 (omega arith), not-false (agree 5 frame (mark 1)) (free OtherMark)) in
      let framed : frame_slot_bytes frame was ≡ told (slot_in frame) = rw read refl in (
        ap (λ (r : Reading). r.reply) due,
        ap (λ (r : Reading). r.reply) framed,
        λ same.
            let slots : z.due ≡ slot_in frame
            = sym (ap (λ (r : Reading). r.slot) due) ∙ sym same ∙ ap (λ (r : Reading). r.slot) framed in
            let own = fails (agree 4 (drop 10 frame) (slot_bytes (slot_in frame))) (slot_agrees frame (λ j h. byte_at frame bytes j)) in
            subst T (ap (λ (t : ℕ). not (agree 4 (drop 10 frame) (slot_bytes t))) slots ∙ own) other,
      )

  other_slot : (heard_bytes state rows frame message).reply ≡ number_of OtherSlot → Differ
  unfolding state_cause
  other_slot replied =
      let found = ((demand1_bytes.heard state rows frame message).first OtherSlot).0 replied in
      let (clear, last) = first_below OtherSlot (state_table receiver_end state ++ above) (row unlike OtherSlot ∷ []) tt found in
      let (none, rest) = both_clear (first_of (state_table receiver_end state)) (first_of above)
      (sym (one_below (state_table receiver_end state) above) ∙ clear) in
      differ none rest (first_other last)

pub slots_tell : SlotsTell
slots_tell = record {
  opened_sender_lem = λ settings state rows was.
      sender_opened settings state rows was (open_bytes_cause (settings_of settings) (sender_len (settings_of settings)) state rows) refl;
  opened_receiver_lem = λ settings slot state rows was.
      receiver_opened settings state rows was slot (open_receiver_bytes_cause (settings_of settings) slot state rows) refl;
  sent = λ state rows message frame was passed. sent_by_lem state rows message frame was passed (state_cause sender_end state) refl;
  reported = reported_by;
  other_slot = other_slot;
}
