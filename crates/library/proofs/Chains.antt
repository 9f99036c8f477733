-- What a call reads is what the call before it wrote, so a list of the library's calls is protocol's, call by call.
use Rattle.std.specs.Prelude.{Ok, Err}
use mathlib.Core.Path.{◌≡◌, refl, sym, ap, ◌∙◌, subst, subst⁻¹}
use mathlib.Core.Bool.{Bool, true, cond}
use mathlib.Core.List.{List, [], ◌∷◌, map, Forall₂}
use native.Mathlib.Omega.{arith}
use Prim.Native.Nat.{ℕ, ◌+◌, ◌≤◌}
use lib.Dec.{T}
use lib.IntN.{ℤ}
use lib.ListN.{length, drop}
use Rattle.galois.proofs.Cases.{is_true}
use Rattle.code.specs.declared.settings.Settings.{Settings}
use Rattle.code.specs.Settings.{accepted}
use Rattle.protocol.specs.declared.Sender.{Sender}
use Rattle.protocol.specs.declared.Receiver.{Receiver}
use Rattle.protocol.specs.declared.Cause.{Cause}
use Rattle.protocol.specs.Answers.{Answer}
use Rattle.protocol.specs.Causes.{loss_cause, frame_cause}
use Rattle.protocol.specs.Lengths.{last_slot, sender_len}
use Rattle.protocol.specs.States.{opened_sender, sent_on, opened_receiver, reported_on}
use Rattle.protocol.specs.Calls.{OpenedSender, OpenedReceiver, Sent, Reported, open_sender_of, open_receiver_of, send_of, moved_on}
use Rattle.protocol.specs.Calls.{loss_of, heard_of}
use Rattle.protocol.specs.Calls.{look_up_of}
use Rattle.protocol.specs.Histories.{accepts}
use Rattle.protocol.specs.TwoLists.{Send, SendMade, sends, Report, heard, missed, report_of, ReportMade, reports}
use Rattle.protocol.proofs.CauseTables.{open_clear, OpensAt}
use Rattle.protocol.proofs.Sending as sending
use Rattle.protocol.proofs.ReportCauses.{loss_open, frame_open}
use Rattle.protocol.proofs.ReportRows.{moved_accepts}
use Rattle.protocol.proofs.ReportSteps as steps
use Rattle.protocol.proofs.ReportChain as reporting
use Rattle.early.specs.Mixed.{Call, report, look_up, CallMade, calls, reports_in}
use Rattle.early.specs.Early.{reported_to}
use Rattle.early.proofs.Lists.{without_look_ups}
use Rattle.frames.specs.Fields.{settings_at}
use Rattle.state.specs.State.{sender_end, receiver_end, sender_bytes, receiver_bytes, saved, state_len, sender_in, receiver_in, state_cause}
use Rattle.protocol.specs.Numbers.{answer_number, reply_number}
use Rattle.state.proofs.KeptStates.{state_uncaused, sender_in_state, receiver_in_state}
use Rattle.layout.proofs.Refusals.{cause_refused, reply_accepted}
use Rattle.library.specs.Calls.{settings_of, Opening, open_sender_bytes, open_receiver_bytes, Sending, send_bytes, Reporting}
use Rattle.library.specs.Calls.{Looking, looked_bytes, look_up_bytes}
use Rattle.library.specs.Chains.{due_after, SendDone, sends_bytes, report_bytes, ReportDone, reports_bytes}
use Rattle.library.specs.Chains.{due_after_call, CallDone, calls_bytes, reports_in_bytes}
use Rattle.library.specs.Early.{reported_to_bytes}
use Rattle.library.proofs.Outcomes.{sender_uncaused, receiver_uncaused}
use Rattle.library.proofs.Outcomes.{send_left, send_uncaused, report_left, heard_uncaused, lost_uncaused, look_up_uncaused}

-- the bytes are a state of this end, and keep x
pub record Keeps {X : Type 0} (end : ℕ) (read : List ℕ → X) (state : List ℕ) (x : X) : Type 0 where
  pub uncaused : state_cause end state ≡ Ok tt
  pub reads : read state ≡ x

-- ---- the sender

abbrev pub KeepsSender : List ℕ → Sender → Type 0
KeepsSender = Keeps sender_end sender_in

-- a state that was written keeps what it was written from
kept_sender : (x : Sender) → x.due ≤ last_slot + 1 → KeepsSender (sender_bytes x) x
kept_sender x few = record { uncaused = state_uncaused sender_end x.settings x.due 0; reads = sender_in_state x few }

-- an opening with accepted settings and exact lengths replies 0, and the next call reads the sender that it opened
opened_sender_read : (settings state rows : List ℕ) → T (accepted (settings_of settings)) → length state ≡ state_len
    → length rows ≡ sender_len (settings_of settings)
    → let b : Opening = open_sender_bytes settings state rows in
    let r : OpenedSender = open_sender_of (settings_of settings) rows in
    (b.reply ≡ 0) × (b.rows ≡ r.rows) × KeepsSender b.state r.sender
unfolding settings_of
opened_sender_read settings state rows ok room full =
    let s : Settings = settings_at 0 settings in
    rw (sym (sender_uncaused settings state rows (open_clear s state_len state ok room)), sending.opened_sender_lem s rows ok full)
    (refl, refl, kept_sender (opened_sender s) (omega arith))

-- a send by the library: what it leaves, the sender that the next call reads, and the slot due then
pub record SendStep (state rows message frame : List ℕ) (x : Sender) : Type 0 where
  pub same : send_bytes state rows message frame ≡ send_left state (send_of x rows message frame)
  pub next : KeepsSender (send_bytes state rows message frame).state (send_of x rows message frame).sender
  pub due : (send_of x rows message frame).sender.due ≡ due_after x.due (send_bytes state rows message frame).reply

module _ (state rows message frame : List ℕ) (none : state_cause sender_end state ≡ Ok tt) where
  abbrev x : Sender
  x = sender_in state

  abbrev Next : Sent → Type 0
  Next r = KeepsSender (send_left state r).state r.sender × (r.sender.due ≡ due_after x.due (send_left state r).reply)

  -- by whether the send is taken
  sent_next : sending.SendCase x rows message frame → Next (send_of x rows message frame)
  sent_next (sending.taken h e) = subst⁻¹ Next e (kept_sender (sent_on x) (omega (arith, h.in_time_lem)), refl)
  sent_next (sending.refused c _ e) =
      subst⁻¹ Next e (record { uncaused = none; reads = refl }, ap (λ (t : Bool). cond t (x.due + 1) x.due) (sym (cause_refused c)))

  -- a send of the sender that the state keeps is protocol's
  sent_step : SendStep state rows message frame x
  sent_step =
      let same = sym (send_uncaused state rows message frame none) in
      let next = sent_next (sending.send_case x rows message frame) in
      record { same = same; next = rw same next.0; due = rw same next.1 }

pub send_step : (state rows message frame : List ℕ) (x : Sender) → KeepsSender state x → SendStep state rows message frame x
send_step state rows message frame x k =
    subst (SendStep state rows message frame) k.reads (sent_step state rows message frame k.uncaused)

-- the library's send and protocol's: for the same slot, with the same call, and alike in what the caller sees
pub record SameSend (m : SendMade) (b : SendDone) : Type 0 where
  pub due : b.due ≡ m.before.due
  pub call : b.call ≡ m.call
  pub reply : b.after.reply ≡ answer_number m.after.answer
  pub frame : b.after.frame ≡ m.after.frame

-- so a list of sends is protocol's
sends_read : (calls : List Send) (due : ℕ) (state rows : List ℕ) (x : Sender) → KeepsSender state x → x.due ≡ due
    → Forall₂ SameSend (sends x rows calls) (sends_bytes due state rows calls)
unfolding sends_bytes sends
sends_read [] due state rows x k e = Forall₂.nil
sends_read (c ∷ cs) due state rows x k e =
    let b : Sending = send_bytes state rows c.message c.frame in
    let r : Sent = send_of x rows c.message c.frame in
    let step = send_step state rows c.message c.frame x k in
    Forall₂.cons
    (record {
      due = sym e;
      call = refl;
      reply = ap (λ (y : Sending). y.reply) step.same;
      frame = ap (λ (y : Sending). y.frame) step.same;
    })
    (subst
    (λ (rest : List ℕ). Forall₂ SameSend (sends r.sender rest cs) (sends_bytes (due_after due b.reply) b.state b.rows cs))
    (ap (λ (y : Sending). y.rows) step.same)
    (sends_read cs (due_after due b.reply) b.state b.rows r.sender step.next
    (step.due ∙ ap (λ (d : ℕ). due_after d b.reply) e)))

-- ---- the receiver

-- the bytes keep y, which was opened at a slot up to the last one
pub record KeepsReceiver (state : List ℕ) (y : Receiver) : Type 0 where
  pub keeps : Keeps receiver_end receiver_in state y
  pub begun : y.opening ≤ last_slot

kept_receiver : (y : Receiver) → y.opening ≤ last_slot → y.due ≤ last_slot + 1 → KeepsReceiver (receiver_bytes y) y
kept_receiver y begun few = record {
  keeps = record {
    uncaused = state_uncaused receiver_end y.settings y.due y.opening;
    reads = receiver_in_state y begun few;
  };
  begun = begun;
}

-- an opening with accepted settings and exact lengths replies 0, and the next call reads the receiver that it opened
pub opened_receiver_read : (settings : List ℕ) (slot : ℕ) (state rows : List ℕ) → OpensAt (settings_of settings) slot rows
    → length state ≡ state_len
    → let b : Opening = open_receiver_bytes settings slot state rows in
    let r : OpenedReceiver = open_receiver_of (settings_of settings) slot rows in
    (b.reply ≡ 0) × (b.rows ≡ r.rows) × KeepsReceiver b.state r.receiver
unfolding settings_of
opened_receiver_read settings slot state rows opens room =
    let s : Settings = settings_at 0 settings in
    rw (
      sym (receiver_uncaused settings state rows slot (open_clear s state_len state opens.settings room)),
      reporting.opened_receiver_lem
          s slot rows opens,
    )
    (refl, refl, kept_receiver (opened_receiver s slot) opens.in_time_lem (omega (arith, opens.in_time_lem)))

-- a report by the library: what it leaves, the receiver that the next call reads, and the slot due then
pub record ReportStep (state rows : List ℕ) (call : Report) (y : Receiver) : Type 0 where
  pub same : report_bytes state rows call ≡ report_left state (report_of y rows call)
  pub next : KeepsReceiver (report_bytes state rows call).state (report_of y rows call).receiver
  pub due : (report_of y rows call).receiver.due ≡ due_after y.due (report_bytes state rows call).reply

module _ (state rows : List ℕ) (none : state_cause receiver_end state ≡ Ok tt) (begun : (receiver_in state).opening ≤ last_slot) where
  abbrev y : Receiver
  y = receiver_in state

  report_same : (call : Report) → report_bytes state rows call ≡ report_left state (report_of y rows call)
  unfolding report_of report_bytes
  report_same (heard frame message) = sym (heard_uncaused state rows message frame none)
  report_same (missed message) = sym (lost_uncaused state rows message none)

  abbrev After : Reported → Type 0
  After r = KeepsReceiver (report_left state r).state r.receiver × (r.receiver.due ≡ due_after y.due (report_left state r).reply)

  moved_next : (row : List ℕ) → y.due ≤ last_slot → After (moved_on y row rows)
  unfolding moved_on
  moved_next row before =
      let r : Reported = moved_on y row rows in
      let passed : accepts r.reply ≡ true = is_true (accepts r.reply) (moved_accepts y row rows) in (
        subst⁻¹ (λ (t : Bool). KeepsReceiver (saved t (receiver_bytes (reported_on y)) state) r.receiver) passed
            (kept_receiver (reported_on y) begun (omega arith)),
        ap (λ (t : Bool). cond t (y.due + 1) y.due) (sym (reply_accepted r.reply ∙ passed)),
      )

  stayed_next : (c : Cause) (message : List ℕ) → After (steps.refusal c y rows message)
  stayed_next c message = (
    record { keeps = record { uncaused = none; reads = refl }; begun = begun },
    ap (λ (t : Bool). cond t (y.due + 1) y.due) (sym (cause_refused c)),
  )

  -- by the cause that is found
  heard_next : (frame message : List ℕ) (found : Answer) → frame_cause y rows frame message ≡ found → After (heard_of y rows frame message)
  heard_next frame message (Ok tt) e =
      subst⁻¹ After (steps.heard_moves y rows frame message e)
      (moved_next (1 ∷ drop 14 frame) (frame_open y rows message 1 frame e).in_time_lem)
  heard_next frame message (Err c) e = subst⁻¹ After (steps.heard_stays y rows frame message c e) (stayed_next c message)

  lost_next : (message : List ℕ) (found : Answer) → loss_cause y rows message ≡ found → After (loss_of y rows message)
  lost_next message (Ok tt) e =
      subst⁻¹ After (steps.loss_moves y rows message e) (moved_next _ (loss_open y rows message e).in_time_lem)
  lost_next message (Err c) e = subst⁻¹ After (steps.loss_stays y rows message c e) (stayed_next c message)

  report_next : (call : Report) → After (report_of y rows call)
  unfolding report_of
  report_next (heard frame message) = heard_next frame message (frame_cause y rows frame message) refl
  report_next (missed message) = lost_next message (loss_cause y rows message) refl

  -- a report to the receiver that the state keeps is protocol's
  reported_step : (call : Report) → ReportStep state rows call y
  reported_step call =
      let same = report_same call in
      let next = report_next call in
      record { same = same; next = rw same next.0; due = rw same next.1 }

pub report_step : (state rows : List ℕ) (call : Report) (y : Receiver) → KeepsReceiver state y → ReportStep state rows call y
report_step state rows call y k =
    let same = k.keeps.reads in
    subst (ReportStep state rows call) same
    (reported_step state rows k.keeps.uncaused (subst⁻¹ (λ (z : Receiver). z.opening ≤ last_slot) same k.begun) call)

-- the library's report and protocol's: for the same slot, with the same call, and alike in what the caller sees
pub record SameReport (m : ReportMade) (b : ReportDone) : Type 0 where
  pub due : b.due ≡ m.before.due
  pub call : b.call ≡ m.call
  pub reply : b.after.reply ≡ reply_number m.after.reply
  pub message : b.after.message ≡ m.after.message

-- ---- reports and look-ups

-- the library's call and protocol's: for the same slot, with the same call, alike in what the caller sees, and with the same slot due next
pub record SameCall (m : CallMade) (b : CallDone) : Type 0 where
  pub due : b.due ≡ m.before.due
  pub call : b.call ≡ m.call
  pub reply : b.after.reply ≡ reply_number m.after.reply
  pub message : b.after.message ≡ m.after.message
  pub next : reported_to_bytes b ≡ reported_to m

-- call by call, and so the reports among them
pub record SameCalls (made : List CallMade) (done : List CallDone) : Type 0 where
  pub each : Forall₂ SameCall made done
  pub told : Forall₂ SameReport (reports_in made) (reports_in_bytes done)

-- a look-up by the library is protocol's on the receiver that its bytes keep
looked_same : (state rows : List ℕ) (number : ℤ) (message : List ℕ) (y : Receiver) → KeepsReceiver state y
    → look_up_bytes state rows number message ≡ looked_bytes (look_up_of y rows number message)
looked_same state rows number message y k =
    sym (look_up_uncaused state rows message number k.keeps.uncaused)
    ∙ ap (λ (z : Receiver). looked_bytes (look_up_of z rows number message)) k.keeps.reads

-- so a list of calls is protocol's
pub calls_read : (cs : List Call) (due : ℕ) (state rows : List ℕ) (y : Receiver) → KeepsReceiver state y → y.due ≡ due
    → SameCalls (calls y rows cs) (calls_bytes due state rows cs)
unfolding calls calls_bytes reports_in reports_in_bytes
calls_read [] due state rows y k e = record { each = Forall₂.nil; told = Forall₂.nil }
calls_read (report c ∷ cs) due state rows y k e =
    let b : Reporting = report_bytes state rows c in
    let r : Reported = report_of y rows c in
    let step = report_step state rows c y k in
    let next : due_after_call due (report c) b.reply ≡ r.receiver.due
    = sym (step.due ∙ ap (λ (d : ℕ). due_after_call d (report c) b.reply) e) in
    let later : SameCalls (calls r.receiver r.rows cs) (calls_bytes (due_after_call due (report c) b.reply) b.state b.rows cs)
    = subst (λ (l : List ℕ). SameCalls (calls r.receiver l cs) (calls_bytes (due_after_call due (report c) b.reply) b.state b.rows cs))
    (ap (λ (z : Reporting). z.rows) step.same)
    (calls_read cs (due_after_call due (report c) b.reply) b.state b.rows r.receiver step.next (sym next)) in
    let said = ap (λ (z : Reporting). z.reply) step.same in
    let holds = ap (λ (z : Reporting). z.message) step.same in
    record {
      each = Forall₂.cons (record { due = sym e; call = refl; reply = said; message = holds; next = next }) later.each;
      told = Forall₂.cons (record { due = sym e; call = refl; reply = said; message = holds }) later.told;
    }
calls_read (look_up number message ∷ cs) due state rows y k e =
    let same = looked_same state rows number message y k in
    let later : SameCalls (calls y rows cs) (calls_bytes due state rows cs) = calls_read cs due state rows y k e in
    record {
      each = Forall₂.cons
          (record {
            due = sym e;
            call = refl;
            reply = ap (λ (z : Looking). z.reply) same;
            message = ap (λ (z : Looking). z.message) same;
            next = sym e;
          })
          later.each;
      told = later.told;
    }

-- a list of reports is one without look-ups
alone : (cs : List Report) (due : ℕ) (state rows : List ℕ) → reports_in_bytes (calls_bytes due state rows (map report cs))
    ≡ reports_bytes due state rows cs
unfolding calls_bytes reports_in_bytes reports_bytes
alone [] due state rows = refl
alone (c ∷ cs) due state rows =
    let b : Reporting = report_bytes state rows c in
    ap (λ (rest : List ReportDone). record { due = due; call = c; after = b } ∷ rest) (alone cs (due_after due b.reply) b.state b.rows)

-- ---- after the openings

module _ (settings : List ℕ) (ok : T (accepted (settings_of settings))) (state : List ℕ) (room : length state ≡ state_len) (rows : List ℕ)
  where
    abbrev settled : Settings
    settled = settings_of settings

    -- the sends are protocol's
    pub sends_opened : length rows ≡ sender_len settled → (cs : List Send)
        → let b : Opening = open_sender_bytes settings state rows in
        let r : OpenedSender = open_sender_of settled rows in
        (b.reply ≡ 0) × Forall₂ SameSend (sends r.sender r.rows cs) (sends_bytes 0 b.state b.rows cs)
    sends_opened full cs =
        let b : Opening = open_sender_bytes settings state rows in
        let x : Sender = (open_sender_of settled rows).sender in
        let (reply, same, keeps) = opened_sender_read settings state rows ok room full in (
          reply,
          subst (λ (l : List ℕ). Forall₂ SameSend (sends x l cs) (sends_bytes 0 b.state b.rows cs)) same
              (sends_read cs 0 b.state b.rows x keeps
              (ap (λ (r : OpenedSender). r.sender.due) (sending.opened_sender_lem settled rows ok full))),
        )

    -- and so are the reports and look-ups
    pub calls_opened : (slot : ℕ) → OpensAt settled slot rows → (cs : List Call)
        → let b : Opening = open_receiver_bytes settings slot state rows in
        let r : OpenedReceiver = open_receiver_of settled slot rows in
        (b.reply ≡ 0) × SameCalls (calls r.receiver r.rows cs) (calls_bytes slot b.state b.rows cs)
    calls_opened slot opens cs =
        let b : Opening = open_receiver_bytes settings slot state rows in
        let y : Receiver = (open_receiver_of settled slot rows).receiver in
        let (reply, same, keeps) = opened_receiver_read settings slot state rows opens room in (
          reply,
          subst (λ (l : List ℕ). SameCalls (calls y l cs) (calls_bytes slot b.state b.rows cs)) same
              (calls_read cs slot b.state b.rows y keeps
              (ap (λ (r : OpenedReceiver). r.receiver.due) (reporting.opened_receiver_lem settled slot rows opens))),
        )

    pub reports_opened : (slot : ℕ) → OpensAt settled slot rows → (cs : List Report)
        → let b : Opening = open_receiver_bytes settings slot state rows in
        let r : OpenedReceiver = open_receiver_of settled slot rows in
        (b.reply ≡ 0) × Forall₂ SameReport (reports r.receiver r.rows cs) (reports_bytes slot b.state b.rows cs)
    reports_opened slot opens cs =
        let b : Opening = open_receiver_bytes settings slot state rows in
        let r : OpenedReceiver = open_receiver_of settled slot rows in
        let (reply, same) = calls_opened slot opens (map report cs) in
        (reply, rw (← without_look_ups r.receiver r.rows cs, ← alone cs slot b.state b.rows) same.told)
