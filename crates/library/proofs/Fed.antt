-- A pair that is fed through the static library: feeding's `pair_fed` and `pair-faithful-demand3`, carried over to what the library's
-- callers see.
use Rattle.std.specs.Prelude.{Ok, Err}
use mathlib.Core.Path.{◌≡◌, refl, sym, ap, ap₂, ◌∙◌, subst, subst⁻¹}
use mathlib.Core.Logic.{inl, inr, ⊎_elim}
use mathlib.Core.List.{List, [], ◌∷◌, Forall₂}
use Prim.Native.Nat.{ℕ, ◌≤◌}
use lib.Dec.{T}
use lib.ListN.{length}
use Rattle.code.specs.declared.settings.Settings.{Settings}
use Rattle.protocol.specs.declared.Receiver.{Receiver}
use Rattle.protocol.specs.declared.Cause.{Cause}
use Rattle.protocol.specs.Answers.{Answer, Reply}
use Rattle.protocol.specs.declared.Told.TheVariants.{NoneYet, Whole, Lost, Clash}
use Rattle.protocol.specs.Lengths.{last_slot, message_len, sender_len}
use Rattle.protocol.specs.Causes.{number_of, Row, first_of, open_cause, open_receiver_cause}
use Rattle.protocol.specs.Numbers.{reply_number}
use Rattle.protocol.specs.Calls.{OpenedReceiver, open_receiver_of, Reported}
use Rattle.protocol.specs.TwoLists.{SendMade, Report, report_of, ReportMade, reports}
use Rattle.protocol.specs.Histories.{lost_at}
use Rattle.protocol.proofs.CauseTables.{both_clear, open_exact, OpensAt, receiver_open}
use Rattle.protocol.proofs.NumberLaws.{accepted_number}
use Rattle.protocol.proofs.Refusals.{found_first}
use Rattle.protocol.proofs.ReportChain.{opened_receiver_lem}
use Rattle.feeding.specs.Fed.{lent, fed_by, fed, neither, buffer_of, Feeds, PairFed, HoldsOfPair, PairFaithfulDemand3}
use Rattle.feeding.proofs.Feeding.{pair_fed}
use Rattle.feeding.proofs.Demand.{pair_faithful_demand3}
use Rattle.state.specs.State.{state_len}
use Rattle.layout.specs.Numbers.{refusal}
use Rattle.library.specs.Causes.{open_bytes_cause, open_receiver_bytes_cause}
use Rattle.library.specs.Calls.{settings_of, Opening, open_sender_bytes, open_receiver_bytes, Reporting, pair_bytes}
use Rattle.library.specs.Chains.{SendDone, report_bytes, ReportDone}
use Rattle.library.specs.Refusals.{RefusesBytes}
use Rattle.library.specs.Fed.{fed_bytes, told_from, FeedsBytes, PairFedBytes, HoldsOfPairBytes, PairDemand3Bytes}
use Rattle.library.proofs.Outcomes.{open_cause_lem, open_receiver_cause_lem}
use Rattle.library.proofs.Refused.{demand1_bytes}
use Rattle.library.proofs.Partners as partner
use Rattle.library.proofs.Chains.{KeepsReceiver, opened_receiver_read, report_step, SameSend, SameReport}
use Rattle.library.proofs.Chains.{sends_opened, reports_opened}
use Rattle.library.proofs.Demand.{passed, lost_same, sent_bytes_lem, faithful, holds}

-- ---- what is fed

-- by the library's replies the same is fed as by protocol's
fed_read : (s : Settings) (first second : List ℕ) (messages : List (List ℕ)) (state rows : List ℕ) (y : Receiver) → KeepsReceiver state y
    → fed_bytes s first second y.due state rows messages ≡ fed s first second y rows messages
unfolding fed_bytes fed
fed_read s first second [] state rows y k = refl
fed_read s first second (message ∷ messages) state rows y k =
    let call : Report = fed_by (lent s first second y.due) message in
    let b : Reporting = report_bytes state rows call in
    let r : Reported = report_of y rows call in
    let step = report_step state rows call y k in
    ap (λ (rest : List Report). call ∷ rest)
    (ap (λ (due : ℕ). fed_bytes s first second due b.state b.rows messages) (sym step.due)
    ∙ fed_read s first second messages b.state b.rows r.receiver step.next
    ∙ ap (λ (z : Reporting). fed s first second r.receiver z.rows messages) step.same)

-- ---- openings that replied 0

-- a call that replied 0 found no cause
uncaused : {Stays : Type 0} (table : List Row) (number : ℕ) → RefusesBytes table number Stays → number ≡ 0
    → first_of table ≡ Ok tt
uncaused table number h zero = by (first_of table) refl
  where
    by : (a : Answer) → first_of table ≡ a → a ≡ Ok tt
    by (Ok tt) e = refl
    by (Err c) e = absurd (accepted_number c (sym zero ∙ (h.first c).1 (found_first c table e)))

module _ (settings state rows : List ℕ) where
  abbrev s : Settings
  s = settings_of settings

  -- a sender's had exact lengths
  sender_exact : (open_sender_bytes settings state rows).reply ≡ 0 → (length state ≡ state_len) × (length rows ≡ sender_len s)
  unfolding open_bytes_cause
  sender_exact zero =
      let none = sym (open_cause_lem s (sender_len s) state rows) ∙ uncaused _ _ (demand1_bytes.open_sender settings state rows) zero in
      let (room, full) = both_clear (open_cause s state_len state) (open_cause s (sender_len s) rows) none in
      (open_exact s state_len state room, open_exact s (sender_len s) rows full)

  -- a receiver's too, and a slot up to the last one
  receiver_exact : (slot : ℕ) → (open_receiver_bytes settings slot state rows).reply ≡ 0 → (length state ≡ state_len) × OpensAt s slot rows
  unfolding open_receiver_bytes_cause
  receiver_exact slot zero =
      let none = sym (open_receiver_cause_lem s slot state rows)
      ∙ uncaused _ _ (demand1_bytes.open_receiver settings slot state rows) zero in
      let (room, opens) = both_clear (open_cause s state_len state) (open_receiver_cause s slot rows) none in
      (open_exact s state_len state room, receiver_open s slot rows opens)

  -- so the reports that are fed from then on are protocol's
  fed_opened : (first second : List ℕ) (slot : ℕ) → length state ≡ state_len → OpensAt s slot rows → (messages : List (List ℕ))
      → let b : Opening = open_receiver_bytes settings slot state rows in
      let r : OpenedReceiver = open_receiver_of s slot rows in
      Forall₂ SameReport (reports r.receiver r.rows (fed s first second r.receiver r.rows messages))
      (told_from s first second slot b messages)
  fed_opened first second slot room opens messages =
      let b : Opening = open_receiver_bytes settings slot state rows in
      let r : OpenedReceiver = open_receiver_of s slot rows in
      let (_, same, keeps) = opened_receiver_read settings slot state rows opens room in
      let due : r.receiver.due ≡ slot = ap (λ (o : OpenedReceiver). o.receiver.due) (opened_receiver_lem s slot rows opens) in
      let calls : List Report = fed_bytes s first second slot b.state b.rows messages in
      let alike : calls ≡ fed s first second r.receiver r.rows messages
      = ap (λ (d : ℕ). fed_bytes s first second d b.state b.rows messages) (sym due)
      ∙ fed_read s first second messages b.state b.rows r.receiver keeps
      ∙ ap (λ (l : List ℕ). fed s first second r.receiver l messages) same in
      subst (λ (cs : List Report). Forall₂ SameReport (reports r.receiver r.rows cs) (told_from s first second slot b messages)) alike
      (reports_opened settings opens.settings state room rows slot opens calls).1

-- ---- from protocol's reports to the library's

-- a reply that is a refusal's number is a refusal
refused_number : (r : Reply) → T (refusal (reply_number r)) → (c : Cause) × (r ≡ Err c)
refused_number (Err c) t = (c, refl)
refused_number (Ok NoneYet) t = absurd t
refused_number (Ok Whole) t = absurd t
refused_number (Ok Lost) t = absurd t
refused_number (Ok Clash) t = absurd t

module _ (s : Settings) (first second : List ℕ) {reports₁ : List ReportMade} {reports₂ : List ReportDone}
    (told : Forall₂ SameReport reports₁ reports₂) where
  -- what holds of those that were fed
  feeds : Feeds s first second reports₁ → FeedsBytes s first second reports₂
  feeds h = record {
    taken = λ b listed.
        let (m, listed-m, same) = partner.first told listed in
        let (forth, back) = h.taken m listed-m in
        let terms : ((length (buffer_of b.call) ≡ message_len s) × (b.due ≤ last_slot))
        ≡ ((length (buffer_of m.call) ≡ message_len s) × (m.before.due ≤ last_slot))
        = ap₂ (λ (c : Report) (d : ℕ). (length (buffer_of c) ≡ message_len s) × (d ≤ last_slot)) same.call same.due in (
          λ t. subst⁻¹ (λ (P : Type 0). P) terms (forth (subst T (passed same) t)),
          λ t. subst⁻¹ T (passed same) (back (subst (λ (P : Type 0). P) terms t)),
        );
    causes = λ b listed t.
        let (m, listed-m, same) = partner.first told listed in
        let (c, e) = refused_number m.after.reply (subst (λ (n : ℕ). T (refusal n)) same.reply t) in
        let number : b.after.reply ≡ number_of c = same.reply ∙ ap reply_number e in
        ⊎_elim (λ is. inl (number ∙ ap number_of is)) (λ is. inr (number ∙ ap number_of is)) (h.causes m listed-m c e);
    lost = λ b listed t.
        let (m, listed-m, same) = partner.first told listed in
        lost_same told b.due ∙ ap (lost_at reports₁) same.due ∙ h.lost m listed-m (subst T (passed same) t)
        ∙ ap (neither s first second) (sym same.due);
  }

  -- what demand 3 says in terms of the pair
  pair_holds : (opening : ℕ) {sends₁ : List SendMade} {sends₂ : List SendDone} → Forall₂ SameSend sends₁ sends₂
      → HoldsOfPair s opening first second sends₁ reports₁ → HoldsOfPairBytes s opening first second sends₂ reports₂
  pair_holds opening sent h = record {
    demand3 = holds s opening sent told h.demand3;
    on_time = λ t b listed slot taken fair.
        let (m, listed-m, same) = partner.first told listed in
        let (message, frame, a, whole, out) = h.on_time t m listed-m (sym same.due ∙ slot) (subst T (passed same) taken) fair in
        (message, frame, sent_bytes_lem sent a, same.reply ∙ ap reply_number whole, same.message ∙ out);
  }

-- ---- after the openings

-- no 4, 5 or 6 is met
pub pair_fed_bytes : PairFedBytes
unfolding PairFedBytes PairFed pair_bytes
pair_fed_bytes settings first second ok bytes_one bytes-two opening state rows zero messages =
    let s : Settings = settings_of settings in
    let (room, opens) = receiver_exact settings state rows opening zero in
    feeds s first second (fed_opened settings state rows first second opening room opens messages)
    (pair_fed s first second ok bytes_one bytes-two opening opens.in_time_lem rows opens.exact messages)

-- and demand 3 holds
pub pair_demand3_bytes : PairDemand3Bytes
unfolding PairDemand3Bytes PairFaithfulDemand3 pair_bytes
pair_demand3_bytes settings first second ok opening sender_state sender_rows receiver_state receiver_rows sender-zero receiver-zero
    send_calls bytes messages own =
    let s : Settings = settings_of settings in
    let (sender-room, sender-full) = sender_exact settings sender_state sender_rows sender-zero in
    let (receiver-room, opens) = receiver_exact settings receiver_state receiver_rows opening receiver-zero in
    let (_, sent) = sends_opened settings opens.settings sender_state sender-room sender_rows sender-full send_calls in
    let told = fed_opened settings receiver_state receiver_rows first second opening receiver-room opens messages in
    pair_holds s first second told opening sent
    (pair_faithful_demand3 s first second ok opening opens.in_time_lem sender_rows receiver_rows sender-full opens.exact send_calls bytes
    messages (faithful s opening sent told own))
