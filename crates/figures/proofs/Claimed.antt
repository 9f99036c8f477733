-- Demand 3 on lists that are computed, send by send and report by report, from any opening slot on: what it says of one report. No
-- verdict is computed for it.
use Rattle.std.specs.Prelude.{Ok}
use mathlib.Core.Path.{◌≡◌, refl, ap, ◌∙◌, subst, subst⁻¹}
use mathlib.Core.Bool.{Bool, true, false, ◌&&◌, ◌||◌, and-false}
use mathlib.Core.Logic.{⊎_elim}
use mathlib.Core.List.Memᴰ
use mathlib.Core.List.{List, [], ◌∷◌, Memᴰ}
use Prim.Native.Nat.{ℕ, zero, suc, ◌+◌, ◌-◌, ◌≤◌}
use lib.Dec.{T, eqb, ltb, ltb→lt}
use lib.ListN.{length, drop, replicate, length-replicate}
use Rattle.galois.specs.Byte.{Bytes}
use Rattle.galois.proofs.Cases.{and_left, and_right}
use Rattle.code.specs.declared.settings.Settings.{Settings}
use Rattle.code.specs.Settings.{accepted, delay_of, k_of}
use Rattle.repair.specs.Fair.{fair_slots, Fair}
use Rattle.repair.proofs.FairTest.{fair_tested}
use Rattle.protocol.specs.declared.Told.TheVariants.{Whole}
use Rattle.protocol.specs.Lengths.{last_slot, message_len, sender_len, receiver_len}
use Rattle.protocol.specs.Calls.{OpenedSender, open_sender_of, moved_on, loss_of, heard_of}
use Rattle.protocol.specs.TwoLists.{Send, SendMade, sends, Report, heard, missed, report_of, ReportMade, reports}
use Rattle.protocol.specs.Histories.{SentAs, accepts, of_loss, lost_at, lost_since}
use Rattle.protocol.specs.Claim.{Faithful, Holds, Demand3}
use Rattle.protocol.proofs.Demand.{demand3}
use Rattle.protocol.proofs.QuickVerdict.{small}
use Rattle.figures.specs.Card.{reported}
use Rattle.figures.proofs.Card.{Each, from_each}

-- the sends of these calls after an opening; each lent byte is 7
unfoldable pub sent_by : Settings → List Send → List SendMade
sent_by s calls =
    let opened : OpenedSender = open_sender_of s (replicate (sender_len s) 7) in
    sends opened.sender opened.rows calls

-- numbers below 256 are bytes
pub small_bytes : (l : List ℕ) → T (small l) → Bytes l
unfolding small
small_bytes [] t = tt
small_bytes (x ∷ l) t = (ltb→lt x 256 (and_left (ltb x 256) (small l) t), small_bytes l (and_right (ltb x 256) (small l) t))

-- ---- each frame is the sender's own

-- a report is of a loss, or of this frame
abbrev pub OfFrame : List ℕ → Report → Type 0
OfFrame frame (heard f m) = frame ≡ f
OfFrame frame (missed m) = Unit {0}

-- a send and a report are of the same slot: the send is accepted, and the report is of a loss or of the frame handed out
abbrev pub SameSlot : SendMade → ReportMade → Type 0
SameSlot c r = (c.after.answer ≡ Ok tt) × (c.before.due ≡ r.before.due) × OfFrame c.after.frame r.call

-- sends and reports that go slot by slot, a send for each report
abbrev pub InStep : List SendMade → List ReportMade → Type 0
InStep cs [] = Unit {0}
InStep [] (r ∷ rs) = ⊥
InStep (c ∷ cs) (r ∷ rs) = SameSlot c r × InStep cs rs

-- what is in the rest of a list is in the list
in_rest : {A : Type 0} (m : ℕ) (l : List A) (a : A) → Memᴰ a (drop m l) → Memᴰ a l
in_rest zero l a h = h
in_rest (suc m) [] a h = h
in_rest (suc m) (b ∷ l) a h = Memᴰ.tail (in_rest m l a h)

-- each report has the send of its slot
same_slot : (sent : List SendMade) (told : List ReportMade) → InStep sent told
    → (r : ReportMade) → Memᴰ r told → (c : SendMade) × Memᴰ c sent × SameSlot c r
same_slot cs [] step r h = absurd (Memᴰ.not-nil h)
same_slot [] (q ∷ rs) step r h = absurd step
same_slot (c ∷ cs) (q ∷ rs) step r h =
    ⊎_elim (λ same. (c, Memᴰ.head refl, subst⁻¹ (SameSlot c) same step.0))
    (λ later. let found = same_slot cs rs step.1 r later in (found.0, Memᴰ.tail found.1, found.2)) (Memᴰ.cases_cons h)

-- so a frame that is reported is the one that was handed out for the slot, where the reports begin after some sends
pub own_frame : (sent : List SendMade) (slot : ℕ) (told : List ReportMade) → InStep (drop slot sent) told
    → (r : ReportMade) (f m : List ℕ) → Memᴰ r told → r.call ≡ heard f m
    → (message : List ℕ) × SentAs sent r.before.due message f
own_frame sent slot told step r f m listed e =
    let (c, at, same) = same_slot (drop slot sent) told step r listed in
    let out : c.after.frame ≡ f = subst (OfFrame c.after.frame) e same.2 in
    (c.call.message, record { send = c; listed = in_rest slot sent c at; taken = same.0; slot = same.1; given = refl; out = out })

-- ---- the slots that are lost

-- the reports of losses
unfoldable pub losses_in : List ReportMade → List ReportMade
losses_in [] = []
losses_in (r ∷ rs) = elim (of_loss r.call) [ true ↦ r ∷ losses_in rs | false ↦ losses_in rs ]

-- one report, by whether it is of a loss
loss_alone : (r : ReportMade) (rs kept : List ReportMade) (t : ℕ) → lost_at rs t ≡ lost_at kept t → (b : Bool) → of_loss r.call ≡ b
    → lost_at (r ∷ rs) t ≡ lost_at (elim b [ true ↦ r ∷ kept | false ↦ kept ]) t
unfolding lost_at
loss_alone r rs kept t rest true e =
    ap (λ (b : Bool). (accepts r.after.reply && (of_loss r.call && eqb r.before.due t)) || b) rest
loss_alone r rs kept t rest false e =
    ap (λ (b : Bool). (accepts r.after.reply && (b && eqb r.before.due t)) || lost_at rs t) e
    ∙ ap (λ (b : Bool). b || lost_at rs t) (and-false (accepts r.after.reply)) ∙ rest

-- the others make no slot lost
pub losses_alone : (told : List ReportMade) (t : ℕ) → lost_at told t ≡ lost_at (losses_in told) t
unfolding losses_in
losses_alone [] t = refl
losses_alone (r ∷ rs) t = loss_alone r rs (losses_in rs) t (losses_alone rs t) (of_loss r.call) refl

-- ---- the demand

-- what such lists are computed by: an `unfolding` line that names `listing` opens all of these
unfoldable pub listing : Unit {0}
unfolding sent_by reported reports report_of loss_of heard_of moved_on losses_in
listing = tt

module _ (s : Settings) (ok : T (accepted s)) (slot : ℕ) (in_time_lem : slot ≤ last_slot)
    (send_calls : List Send) (bytes : Each (λ c. T (small c.message)) send_calls)
    (report_calls : List Report) (step : InStep (drop slot (sent_by s send_calls)) (reported s slot report_calls)) where
  abbrev sent : List SendMade
  sent = sent_by s send_calls

  abbrev told : List ReportMade
  told = reported s slot report_calls

  -- the demand holds
  holds : Holds s slot sent told
  unfolding Demand3 Faithful sent_by reported
  holds =
      demand3 s ok slot in_time_lem (replicate (sender_len s) 7) (replicate (receiver_len s) 7)
      (length-replicate (sender_len s) 7) (length-replicate (receiver_len s) 7) send_calls
      (λ c h. small_bytes c.message (from_each (λ d. T (small d.message)) send_calls bytes c h)) report_calls
      (λ r f m listed e passed. own_frame sent slot told step r f m listed e)

  -- where slots t - k + 1 to t + T are fair, a report of the frame of slot t + T hands out whole what was given to the send of slot t
  pub handed_out : (t : ℕ) → T (fair_slots s (lost_since slot (lost_at (losses_in told))) (t + 1 - k_of s) (t + delay_of s))
      → (r : ReportMade) (f m : List ℕ) → Memᴰ r told → r.before.due ≡ t + delay_of s → r.call ≡ heard f m → length m ≡ message_len s
      → (c : SendMade) → Memᴰ c sent → c.after.answer ≡ Ok tt → c.before.due ≡ t
      → (r.after.reply ≡ Ok Whole) × (r.after.message ≡ c.call.message)
  handed_out t test r f m listed last call full c at taken due =
      let own = own_frame sent slot told step r f m listed call in
      let passed : T (accepts r.after.reply) = holds.own_frame r f m own.0 listed call own.1 full in
      let fair : Fair s (lost_since slot (lost_at told)) (t + 1 - k_of s) (t + delay_of s) =
      subst⁻¹ (λ (lost : ℕ → Bool). Fair s (lost_since slot lost) (t + 1 - k_of s) (t + delay_of s)) (λ i τ. losses_alone told τ i)
      ((fair_tested s (lost_since slot (lost_at (losses_in told))) (t + 1 - k_of s) (t + delay_of s)).0 test) in
      let out = holds.on_time t r listed last passed fair in
      let given : SentAs sent t c.call.message c.after.frame =
      record { send = c; listed = at; taken = taken; slot = due; given = refl; out = refl } in
      (out.3, out.4 ∙ (holds.once t out.0 out.1 c.call.message c.after.frame out.2 given).0)
