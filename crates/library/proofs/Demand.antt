-- Demand 3 of the static library: protocol's `demand3`, carried over to what the library's callers see.
use mathlib.Core.Path.{◌≡◌, refl, sym, ap, ap₂, ◌∙◌, subst, subst⁻¹, fun_ext}
use mathlib.Core.Bool.{Bool, ◌&&◌, ◌||◌}
use mathlib.Core.List.{List, Forall₂}
use Prim.Native.Nat.{ℕ, ◌+◌, ◌-◌, ◌≤◌}
use lib.Dec.{T, eqb}
use lib.ListN.{length}
use Rattle.code.specs.declared.settings.Settings.{Settings}
use Rattle.code.specs.Settings.{delay_of, k_of}
use Rattle.repair.specs.Fair.{Fair}
use Rattle.protocol.specs.Lengths.{last_slot}
use Rattle.protocol.specs.TwoLists.{Send, SendMade, ReportMade}
use Rattle.protocol.specs.Histories.{SentAs, accepts, of_loss, lost_at, lost_since}
use Rattle.protocol.specs.Claim.{Faithful, NoCause, Holds, Demand3}
use Rattle.protocol.proofs.CauseTables.{OpensAt}
use Rattle.protocol.proofs.Demand.{demand3}
use Rattle.protocol.specs.Numbers.{answer_number, reply_number}
use Rattle.layout.specs.Numbers.{acceptance}
use Rattle.layout.proofs.Refusals.{reply_accepted, answer_accepted}
use Rattle.library.specs.Calls.{settings_of}
use Rattle.library.specs.Chains.{SendDone, ReportDone}
use Rattle.library.specs.Claim.{SentAsBytes, lost_at_bytes, FaithfulBytes, HoldsBytes, Demand3Bytes}
use Rattle.library.proofs.Partners as partner
use Rattle.library.proofs.Chains.{SameSend, SameReport, sends_opened, reports_opened}

-- a report is accepted by the library exactly if protocol's is
pub passed : {m : ReportMade} {b : ReportDone} → SameReport m b → acceptance b.after.reply ≡ accepts m.after.reply
passed {m} same = ap acceptance same.reply ∙ reply_accepted m.after.reply

-- and the same slots are lost
pub lost_same : {made : List ReportMade} {told : List ReportDone} → Forall₂ SameReport made told → (t : ℕ) → lost_at_bytes told t
    ≡ lost_at made t
unfolding lost_at_bytes lost_at
lost_same Forall₂.nil t = refl
lost_same (Forall₂.cons {a = m} {b = b} same rest) t =
    ap₂ ◌||◌
    (ap₂ ◌&&◌ (passed same) (ap₂ ◌&&◌ (ap of_loss same.call) (ap (λ (d : ℕ). eqb d t) same.due)))
    (lost_same rest t)

module _ {sends₁ : List SendMade} {sends₂ : List SendDone} (alike : Forall₂ SameSend sends₁ sends₂) {t : ℕ} {message frame : List ℕ} where
  -- what protocol sent, the library sent
  pub sent_bytes_lem : SentAs sends₁ t message frame → SentAsBytes sends₂ t message frame
  sent_bytes_lem a =
      let (b, listed, same) = partner.second alike a.listed in
      record {
        send = b;
        listed = listed;
        taken = same.reply ∙ ap answer_number a.taken;
        slot = same.due ∙ a.slot;
        given = ap (λ (c : Send). c.message) same.call ∙ a.given;
        out = same.frame ∙ a.out;
      }

  -- and conversely
  sent_made : SentAsBytes sends₂ t message frame → SentAs sends₁ t message frame
  sent_made a =
      let (m, listed, same) = partner.first alike a.listed in
      record {
        send = m;
        listed = listed;
        taken = answer_accepted m.after.answer (sym same.reply ∙ a.taken);
        slot = sym same.due ∙ a.slot;
        given = ap (λ (c : Send). c.message) (sym same.call) ∙ a.given;
        out = sym same.frame ∙ a.out;
      }

module _ (s : Settings) (opening : ℕ) {sends₁ : List SendMade} {sends₂ : List SendDone} (sent : Forall₂ SameSend sends₁ sends₂)
    {reports₁ : List ReportMade} {reports₂ : List ReportDone} (told : Forall₂ SameReport reports₁ reports₂) where
  -- frames that are the library's sender's own are those of protocol's
  pub faithful : FaithfulBytes sends₂ reports₂ → Faithful sends₁ reports₁
  unfolding Faithful FaithfulBytes
  faithful own r f m listed call taken =
      let (b, Listed-b, same) = partner.second told listed in
      let (message, a) = own b f m Listed-b (same.call ∙ call) (subst⁻¹ T (passed same) taken) in
      (message, subst (λ (d : ℕ). SentAs sends₁ d message f) same.due (sent_made sent a))

  -- so what holds of protocol's lists holds of the library's
  pub holds : Holds s opening sends₁ reports₁ → HoldsBytes s opening sends₂ reports₂
  holds h = record {
    sends_taken = λ b listed.
        let (m, listed-m, same) = partner.first sent listed in
        let taken = h.sends_taken m listed-m in
        let call = same.call in (
          λ e.
              let (message, frame, due) = taken.0 (answer_accepted m.after.answer (sym same.reply ∙ e)) in (
                ap (λ (c : Send). length c.message) call ∙ message,
                ap (λ (c : Send). length c.frame) call ∙ frame,
                subst⁻¹ (λ (d : ℕ). d ≤ last_slot) same.due due,
              ),
          λ clear.
              same.reply
              ∙ ap answer_number
              (taken.1 (
                ap (λ (c : Send). length c.message) (sym call) ∙ clear.0,
                ap (λ (c : Send). length c.frame) (sym call) ∙ clear.1,
                subst (λ (d : ℕ). d ≤ last_slot) same.due clear.2,
              )),
        );
    reports_taken = λ b listed.
        let (m, listed-m, same) = partner.first told listed in
        let taken = h.reports_taken m listed-m in
        let cause : NoCause s b.due b.call ≡ NoCause s m.before.due m.call = ap₂ (NoCause s) same.due same.call in (
          λ t. subst⁻¹ (λ (P : Type 0). P) cause (taken.0 (subst T (passed same) t)),
          λ clear. subst⁻¹ T (passed same) (taken.1 (subst (λ (P : Type 0). P) cause clear)),
        );
    own_frame = λ b f m message listed call a full.
        let (r, listed-r, same) = partner.first told listed in
        subst⁻¹ T (passed same)
        (h.own_frame r f m message listed-r (sym same.call ∙ call)
        (subst (λ (d : ℕ). SentAs sends₁ d message f) same.due (sent_made sent a)) full);
    once = λ t m₁ f₁ m₂ f₂ a₁ a₂. h.once t m₁ f₁ m₂ f₂ (sent_made sent a₁) (sent_made sent a₂);
    on_time = λ t b listed slot taken fair.
        let (r, listed-r, same) = partner.first told listed in
        let (message, frame, a, whole, out) =
        h.on_time t r listed-r (sym same.due ∙ slot) (subst T (passed same) taken)
        (subst (λ (lost : ℕ → Bool). Fair s (lost_since opening lost) (t + 1 - k_of s) (t + delay_of s)) (fun_ext (lost_same told)) fair) in
        (message, frame, sent_bytes_lem sent a, same.reply ∙ ap reply_number whole, same.message ∙ out);
  }

-- demand 3, of the library's calls
pub demand3_bytes : Demand3Bytes
unfolding Demand3Bytes Demand3
demand3_bytes settings ok opening in_time_lem sender_state sender_rows receiver_state receiver_rows sender-room sender-full receiver-room
    receiver-full
    send_calls bytes report_calls =
    let s : Settings = settings_of settings in
    let opens : OpensAt s opening receiver_rows = record { settings = ok; exact = receiver-full; in_time_lem = in_time_lem } in
    let (a-reply, sent) = sends_opened settings ok sender_state sender-room sender_rows sender-full send_calls in
    let (b-reply, told) = reports_opened settings ok receiver_state receiver-room receiver_rows opening opens report_calls in (
      a-reply,
      b-reply,
      λ own.
          holds s opening sent told
          (demand3 s ok opening in_time_lem sender_rows receiver_rows sender-full receiver-full send_calls bytes report_calls
          (faithful s opening sent told own)),
    )
