-- Which reports of a chain are accepted, and what an accepted one tells.
use mathlib.Core.Path.{◌≡◌, refl, ap, ◌∙◌, subst, subst⁻¹}
use mathlib.Core.List.Memᴰ
use mathlib.Core.List.{List, Memᴰ}
use mathlib.Core.Logic.{◌⊎◌, inl, inr, ⊎_elim}
use Prim.Native.Nat.{ℕ, ◌+◌, ◌≤◌}
use native.Mathlib.Omega.{arith}
use lib.Dec.{T}
use lib.ListN.{length, take}
use borrow.Author.Tests.{le-ltb}
use Rattle.code.specs.declared.settings.Settings.{Settings}
use Rattle.code.specs.Settings.{delay_of}
use Rattle.protocol.specs.declared.Receiver.{Receiver}
use Rattle.protocol.specs.Answers.{Reply}
use Rattle.protocol.specs.Lengths.{last_slot, message_len, frame_len, receiver_len}
use Rattle.protocol.specs.Frame.{header}
use Rattle.protocol.specs.Verdict.{verdict, buffer_of}
use Rattle.protocol.specs.Calls.{message_due, Reported, moved_on}
use Rattle.protocol.specs.TwoLists.{Report, heard, ReportMade, row_of}
use Rattle.protocol.specs.Histories.{accepts}
use Rattle.protocol.specs.Claim.{NoCause, ReportTaken}
use Rattle.protocol.proofs.ReportSteps.{Taken, Stayed}
use Rattle.protocol.proofs.ReportChain.{Chain, done, onward, again}

-- what every report of a chain is
pub record Along (s : Settings) (r : ReportMade) : Type 0 where
  pub settings : r.before.settings ≡ s
  pub exact : length r.rows ≡ receiver_len s
  pub outcome : Taken r ⊎ Stayed r

pub along : {s : Settings} {d : ℕ} {rows : List ℕ} {told : List ReportMade} → Chain s d rows told
    → (r : ReportMade) → Memᴰ r told → Along s r
along done r m = absurd (Memᴰ.not-nil m)
along (onward {m = x} h t rest) r m =
    ⊎_elim
    (λ same.
    rw same record { settings = h.settings; exact = ap length h.got ∙ h.exact; outcome = inl t })
    (λ later. along rest r later) (Memᴰ.cases_cons m)
along (again {m = x} h t rest) r m =
    ⊎_elim
    (λ same.
    rw same record { settings = h.settings; exact = ap length h.got ∙ h.exact; outcome = inr t })
    (λ later. along rest r later) (Memᴰ.cases_cons m)

-- the outcome says whether a cause held
by_outcome : (s : Settings) (r : ReportMade) → r.before.settings ≡ s → Taken r ⊎ Stayed r → ReportTaken s r
by_outcome s r e (inl t) =
    (λ ok. subst (λ (q : Settings). NoCause q r.before.due r.call) e t.uncaused, λ free. t.passed)
by_outcome s r e (inr t) =
    (λ ok. absurd (t.failed ok), λ free. absurd (t.caused (subst⁻¹ (λ (q : Settings). NoCause q r.before.due r.call) e free)))

-- an accepted report was not refused
accepted_taken : (r : ReportMade) → Taken r ⊎ Stayed r → T (accepts r.after.reply) → Taken r
accepted_taken r (inl t) ok = t
accepted_taken r (inr t) ok = absurd (t.failed ok)

-- what a reply and its message buffer tell of message t, by the rows once the slots below due are reported
abbrev pub ByVerdict : Settings → List ℕ → ℕ → ℕ → Reply → List ℕ → Type 0
ByVerdict s rows due t reply message = (reply ≡ verdict s rows due t) × (message ≡ buffer_of s rows due t (verdict s rows due t))

-- what the report of slot t + T tells of it
abbrev pub ByLastSlot : Settings → ℕ → Reported → Type 0
ByLastSlot s t q = ByVerdict s q.rows (t + delay_of s + 1) t q.reply q.message

pub by_verdict : (x : Receiver) (t : ℕ) (row rows : List ℕ) → x.due ≡ t + delay_of x.settings
    → ByLastSlot x.settings t (moved_on x row rows)
unfolding moved_on message_due
by_verdict x t row rows e =
    let delay : ℕ = delay_of x.settings in
    let due : message_due x.settings (t + delay) ≡ t = omega arith in
    rw (e, le-ltb (t + delay) delay (omega arith), due) (refl, refl)

module _ {s : Settings} {d : ℕ} {rows : List ℕ} {told : List ReportMade} (chain : Chain s d rows told) where
  -- a report is accepted exactly where no listed cause holds, in terms of the settings of the opening
  pub reports_taken : (m : ReportMade) → Memᴰ m told → ReportTaken s m
  reports_taken m listed = let a = along chain m listed in by_outcome s m a.settings a.outcome

  -- the sender's own frame for the slot due is accepted
  pub own_accepted : (r : ReportMade) (f m : List ℕ) → Memᴰ r told → r.call ≡ heard f m → length f ≡ frame_len s
      → take 14 f ≡ header 1 s r.before.due → r.before.due ≤ last_slot → length m ≡ message_len s → T (accepts r.after.reply)
  own_accepted r f m listed e long headed slot exact =
      (reports_taken r listed).1 (subst⁻¹ (λ (c : Report). NoCause s r.before.due c) e (exact, long, slot, headed))

  -- an accepted report was taken
  pub taken_of : (r : ReportMade) → Memᴰ r told → T (accepts r.after.reply) → Taken r
  taken_of r listed ok = accepted_taken r (along chain r listed).outcome ok

  -- the report of slot t + T tells of message t
  pub told_at : (r : ReportMade) (t : ℕ) → Memᴰ r told → T (accepts r.after.reply) → r.before.due ≡ t + delay_of s
      → ByLastSlot s t r.after
  told_at r t listed ok e =
      let x : Receiver = r.before in
      let same : x.settings ≡ s = (along chain r listed).settings in
      let due : x.due ≡ t + delay_of x.settings = rw same e in
      subst (λ (q : Settings). ByLastSlot q t r.after) same
      (subst⁻¹ (ByLastSlot x.settings t) (taken_of r listed ok).moved
      (by_verdict x t (row_of x.settings r.call) r.rows due))
