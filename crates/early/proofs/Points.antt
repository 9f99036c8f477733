-- Where each call of a mixed list stands among the reports: the slot due and the rows that it leaves are a point of these, no earlier than
-- where the list begins, and a call that is for message t tells of it by them.
use mathlib.Core.Path.{◌≡◌, refl, sym, ap, ◌∙◌, subst, subst⁻¹}
use mathlib.Core.List.Memᴰ
use mathlib.Core.List.{List, [], ◌∷◌, Memᴰ}
use mathlib.Core.Logic.{◌⊎◌, inl, inr, ⊎_elim}
use Prim.Native.Nat.{ℕ, ◌+◌, ◌≤◌, ◌<◌}
use native.Mathlib.Nat.{le_refl, le_trans}
use native.Mathlib.Omega.{arith}
use lib.Dec.{T}
use lib.IntN.{ℤ, pos}
use Rattle.code.specs.declared.settings.Settings.{Settings}
use Rattle.code.specs.Settings.{accepted, delay_of}
use Rattle.code.proofs.Shape.{shape}
use Rattle.protocol.specs.declared.Receiver.{Receiver}
use Rattle.protocol.specs.States.{reported_on, opened_receiver}
use Rattle.protocol.specs.Calls.{Reported, moved_on, Looked, look_up_of, row_before, opened_rows}
use Rattle.protocol.specs.TwoLists.{Report, report_of, ReportMade}
use Rattle.protocol.specs.Histories.{accepts}
use Rattle.protocol.proofs.ReportSteps.{made, Taken, Stayed}
use Rattle.protocol.proofs.Received.{ByVerdict, along, told_at}
use Rattle.protocol.proofs.OpenedRows.{length-opened_rows, begins}
use Rattle.protocol.proofs.ReportChain.{Chain, chain}
use Rattle.protocol.proofs.ReceivedRows.{Begun, Reached, at_first, left_by}
use Rattle.protocol.proofs.LookUps.{look_up_uncaused, look_up_open, look_up_told, told_by_verdict}
use Rattle.early.specs.Mixed.{Call, report, look_up, call_of, CallMade, calls, reports_in}
use Rattle.early.specs.Early.{IsFor, reported_to, Later, after, further}
use Rattle.early.proofs.Lists.{report_calls, reports_in_lem}

-- the call that a receiver with these rows makes
abbrev pub made_by : Receiver → List ℕ → Call → CallMade
made_by x rows c = record { before = x; rows = rows; call = c; after = call_of x rows c }

-- of two calls in a list the first one leads it, or both follow its first
not-later : {a b : CallMade} → Later a b [] → ⊥
not-later later = elim later [ ]

first_or_further : {a b m : CallMade} {rest : List CallMade} → Later a b (m ∷ rest) → ((a ≡ m) × Memᴰ b rest) ⊎ Later a b rest
first_or_further (after listed) = inl (refl, listed)
first_or_further (further later) = inr later

-- reports from slot d on, whose rows had begun as `first` says
module _ {s : Settings} {first : ℕ → List ℕ} {d : ℕ} {told : List ReportMade} (begun : Begun s first d told) where
  -- a call found the slot due and the rows at a point of the reports, and left them at one no earlier
  pub record Point (m : CallMade) : Type 0 where
    pub settings : m.before.settings ≡ s
    pub found : Reached s first d told m.rows m.before.due
    pub left : Reached s first d told m.after.rows (reported_to m)
    pub onward : m.before.due ≤ reported_to m
    pub kept : m.after.receiver.settings ≡ s
    -- and what it tells of message t it tells by them, once the message's own slot is past
    pub tells : (t : ℕ) → T (accepts m.after.reply) → IsFor s t m.before.due m.call
        → ByVerdict s m.after.rows (reported_to m) t m.after.reply m.after.message
        × (t < reported_to m) × (reported_to m ≤ t + delay_of s + 1)

  -- a report that was accepted leaves the next slot due
  moved_point : (x : Receiver) (rows : List ℕ) (call : Report) → x.settings ≡ s → Reached s first d told rows x.due
      → Memᴰ (made x rows call) told → Taken (made x rows call) → Point (made_by x rows (report call))
  unfolding moved_on
  moved_point x rows call same found listed t =
      let next : (report_of x rows call).receiver ≡ reported_on x = ap (λ (r : Reported). r.receiver) t.moved in
      let due : (report_of x rows call).receiver.due ≡ x.due + 1 = ap (λ (y : Receiver). y.due) next in
      record {
        settings = same;
        found = found;
        left = subst⁻¹ (Reached s first d told (report_of x rows call).rows) due (left_by begun (made x rows call) listed t.passed);
        onward = omega arith;
        kept = ap (λ (y : Receiver). y.settings) next ∙ same;
        tells = λ u ok e. (
          subst⁻¹ (λ (n : ℕ). ByVerdict s (report_of x rows call).rows n u (report_of x rows call).reply (report_of x rows call).message)
              (due ∙ ap (λ (n : ℕ). n + 1) e) (told_at begun.chain (made x rows call) u listed ok e),
          omega arith,
          omega arith,
        );
      }

  -- and one that was refused leaves all as it was
  stayed_point : (x : Receiver) (rows : List ℕ) (call : Report) → x.settings ≡ s → Reached s first d told rows x.due
      → Stayed (made x rows call) → Point (made_by x rows (report call))
  stayed_point x rows call same found t = record {
    settings = same;
    found = found;
    left = rw (t.same_rows, t.same_receiver) found;
    onward = rw t.same_receiver (omega arith);
    kept = rw t.same_receiver same;
    tells = λ u ok e. absurd (t.failed ok);
  }

  report_point : (x : Receiver) (rows : List ℕ) (call : Report) → x.settings ≡ s → Reached s first d told rows x.due
      → Memᴰ (made x rows call) told → Point (made_by x rows (report call))
  report_point x rows call same found listed =
      ⊎_elim (moved_point x rows call same found listed) (stayed_point x rows call same found)
      (along begun.chain (made x rows call) listed).outcome

  -- so does a look-up, and it tells of the message where it is in reach
  look_up_point : (x : Receiver) (rows : List ℕ) (number : ℤ) (message : List ℕ) → x.settings ≡ s → Reached s first d told rows x.due
      → Point (made_by x rows (look_up number message))
  look_up_point x rows number message same found = record {
    settings = same;
    found = found;
    left = found;
    onward = omega arith;
    kept = same;
    tells = λ t ok e.
        let none = look_up_uncaused x rows number message ok in
        let (clear, t', reach) = look_up_open x rows number message none in
        let is : Looked → Type 0 = λ r. ByVerdict s rows x.due t r.reply r.message in
        let told : is (look_up_of x rows number message)
        = rw (look_up_told x rows number message t e none, same) (told_by_verdict s rows x.due t) in
        let named : pos t' ≡ pos t = sym reach.0 ∙ e in
        let one : t' ≡ t = cc in
        let last : x.due ≤ t' + delay_of s = subst (λ (q : Settings). x.due ≤ t' + delay_of q) same reach.2 in
        (told, omega (arith, reach.1), omega arith);
  }

  -- calls from this slot due on: each stands at a point of the reports, and a later one at no earlier point
  pub record Standing (due : ℕ) (made : List CallMade) : Type 0 where
    pub each : (m : CallMade) → Memᴰ m made → Point m × (due ≤ m.before.due)
    pub in_order : (a b : CallMade) → Later a b made → reported_to a ≤ b.before.due

  none_standing : (due : ℕ) → Standing due []
  none_standing due = record {
    each = λ m listed. absurd (Memᴰ.not-nil listed);
    in_order = λ a b later. absurd (not-later later);
  }

  -- one more, before those that go on from what it left
  one_standing : (m : CallMade) (rest : List CallMade) → Point m → Standing (reported_to m) rest → Standing m.before.due (m ∷ rest)
  one_standing m rest p others = record {
    each = λ q listed.
        ⊎_elim (λ same. rw same (p, le_refl m.before.due))
        (λ later. let (r, above) = others.each q later in (r, le_trans p.onward above))
        (Memᴰ.cases_cons listed);
    in_order = λ a b later.
        ⊎_elim (λ (same, listed). rw same (others.each b listed).1) (others.in_order a b) (first_or_further later);
  }

  -- so do all calls of a list that begins at a point of the reports
  pub standing : (x : Receiver) (rows : List ℕ) (cs : List Call) → x.settings ≡ s → Reached s first d told rows x.due
      → ((r : ReportMade) → Memᴰ r (reports_in (calls x rows cs)) → Memᴰ r told) → Standing x.due (calls x rows cs)
  unfolding calls reports_in
  standing x rows [] same found among = none_standing x.due
  standing x rows (report call ∷ cs) same found among =
      let r : Reported = report_of x rows call in
      let p : Point (made_by x rows (report call)) = report_point x rows call same found (among (made x rows call) (Memᴰ.head refl)) in
      one_standing (made_by x rows (report call)) (calls r.receiver r.rows cs) p
      (standing r.receiver r.rows cs p.kept p.left (λ q listed. among q (Memᴰ.tail listed)))
  standing x rows (look_up number message ∷ cs) same found among =
      one_standing (made_by x rows (look_up number message)) (calls x rows cs) (look_up_point x rows number message same found)
      (standing x rows cs same found among)

-- ---- from the opening on

-- the reports among the calls of a receiver begin where it was opened
pub mixed_begun : (s : Settings) (opening : ℕ) → T (accepted s) → (cs : List Call)
    → Begun s (row_before s) opening (reports_in (calls (opened_receiver s opening) (opened_rows s opening) cs))
mixed_begun s opening ok cs =
    let rows : List ℕ = opened_rows s opening in
    record {
      shape = shape s ok;
      opening = rows;
      chain = subst⁻¹ (Chain s opening rows) (reports_in_lem (opened_receiver s opening) rows cs)
          (chain (opened_receiver s opening) ok rows (report_calls cs) (length-opened_rows s opening));
      held = begins s opening;
    }

-- and each call stands at a point of them
pub mixed_standing : (s : Settings) (opening : ℕ) (ok : T (accepted s)) (cs : List Call)
    → Standing (mixed_begun s opening ok cs) opening (calls (opened_receiver s opening) (opened_rows s opening) cs)
unfolding mixed_begun
mixed_standing s opening ok cs =
    let begun = mixed_begun s opening ok cs in
    standing begun (opened_receiver s opening) (opened_rows s opening) cs refl (at_first begun) (λ r listed. listed)
