-- Which report of a chain a slot has: one at most, and one for each slot up to the last that was accepted.
use mathlib.Core.Path.{◌≡◌, refl, sym, ap, ◌∙◌}
use mathlib.Core.Bool.{Bool, true, false, cond, ◌&&◌, and-true, and-false, or-false}
use mathlib.Core.List.Memᴰ
use mathlib.Core.List.{List, [], ◌∷◌, Memᴰ}
use mathlib.Core.Logic.{◌⊎◌, inl, inr, ⊎_elim}
use mathlib.Core.Option.{Option, none, some}
use Prim.Native.Nat.{ℕ, ◌+◌, ◌≤◌, ◌<◌}
use native.Mathlib.Omega.{arith}
use lib.Dec.{T, eqb}
use borrow.Author.Tests.{eqb-true, eqb-false, eq-eqb, ne_eqb}
use Rattle.galois.proofs.Cases.{is_true, is_false}
use Rattle.code.specs.declared.settings.Settings.{Settings}
use Rattle.protocol.specs.TwoLists.{Report, ReportMade}
use Rattle.protocol.specs.Histories.{accepts, of_loss, lost_at}
use Rattle.protocol.proofs.ReportChain.{Chain, done, onward, again}

-- the accepted report of slot τ, if there is one
unfoldable pub call_at : List ReportMade → ℕ → Option Report
call_at [] τ = none
call_at (r ∷ rs) τ = cond (accepts r.after.reply && eqb r.before.due τ) (some r.call) (call_at rs τ)

-- it is of a loss
abbrev pub loss_in : Option Report → Bool
loss_in none = false
loss_in (some c) = of_loss c

-- a test that passes, and one that does not
same_or_not : (a b : ℕ) → (a ≡ b) ⊎ (a ≡ b → ⊥)
same_or_not a b = go (eqb a b) refl
  where
    go : (t : Bool) → eqb a b ≡ t → (a ≡ b) ⊎ (a ≡ b → ⊥)
    go true e = inl (eqb-true a b e)
    go false e = inr (eqb-false a b e)

-- the head was accepted, and slot τ is its own
call_here : (m : ReportMade) (rest : List ReportMade) (τ : ℕ) → T (accepts m.after.reply) → m.before.due ≡ τ
    → call_at (m ∷ rest) τ ≡ some m.call
unfolding call_at
call_here m rest τ t e = rw (is_true (accepts m.after.reply) t, eq-eqb m.before.due τ e)

-- or another
call_later : (m : ReportMade) (rest : List ReportMade) (τ : ℕ) → T (accepts m.after.reply) → (m.before.due ≡ τ → ⊥)
    → call_at (m ∷ rest) τ ≡ call_at rest τ
unfolding call_at
call_later m rest τ t e = rw (is_true (accepts m.after.reply) t, ne_eqb m.before.due τ e)

-- the head was refused
call_refused : (m : ReportMade) (rest : List ReportMade) (τ : ℕ) → (T (accepts m.after.reply) → ⊥) → call_at (m ∷ rest) τ ≡ call_at rest τ
unfolding call_at
call_refused m rest τ t = rw (is_false (accepts m.after.reply) t)

-- the same of lost_at
lost_here : (m : ReportMade) (rest : List ReportMade) (τ : ℕ) → T (accepts m.after.reply) → m.before.due ≡ τ → lost_at rest τ ≡ false
    → lost_at (m ∷ rest) τ ≡ of_loss m.call
unfolding lost_at
lost_here m rest τ t e after =
    rw (is_true (accepts m.after.reply) t, eq-eqb m.before.due τ e, after, and-true (of_loss m.call), or-false (of_loss m.call))

lost_later : (m : ReportMade) (rest : List ReportMade) (τ : ℕ) → T (accepts m.after.reply) → (m.before.due ≡ τ → ⊥)
    → lost_at (m ∷ rest) τ ≡ lost_at rest τ
unfolding lost_at
lost_later m rest τ t e =
    rw (is_true (accepts m.after.reply) t, ne_eqb m.before.due τ e, and-false (of_loss m.call))

lost_refused : (m : ReportMade) (rest : List ReportMade) (τ : ℕ) → (T (accepts m.after.reply) → ⊥) → lost_at (m ∷ rest) τ ≡ lost_at rest τ
unfolding lost_at
lost_refused m rest τ t = rw (is_false (accepts m.after.reply) t)

-- ---- along a chain

-- the slots due never fall
pub due_from : {s : Settings} {d : ℕ} {rows : List ℕ} {told : List ReportMade} → Chain s d rows told
    → (r : ReportMade) → Memᴰ r told → d ≤ r.before.due
due_from done r m = absurd (Memᴰ.not-nil m)
due_from (onward {m = x} h t rest) r m =
    ⊎_elim (λ same. rw same (omega arith)) (λ later. omega (arith, due_from rest r later)) (Memᴰ.cases_cons m)
due_from (again {m = x} h t rest) r m =
    ⊎_elim (λ same. rw same (omega arith)) (λ later. due_from rest r later) (Memᴰ.cases_cons m)

-- a slot before the first has no report
none_before : {s : Settings} {d : ℕ} {rows : List ℕ} {told : List ReportMade} → Chain s d rows told
    → (τ : ℕ) → τ < d → call_at told τ ≡ none
unfolding call_at
none_before done τ l = refl
none_before (onward {m = x} {rest = xs} h t rest) τ l =
    call_later x xs τ t.passed (λ e. omega arith) ∙ none_before rest τ (omega arith)
none_before (again {m = x} {rest = xs} h t rest) τ l = call_refused x xs τ t.failed ∙ none_before rest τ l

-- an accepted report is the one of its slot
pub call_of_lem : {s : Settings} {d : ℕ} {rows : List ℕ} {told : List ReportMade} → Chain s d rows told
    → (r : ReportMade) → Memᴰ r told → T (accepts r.after.reply) → call_at told r.before.due ≡ some r.call
call_of_lem done r m ok = absurd (Memᴰ.not-nil m)
call_of_lem (onward {m = x} {rest = xs} h t rest) r m ok =
    ⊎_elim (λ same. rw same (call_here x xs x.before.due t.passed refl))
    (λ later.
    let past : x.before.due + 1 ≤ r.before.due = omega (arith, due_from rest r later) in
    call_later x xs r.before.due t.passed (λ e. omega arith) ∙ call_of_lem rest r later ok)
    (Memᴰ.cases_cons m)
call_of_lem (again {m = x} {rest = xs} h t rest) r m ok =
    ⊎_elim (λ same. absurd (t.failed (rw same at ok)))
    (λ later. call_refused x xs r.before.due t.failed ∙ call_of_lem rest r later ok) (Memᴰ.cases_cons m)

-- a slot was lost exactly if its report is of a loss
pub lost_call : {s : Settings} {d : ℕ} {rows : List ℕ} {told : List ReportMade} → Chain s d rows told
    → (τ : ℕ) → lost_at told τ ≡ loss_in (call_at told τ)
unfolding lost_at call_at
lost_call done τ = refl
lost_call (onward {m = x} {rest = xs} h t rest) τ =
    ⊎_elim
    (λ same.
    lost_here x xs τ t.passed same (lost_call rest τ ∙ ap loss_in (none_before rest τ (omega arith)))
    ∙ sym (ap loss_in (call_here x xs τ t.passed same)))
    (λ other. lost_later x xs τ t.passed other ∙ lost_call rest τ ∙ sym (ap loss_in (call_later x xs τ t.passed other)))
    (same_or_not x.before.due τ)
lost_call (again {m = x} {rest = xs} h t rest) τ =
    lost_refused x xs τ t.failed ∙ lost_call rest τ ∙ sym (ap loss_in (call_refused x xs τ t.failed))
