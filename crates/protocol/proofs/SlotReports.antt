-- Which slots of a chain were heard and which were lost: each slot up to that of an accepted report was one or the other.
use mathlib.Core.Path.{◌≡◌, refl, sym, ap, ◌∙◌}
use mathlib.Core.Bool.{Bool, true}
use mathlib.Core.List.Memᴰ
use mathlib.Core.List.{List, ◌∷◌, Memᴰ}
use mathlib.Core.Logic.{◌⊎◌, inl, inr, ⊎_elim}
use mathlib.Core.Option.{Option, some}
use Prim.Native.Nat.{ℕ, ◌+◌, ◌≤◌, ◌<◌}
use native.Mathlib.Nat.{eq-or-lt_of_le}
use native.Mathlib.Omega.{arith}
use lib.Dec.{T}
use borrow.Author.Tests.{lt-ltb, le-ltb}
use Rattle.galois.proofs.Cases.{le_or_lt}
use Rattle.code.specs.declared.settings.Settings.{Settings}
use Rattle.protocol.specs.TwoLists.{Report, heard, missed, ReportMade}
use Rattle.protocol.specs.Histories.{accepts, ReportedAs, Heard, of_loss, lost_at, lost_since}
use Rattle.protocol.proofs.ReportChain.{Chain, done, onward, again}
use Rattle.protocol.proofs.Receipts.{call_at, loss_in, call_of_lem, lost_call}

-- the same with one more report in front
as_later : (x : ReportMade) (xs : List ReportMade) (τ : ℕ) → (call : Report) × ReportedAs xs τ call
    → (call : Report) × ReportedAs (x ∷ xs) τ call
as_later x xs τ (call, a) = (
  call,
  record {
    report = a.report;
    listed = Memᴰ.tail a.listed;
    passed = a.passed;
    slot = a.slot;
    called = a.called;
  },
)

-- each slot from the first on, before that of any report, has its own
pub reported : {s : Settings} {d : ℕ} {rows : List ℕ} {told : List ReportMade} → Chain s d rows told
    → (r : ReportMade) → Memᴰ r told → (τ : ℕ) → d ≤ τ → τ < r.before.due → (call : Report) × ReportedAs told τ call
reported done r m τ low high = absurd (Memᴰ.not-nil m)
reported (onward {m = x} {rest = xs} h t rest) r m τ low high =
    ⊎_elim
    (λ same. (
      x.call,
      record {
        report = x;
        listed = Memᴰ.head refl;
        passed = t.passed;
        slot = h.slot ∙ same;
        called = refl;
      },
    ))
    (λ more.
    ⊎_elim
    (λ same. let due : r.before.due ≡ x.before.due = ap (λ (m : ReportMade). m.before.due) same in absurd (omega arith))
    (λ later. as_later x xs τ (reported rest r later τ (omega arith) high)) (Memᴰ.cases_cons m))
    (eq-or-lt_of_le low)
reported (again {m = x} {rest = xs} h t rest) r m τ low high =
    ⊎_elim
    (λ same. let due : r.before.due ≡ x.before.due = ap (λ (m : ReportMade). m.before.due) same in absurd (omega arith))
    (λ later. as_later x xs τ (reported rest r later τ low high)) (Memᴰ.cases_cons m)

-- and so has that of an accepted one
pub reported_to_lem : {s : Settings} {d : ℕ} {rows : List ℕ} {told : List ReportMade} → Chain s d rows told
    → (r : ReportMade) → Memᴰ r told → T (accepts r.after.reply) → (τ : ℕ) → d ≤ τ → τ < r.before.due + 1
    → (call : Report) × ReportedAs told τ call
reported_to_lem chain r listed ok τ low high =
    ⊎_elim
    (λ from. (r.call, record { report = r; listed = listed; passed = ok; slot = omega arith; called = refl }))
    (λ before. reported chain r listed τ low before) (le_or_lt r.before.due τ)

-- ---- lost or heard

pub lost_before : (d : ℕ) (lost : ℕ → Bool) (τ : ℕ) → τ < d → lost_since d lost τ ≡ true
unfolding lost_since
lost_before d lost τ h = rw (lt-ltb τ d h)

pub lost_from : (d : ℕ) (lost : ℕ → Bool) (τ : ℕ) → d ≤ τ → lost_since d lost τ ≡ lost τ
unfolding lost_since
lost_from d lost τ h = rw (le-ltb τ d h)

module _ {s : Settings} {d : ℕ} {rows : List ℕ} {told : List ReportMade} (chain : Chain s d rows told) where
  -- the report of a slot
  pub call_as : (τ : ℕ) (call : Report) → ReportedAs told τ call → call_at told τ ≡ some call
  call_as τ call a =
      ap (call_at told) (sym a.slot) ∙ call_of_lem chain a.report a.listed a.passed ∙ ap {B = Option Report} some a.called

  pub lost_as : (τ : ℕ) (call : Report) → ReportedAs told τ call → lost_at told τ ≡ of_loss call
  lost_as τ call a = lost_call chain τ ∙ ap loss_in (call_as τ call a)

  -- a slot that was reported was lost or heard
  pub either_way : (τ : ℕ) (call : Report) → ReportedAs told τ call → T (lost_at told τ) ⊎ ((f : List ℕ) × Heard told τ f)
  either_way τ (heard f m) a = inr (f, record { message = m; by = a })
  either_way τ (missed m) a = inl (rw (lost_as τ (missed m) a) tt)
