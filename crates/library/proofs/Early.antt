-- What look-ups tell early, of the static library: early's `early_known`, carried over to what the library's callers see.
use Rattle.std.specs.Prelude.{Ok}
use mathlib.Core.Path.{◌≡◌, refl, sym, ap, ap₂, ◌∙◌, subst, subst⁻¹}
use mathlib.Core.List.{List, Memᴰ, Forall₂}
use Prim.Native.Nat.{ℕ, ◌≤◌}
use native.Mathlib.Nat.{le_refl, le_of_eq}
use lib.Dec.{T}
use Rattle.code.specs.declared.settings.Settings.{Settings}
use Rattle.protocol.specs.declared.Told.TheVariants.{Whole, Clash}
use Rattle.protocol.specs.Numbers.{reply_number}
use Rattle.protocol.specs.TwoLists.{SendMade, ReportMade}
use Rattle.protocol.specs.Histories.{Heard}
use Rattle.protocol.proofs.CauseTables.{OpensAt}
use Rattle.protocol.proofs.NumberLaws.{reply_tells}
use Rattle.early.specs.Mixed.{CallMade, reports_in}
use Rattle.early.specs.Early.{IsFor, Telling, reported_to, Later, after, further, Early, EarlyKnown}
use Rattle.early.proofs.Early.{agree_later, early_known}
use Rattle.layout.specs.Numbers.{acceptance}
use Rattle.layout.proofs.Refusals.{reply_accepted}
use Rattle.library.specs.Calls.{settings_of}
use Rattle.library.specs.Chains.{SendDone, ReportDone, CallDone, reports_in_bytes}
use Rattle.library.specs.Early.{HeardBytes, TellingBytes, reported_to_bytes, SaysWhole, EarlyBytes, EarlyKnownBytes}
use Rattle.library.proofs.Partners as partner
use Rattle.library.proofs.Chains.{SameSend, SameReport, SameCall, SameCalls, sends_opened, calls_opened}
use Rattle.library.proofs.Demand.{passed, sent_bytes_lem, faithful, holds}

-- ---- from protocol's lists to the library's

-- of two that come one after the other in one list, the partners do in the other
partners_later : {A B : Type 0} {R : A → B → Type 0} {b b' : B} {xs : List A} {ys : List B} → Forall₂ R xs ys → Later b b' ys
    → (a : A) × (a' : A) × Later a a' xs × R a b × R a' b'
partners_later {A = A} {B = B} {R = R} {b = b} Forall₂.nil later = elim later [ ]
partners_later (Forall₂.cons {a = a} r rest) (after listed) =
    let (a', listed', r') = partner.first rest listed in
    (a, a', after listed', r, r')
partners_later (Forall₂.cons r rest) (further later) =
    let (a, a', later', q, q') = partners_later rest later in
    (a, a', further later', q, q')

-- and both are in it
both_listed : {A : Type 0} {a b : A} {xs : List A} → Later a b xs → Memᴰ a xs × Memᴰ b xs
both_listed (after listed) = (Memᴰ.head refl, Memᴰ.tail listed)
both_listed (further later) = let (one, other) = both_listed later in (Memᴰ.tail one, Memᴰ.tail other)

-- the same frames were heard
module _ {told : List ReportMade} {done : List ReportDone} (alike : Forall₂ SameReport told done) (τ : ℕ) (f : List ℕ) where
  heard_made : HeardBytes done τ f → Heard told τ f
  heard_made h =
      let (m, listed, same) = partner.first alike h.listed in
      record {
        message = h.message;
        by = record {
          report = m;
          listed = listed;
          passed = subst T (passed same) h.passed;
          slot = sym same.due ∙ h.slot;
          called = sym same.call ∙ h.called;
        };
      }

  heard_bytes_lem : Heard told τ f → HeardBytes done τ f
  heard_bytes_lem h =
      let a = h.by in
      let (b, listed, same) = partner.second alike a.listed in
      record {
        report = b;
        listed = listed;
        passed = subst⁻¹ T (passed same) a.passed;
        slot = same.due ∙ a.slot;
        message = h.message;
        called = same.call ∙ a.called;
      }

module _ (s : Settings) (opening : ℕ) {sends₁ : List SendMade} {sends₂ : List SendDone} (sent : Forall₂ SameSend sends₁ sends₂)
    {made : List CallMade} {done : List CallDone} (alike : SameCalls made done) where
  -- a call that tells of a message, with its partner
  telling_made : (t : ℕ) (m : CallMade) (b : CallDone) → Memᴰ m made → SameCall m b → TellingBytes s done t b → Telling s made t m
  telling_made t m b listed same x = record {
    listed = listed;
    taken = subst T (ap acceptance same.reply ∙ reply_accepted m.after.reply) x.taken;
    for_it = subst (λ (P : Type 0). P) (ap₂ (IsFor s t) same.due same.call) x.for_it;
  }

  whole_made : {m : CallMade} {b : CallDone} → SameCall m b → SaysWhole b → m.after.reply ≡ Ok Whole
  whole_made {m} same e = reply_tells m.after.reply (Ok Whole) (sym same.reply ∙ e)

  whole_bytes : {m : CallMade} {b : CallDone} → SameCall m b → m.after.reply ≡ Ok Whole → SaysWhole b
  whole_bytes same e = same.reply ∙ ap reply_number e

  early : Early s opening sends₁ made → EarlyBytes s opening sends₂ done
  early h = record {
    demand3 = holds s opening sent alike.told h.demand3;
    stays = λ t a b ta tb later whole.
        let (m, m', later', same, same') = partners_later alike.each later in
        let (listed, listed') = both_listed later' in
        let (still, out) = h.stays t m m' (telling_made t m a listed same ta) (telling_made t m' b listed' same' tb) later'
        (whole_made same whole) in
        (whole_bytes same' still, same'.message ∙ out ∙ sym same.message);
    as_early = λ t a ta.
        let (m, listed, same) = partner.first alike.each ta.listed in
        let (only, from) = h.as_early t m (telling_made t m a listed same ta) in
        let made-heard = Heard (reports_in made) in
        let done-heard = HeardBytes (reports_in_bytes done) in (
          λ whole.
              agree_later s made-heard done-heard (heard_bytes_lem alike.told) (reported_to m) (reported_to_bytes a) t
              (le_of_eq (sym same.next)) (only (whole_made same whole)),
          λ first sooner agree.
              whole_bytes same
              (from first (subst (λ (n : ℕ). first ≤ n) same.next sooner)
              (agree_later s done-heard made-heard (heard_made alike.told) first first t (le_refl first) agree)),
        );
    once_heard = λ t a frame ta heard.
        let (m, listed, same) = partner.first alike.each ta.listed in
        whole_bytes same (h.once_heard t m frame (telling_made t m a listed same ta) (heard_made alike.told t frame heard));
    as_sent = λ t a ta whole.
        let (m, listed, same) = partner.first alike.each ta.listed in
        let (message, frame, was, out) = h.as_sent t m (telling_made t m a listed same ta) (whole_made same whole) in
        (message, frame, sent_bytes_lem sent was, same.message ∙ out);
    no_clash = λ t a ta e.
        let (m, listed, same) = partner.first alike.each ta.listed in
        h.no_clash t m (telling_made t m a listed same ta) (reply_tells m.after.reply (Ok Clash) (sym same.reply ∙ e));
  }

-- what look-ups tell early, of the library's calls
pub early_bytes : EarlyKnownBytes
unfolding EarlyKnownBytes EarlyKnown
early_bytes settings ok opening in_time_lem sender_state sender_rows receiver_state receiver_rows sender-room sender-full receiver-room
    receiver-full
    send_calls bytes receiver_calls own =
    let s : Settings = settings_of settings in
    let opens : OpensAt s opening receiver_rows = record { settings = ok; exact = receiver-full; in_time_lem = in_time_lem } in
    let (_, sent) = sends_opened settings ok sender_state sender-room sender_rows sender-full send_calls in
    let (_, alike) = calls_opened settings ok receiver_state receiver-room receiver_rows opening opens receiver_calls in
    early s opening sent alike
    (early_known s ok opening in_time_lem sender_rows receiver_rows sender-full receiver-full send_calls bytes receiver_calls
    (faithful s opening sent alike.told own))
