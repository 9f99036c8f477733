-- Document 02 §6: when a look-up meets no cause, and what it tells then: `look_up_tells`, whose statement is `LookUpTells` of
-- specs/Meaning.antt.
use Rattle.std.specs.Prelude.{Ok, Err}
use mathlib.Core.Path.{◌≡◌, refl, sym, ap₂, ◌∙◌, subst, subst⁻¹}
use mathlib.Core.Bool.{Bool, true, false, true≢false, ◌||◌}
use mathlib.Core.Logic.{⊎_elim}
use mathlib.Core.List.{List}
use Prim.Native.Nat.{ℕ, zero, suc, ◌+◌, ◌-◌}
use native.Mathlib.Nat.{add-zero}
use native.Mathlib.Omega.{arith}
use lib.Dec.{T, ltb, ltb→lt, leb→le}
use lib.IntN.{ℤ, pos, negsuc, ◌-ℤ◌}
use lib.ListN.{length}
use lib.Signed.{lt_z}
use borrow.Author.Tests.{lt-ltb, le-ltb, ltb-false, leb-false}
use Rattle.galois.proofs.Cases.{is_false, or_cases, le_or_lt}
use Rattle.code.specs.declared.settings.Settings.{Settings}
use Rattle.code.specs.Settings.{accepted, delay_of}
use Rattle.protocol.specs.declared.Receiver.{Receiver}
use Rattle.protocol.specs.declared.Cause.{Cause}
use Rattle.protocol.specs.declared.Cause.TheVariants.{BadSettings, BadLength, PastLastSlot, OutOfReach}
use Rattle.protocol.specs.Answers.{Answer, Reply}
use Rattle.protocol.specs.Lengths.{last_slot, receiver_len, exactly}
use Rattle.protocol.specs.Verdict.{verdict}
use Rattle.protocol.specs.Causes.{too_old, too_new, out_of_reach, look_up_table, look_up_cause}
use Rattle.protocol.specs.Calls.{Looked, tell_of, look_up_of}
use Rattle.protocol.specs.Histories.{accepts}
use Rattle.protocol.specs.Meaning.{InReach, AcceptedLookUp, LookUpTells}
use Rattle.protocol.proofs.CauseTables.{none_holds, passes, fails, exact_lengths, lengths_exact}
use Rattle.protocol.proofs.ReportCauses.{LossOpen}
use Rattle.protocol.proofs.VerdictMeaning.{buffer_length, buffer_zeros}
use Rattle.protocol.proofs.ReportRows.{verdict_accepts}
use Rattle.protocol.proofs.Received.{ByVerdict}
use Rattle.protocol.proofs.ReportMeaning.{tells, verdict_one}

-- ---- the messages in reach

-- a number is below a - b exactly if with b more it is below a
below_less : (t a b : ℕ) → lt_z (pos t) (pos a -ℤ pos b) ≡ ltb (t + b) a
below_less t a zero = rw (add-zero a, add-zero t)
below_less t a (suc b) =
    ⊎_elim
    (λ large.
    rw (le-ltb a (suc b) large)
    (⊎_elim
    (λ past. le-ltb t (a - suc b) (omega arith) ∙ sym (le-ltb (t + suc b) a past))
    (λ before. lt-ltb t (a - suc b) (omega arith) ∙ sym (lt-ltb (t + suc b) a before)) (le_or_lt a (t + suc b))))
    (λ small. rw (lt-ltb a (suc b) small) (sym (le-ltb (t + suc b) a (omega arith)))) (le_or_lt (suc b) a)

-- where neither of two tests passes, each fails
pub neither : (a b : Bool) → a || b ≡ false → (a ≡ false) × (b ≡ false)
neither true b e = absurd (true≢false e)
neither false b e = (refl, e)

-- a message is in reach exactly if it is message t, whose own slot is past and whose last one is not
pub reach_told : (s : Settings) (due : ℕ) (number : ℤ) → out_of_reach s due number ≡ false → (t : ℕ) × InReach s due number t
unfolding out_of_reach
reach_told s due (pos t) e =
    let z : ℤ = pos t in
    let (first, late) = neither (too_old s due z || lt_z z (pos 0)) (too_new due z) e in
    let early = sym (below_less _ due (delay_of s)) ∙ (neither (too_old s due z) (lt_z z (pos 0)) first).0 in
    (t, (refl, omega (arith, leb-false due _ late), omega (arith, ltb-false _ due early)))
reach_told s due (negsuc m) e =
    let z : ℤ = negsuc m in
    absurd (true≢false (neither (too_old s due z) true (neither (too_old s due z || true) (too_new due z) e).0).1)

pub told_reach : (s : Settings) (due : ℕ) (number : ℤ) (t : ℕ) → InReach s due number t → out_of_reach s due number ≡ false
unfolding out_of_reach
told_reach s due number t (same, below, above) =
    let z : ℤ = pos t in
    rw same
    (is_false (too_old s due z || lt_z z (pos 0) || too_new due z)
    (λ out.
    ⊎_elim
    (λ first.
    ⊎_elim (λ early. omega (arith, ltb→lt _ due (subst T (below_less _ due (delay_of s)) early)))
    (λ negative. omega (arith, ltb→lt t 0 negative))
    (or_cases (too_old s due z) (lt_z z (pos 0)) first))
    (λ late. omega (arith, leb→le due _ late)) (or_cases (too_old s due z || lt_z z (pos 0)) (too_new due z) out)))

-- ---- the call by its causes

module _ (x : Receiver) (rows : List ℕ) (number : ℤ) (message : List ℕ) where
  abbrev s : Settings
  s = x.settings

  -- where it meets none, a loss report would meet none either, and the message is in reach
  pub look_up_open : look_up_cause x rows number message ≡ Ok tt → LossOpen x rows message × (t : ℕ) × InReach s x.due number t
  unfolding look_up_cause
  look_up_open e =
      let none = none_holds (look_up_table x rows number message) e in
      let exact : Bool = exactly s (receiver_len s) (length rows) (length message) in
      let lengths = exact_lengths s (receiver_len s) (length rows) (length message) (passes exact (none BadLength)) in
      let (t, reach) = reach_told s x.due number (none OutOfReach) in (
        record {
          settings = passes (accepted s) (none BadSettings);
          rows_exact = lengths.0;
          message_exact = lengths.1;
          in_time_lem = ltb-false last_slot x.due (none PastLastSlot);
        },
        t,
        reach,
      )

  -- and else it meets none
  pub look_up_clear : LossOpen x rows message → out_of_reach s x.due number ≡ false → look_up_cause x rows number message ≡ Ok tt
  unfolding look_up_cause
  look_up_clear h within =
      rw (
        fails (accepted s) h.settings,
        fails (exactly s (receiver_len s) (length rows) (length message))
            (lengths_exact s (receiver_len s) (length rows) (length message) h.rows_exact h.message_exact),
        le-ltb last_slot x.due h.in_time_lem,
        within,
      )

  -- a cause that is found refuses it
  pub look_up_stays : (c : Cause) → look_up_cause x rows number message ≡ Err c
      → look_up_of x rows number message ≡ record { reply = Err c; message = message }
  unfolding look_up_of
  look_up_stays c e = rw (e, look_up_of)

  -- and else it tells by the slots below the slot due
  pub look_up_told : (t : ℕ) → number ≡ pos t → look_up_cause x rows number message ≡ Ok tt
      → look_up_of x rows number message ≡ tell_of s rows x.due t
  unfolding look_up_of
  look_up_told t same e = rw (e, look_up_of, same) (ap₂ (tell_of s rows) (omega arith) (omega arith))

  -- so one that was not refused met none
  pub look_up_uncaused : T (accepts (look_up_of x rows number message).reply) → look_up_cause x rows number message ≡ Ok tt
  look_up_uncaused ok = go (look_up_cause x rows number message) refl
    where
      go : (f : Answer) → look_up_cause x rows number message ≡ f → look_up_cause x rows number message ≡ Ok tt
      go (Ok tt) e = e
      go (Err c) e = absurd (subst (λ (r : Looked). T (accepts r.reply)) (look_up_stays c e) ok)

-- ---- what it tells

-- what is told by the verdict, with its buffer
pub told_by_verdict : (s : Settings) (rows : List ℕ) (due t : ℕ)
    → ByVerdict s rows due t (tell_of s rows due t).reply (tell_of s rows due t).message
unfolding tell_of
told_by_verdict s rows due t = (refl, refl)

accepted_look_up : (s : Settings) (due t : ℕ) (rows : List ℕ) → AcceptedLookUp s due t rows (tell_of s rows due t)
accepted_look_up s due t rows =
    let (says, holds) = told_by_verdict s rows due t in
    let told : Reply = verdict s rows due t in
    record {
      tells = tells s rows due t _ _ (says, holds);
      told = rw says (verdict_one s rows due t);
      exact = rw holds (buffer_length s rows due t told);
      zeros = rw (says, holds) (buffer_zeros s rows due t told);
    }

-- document 02 §6. Wrong look-ups that agree with themselves, and what in the statement rules each out:
-- - one that reads the row of the slot due, which is an old slot's: `tells` has what arrived below the slot due alone
-- - whole as soon as the message's own slot was heard: 17 is told only where every codeword that carries it has a fitting word
-- - the message of the slot just reported refused, or one whose last slot is past told: `taken` says which are accepted
-- - the buffer left as it was on lost: `zeros`
pub look_up_tells : LookUpTells
look_up_tells = record {
  taken = λ x rows number message. (
    λ ok.
        let (h, t, reach) = look_up_open x rows number message (look_up_uncaused x rows number message ok) in
        (h.settings, h.rows_exact, h.message_exact, h.in_time_lem, (t, reach)),
    λ (ok, full, fits, in_time_lem, (t, reach)).
        let h : LossOpen x rows message = record { settings = ok; rows_exact = full; message_exact = fits; in_time_lem = in_time_lem } in
        let e = look_up_clear x rows number message h (told_reach x.settings x.due number t reach) in
        subst⁻¹ (λ (r : Looked). T (accepts r.reply)) (look_up_told x rows number message t reach.0 e)
        (subst⁻¹ (λ (r : Reply). T (accepts r)) (told_by_verdict x.settings rows x.due t).0 (verdict_accepts x.settings rows x.due t)),
  );
  by_rows = λ x rows number message ok t same.
      subst⁻¹ (AcceptedLookUp x.settings x.due t rows)
      (look_up_told x rows number message t same (look_up_uncaused x rows number message ok))
      (accepted_look_up x.settings x.due t rows);
}
