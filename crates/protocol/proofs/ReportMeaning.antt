-- Demand 2, the receiver: `demand2_verdict`, whose statement is `Demand2Verdict` of specs/Meaning.antt.
use Rattle.std.specs.Prelude.{Ok, Err}
use mathlib.Core.Path.{◌≡◌, refl, ap, subst, subst⁻¹}
use mathlib.Core.Bool.{Bool, true, false, cond}
use mathlib.Core.Logic.{◌↔◌, ◌⊎◌, inl, inr, ⊎_elim}
use mathlib.Core.List.{List}
use Prim.Native.Nat.{ℕ, ◌+◌, ◌%◌}
use native.Mathlib.Omega.{arith}
use lib.Dec.{T, ltb, ltb→lt, lt→ltb}
use Rattle.code.specs.declared.settings.Settings.{Settings}
use Rattle.code.specs.Settings.{delay_of}
use Rattle.protocol.specs.declared.Receiver.{Receiver}
use Rattle.protocol.specs.Answers.{Answer, Reply}
use Rattle.protocol.specs.declared.Told.TheVariants.{NoneYet, Whole, Lost, Clash}
use Rattle.protocol.specs.Lengths.{row_len, row_count}
use Rattle.protocol.specs.Rows.{put_row}
use Rattle.protocol.specs.Verdict.{arrived, by_tests, none_fits, two_differ, verdict}
use Rattle.protocol.specs.Causes.{loss_cause, frame_cause}
use Rattle.protocol.specs.Numbers.{reply_number}
use Rattle.protocol.specs.Calls.{Reported, row_before, message_due, moved_on, loss_of, heard_of, open_receiver_of}
use Rattle.protocol.specs.TwoLists.{Report, heard, missed, report_of, row_of, reports}
use Rattle.protocol.specs.Histories.{accepts}
use Rattle.protocol.specs.Meaning.{Tells, AcceptedReport, Demand2Verdict}
use Rattle.protocol.proofs.NumberLaws.{reply_tells}
use Rattle.protocol.proofs.VerdictMeaning.{verdict_clash, verdict_lost, verdict_else, whole_bytes, buffer_length, buffer_zeros}
use Rattle.protocol.proofs.ReportSteps.{heard_moves, heard_stays, loss_moves, loss_stays}
use Rattle.protocol.proofs.Received.{ByVerdict, by_verdict}
use Rattle.protocol.proofs.ReceivedRows.{Reached, left_by, opened}
use Rattle.protocol.proofs.CauseTables.{OpensAt}
use Rattle.protocol.proofs.Arrivals.{known_came}

-- ---- none yet

-- the reply is none yet by the test, where the other one is not
none_by : (b : Bool) (q : Reply) → (reply_number q ≡ 16 → ⊥) → (reply_number (cond b (Ok NoneYet) q) ≡ 16) ↔ T b
none_by true q n = (λ e. tt, λ h. refl)
none_by false q n = (λ e. absurd (n e), λ h. absurd h)

-- ---- the verdict, by its number

module _ (s : Settings) (rows : List ℕ) (due t : ℕ) where
  number_of : {P : Type 0} (x : Reply) → (verdict s rows due t ≡ x) ↔ P → (reply_number (verdict s rows due t) ≡ reply_number x) ↔ P
  number_of x iff = (
    λ n. iff.0 (reply_tells (verdict s rows due t) x n),
    λ p. ap reply_number (iff.1 p),
  )

  -- a call that replies with the verdict and leaves its buffer tells of the message
  pub tells : (r : Reply) (message : List ℕ) → ByVerdict s rows due t r message → Tells s (arrived s rows due t) r message
  tells r message e =
      rw (e.0, e.1)
      record {
        clash = number_of (Ok Clash) (verdict_clash s rows due t);
        lost = number_of (Ok Lost) (verdict_lost s rows due t);
        whole = number_of (Ok Whole) (verdict_else s rows due t);
        shared = λ n. whole_bytes s rows due t (reply_tells (verdict s rows due t) (Ok Whole) n);
      }

-- ---- by the rows

-- a verdict is whole, lost or clash
pub verdict_one : (s : Settings) (rows : List ℕ) (due t : ℕ)
    → let n = reply_number (verdict s rows due t) in (n ≡ 17) ⊎ ((n ≡ 18) ⊎ (n ≡ 19))
unfolding verdict
verdict_one s rows due t = go (none_fits s rows due t) (two_differ s rows due t)
  where
    go : (a b : Bool) → let n = reply_number (by_tests a b) in (n ≡ 17) ⊎ ((n ≡ 18) ⊎ (n ≡ 19))
    go true b = inr (inr refl)
    go false true = inr (inl refl)
    go false false = inl refl

-- and so never none yet
verdict_told : (s : Settings) (rows : List ℕ) (due t : ℕ) → reply_number (verdict s rows due t) ≡ 16 → ⊥
verdict_told s rows due t e =
    ⊎_elim (λ n. omega arith) (λ rest. ⊎_elim (λ n. omega arith) (λ n. omega arith) rest) (verdict_one s rows due t)

moved_report : (x : Receiver) (call : Report) (rows : List ℕ)
    → AcceptedReport x.settings x.opening x.due rows call (moved_on x (row_of x.settings call) rows)
unfolding moved_on
moved_report x call rows =
    let s = x.settings in
    let now : List ℕ = put_row (row_len s) (x.due % row_count s) (row_of s call) rows in
    let t : ℕ = message_due s x.due in
    let told : Reply = cond (ltb x.due (delay_of s)) (Ok NoneYet) (verdict s now (x.due + 1) t) in
    let none = none_by (ltb x.due (delay_of s)) (verdict s now (x.due + 1) t) (verdict_told s now (x.due + 1) t) in
    record {
      moved = (refl, refl, refl);
      written = refl;
      none_yet = (λ e. ltb→lt x.due (delay_of s) (none.0 e), λ h. none.1 (lt→ltb x.due (delay_of s) h));
      tells = λ u e. tells s now (u + delay_of s + 1) u _ _ (by_verdict x u (row_of s call) rows e);
      exact = buffer_length s now (x.due + 1) t told;
      zeros = buffer_zeros s now (x.due + 1) t told;
    }

-- a report with a reply that is no refusal moves on by its row
accepted_moves : (x : Receiver) (rows : List ℕ) (call : Report) → T (accepts (report_of x rows call).reply)
    → report_of x rows call ≡ moved_on x (row_of x.settings call) rows
unfolding report_of row_of
accepted_moves x rows (heard frame message) ok = go (frame_cause x rows frame message) refl
  where
    go : (f : Answer) → frame_cause x rows frame message ≡ f
        → heard_of x rows frame message ≡ moved_on x (row_of x.settings (heard frame message)) rows
    go (Ok tt) e = heard_moves x rows frame message e
    go (Err c) e = absurd (subst (λ (r : Reported). T (accepts r.reply)) (heard_stays x rows frame message c e) ok)
accepted_moves x rows (missed message) ok = go (loss_cause x rows message) refl
  where
    go : (f : Answer) → loss_cause x rows message ≡ f
        → loss_of x rows message ≡ moved_on x (row_of x.settings (missed message)) rows
    go (Ok tt) e = loss_moves x rows message e
    go (Err c) e = absurd (subst (λ (r : Reported). T (accepts r.reply)) (loss_stays x rows message c e) ok)

-- demand 2, the receiver. Wrong definitions that agree with themselves, and what in the statement rules each out:
-- - lost for any slot not heard: 18 asks for two fitting words that differ in the message
-- - lost, or none yet, without a look at later frames: 18 is told by what arrived up to slot t + T, and 16 below slot T alone
-- - a fixed message, or the last one repeated: whole has the bytes that the fitting words of message t share, for every t
-- - zero parity at both ends: the words are those of G
-- - a loss that leaves its row, or slots before 0 lost: `by_history` has every position known exactly as it came
pub demand2_verdict : Demand2Verdict
demand2_verdict = record {
  by_rows = λ x rows call ok.
      subst⁻¹ (AcceptedReport x.settings x.opening x.due rows call) (accepted_moves x rows call ok) (moved_report x call rows);
  by_history = λ s ok opening in_time_lem rows exact calls r listed passed t slot i v p byte hi hv hp.
      let told = reports (open_receiver_of s opening rows).receiver (open_receiver_of s opening rows).rows calls in
      let opens : OpensAt s opening rows = record { settings = ok; exact = exact; in_time_lem = in_time_lem } in
      let reached : Reached s (row_before s) opening told r.after.rows (t + delay_of s + 1)
      = subst (λ (due : ℕ). Reached s (row_before s) opening told r.after.rows (due + 1)) slot
      (left_by (opened s opening rows opens calls) r listed passed) in
      let (says, came) = known_came reached t (omega arith) i p v hi hp hv byte in
      ((λ k. let (now, from) = says k in (omega arith, from)), λ (to, from). came (omega arith, from));
}
