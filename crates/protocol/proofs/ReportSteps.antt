-- What comes of one report: it moves on by its row where no cause holds, else it is refused, and state and rows stay.
use Rattle.std.specs.Prelude.{Ok, Err}
use mathlib.Core.Path.{◌≡◌, refl, ap, subst}
use mathlib.Core.List.{List, ◌∷◌}
use mathlib.Core.Logic.{◌⊎◌, inl, inr}
use Prim.Native.Nat.{ℕ}
use native.Mathlib.Omega.{arith}
use lib.Dec.{T}
use lib.ListN.{length, drop, replicate}
use Rattle.code.specs.Settings.{accepted}
use Rattle.protocol.specs.declared.Receiver.{Receiver}
use Rattle.protocol.specs.declared.Cause.{Cause}
use Rattle.protocol.specs.Lengths.{row_len, receiver_len}
use Rattle.protocol.specs.Answers.{Answer}
use Rattle.protocol.specs.Causes.{loss_cause, frame_cause}
use Rattle.protocol.specs.Calls.{Reported, moved_on, loss_of, heard_of}
use Rattle.protocol.specs.TwoLists.{Report, heard, missed, report_of, ReportMade, row_of}
use Rattle.protocol.specs.Histories.{accepts}
use Rattle.protocol.specs.Claim.{NoCause}
use Rattle.protocol.proofs.ReportCauses.{loss_open, loss_clear, frame_open, frame_clear}
use Rattle.protocol.proofs.ReportRows.{moved_accepts}

-- the report of a call
abbrev pub made : Receiver → List ℕ → Report → ReportMade
made x rows call = record { before = x; rows = rows; call = call; after = report_of x rows call }

-- it was accepted
pub record Taken (m : ReportMade) : Type 0 where
  pub uncaused : NoCause m.before.settings m.before.due m.call
  pub passed : T (accepts m.after.reply)
  pub moved : m.after ≡ moved_on m.before (row_of m.before.settings m.call) m.rows

-- it was refused
pub record Stayed (m : ReportMade) : Type 0 where
  pub caused : NoCause m.before.settings m.before.due m.call → ⊥
  pub failed : T (accepts m.after.reply) → ⊥
  pub same_receiver : m.after.receiver ≡ m.before
  pub same_rows : m.after.rows ≡ m.rows

-- what a refused call comes to
abbrev pub refusal : Cause → Receiver → List ℕ → List ℕ → Reported
refusal c x rows message = record { reply = Err c; receiver = x; rows = rows; message = message }

-- where no cause is found a frame report moves on by its row, and a loss report by zeros; else it is refused
pub heard_moves : (x : Receiver) (rows frame message : List ℕ) → frame_cause x rows frame message ≡ Ok tt
    → heard_of x rows frame message ≡ moved_on x (1 ∷ drop 14 frame) rows
unfolding heard_of
heard_moves x rows frame message e = rw (e, heard_of)

pub heard_stays : (x : Receiver) (rows frame message : List ℕ) (c : Cause) → frame_cause x rows frame message ≡ Err c
    → heard_of x rows frame message ≡ refusal c x rows message
unfolding heard_of
heard_stays x rows frame message c e = rw (e, heard_of)

pub loss_moves : (x : Receiver) (rows message : List ℕ) → loss_cause x rows message ≡ Ok tt
    → loss_of x rows message ≡ moved_on x (replicate (row_len x.settings) 0) rows
unfolding loss_of
loss_moves x rows message e = rw (e, loss_of)

pub loss_stays : (x : Receiver) (rows message : List ℕ) (c : Cause) → loss_cause x rows message ≡ Err c
    → loss_of x rows message ≡ refusal c x rows message
unfolding loss_of
loss_stays x rows message c e = rw (e, loss_of)

-- an accepted report, from what it comes to
taken : (x : Receiver) (rows : List ℕ) (call : Report) → NoCause x.settings x.due call
    → report_of x rows call ≡ moved_on x (row_of x.settings call) rows → Taken (made x rows call)
taken x rows call free e = record {
  uncaused = free;
  passed = rw e (moved_accepts x (row_of x.settings call) rows);
  moved = e;
}

-- and a refused one
stayed : (x : Receiver) (rows : List ℕ) (call : Report) (c : Cause) (message : List ℕ) → (NoCause x.settings x.due call → ⊥)
    → report_of x rows call ≡ refusal c x rows message → Stayed (made x rows call)
stayed x rows call c message blocked e = record {
  caused = blocked;
  failed = λ t. subst (λ (r : Reported). T (accepts r.reply)) e t;
  same_receiver = ap (λ (r : Reported). r.receiver) e;
  same_rows = ap (λ (r : Reported). r.rows) e;
}

never : (f : Answer) (c : Cause) → f ≡ Err c → f ≡ Ok tt → ⊥
never f c p q = let z : ◌≡◌ {A = ℕ} 0 1 = cc in omega arith

module _ (x : Receiver) (rows : List ℕ) (ok : T (accepted x.settings)) (exact : length rows ≡ receiver_len x.settings) where
  heard_step : (frame message : List ℕ) (found : Answer) → frame_cause x rows frame message ≡ found
      → Taken (made x rows (heard frame message)) ⊎ Stayed (made x rows (heard frame message))
  unfolding report_of row_of
  heard_step frame message (Ok tt) e =
      let h = frame_open x rows message 1 frame e in
      inl (taken x rows (heard frame message) (h.message_exact, h.frame_exact, h.in_time_lem, h.headed)
      (heard_moves x rows frame message e))
  heard_step frame message (Err c) e =
      inr
      (stayed x rows (heard frame message) c message
      (λ h.
      never (frame_cause x rows frame message) c e
      (frame_clear x rows message 1 frame record {
        settings = ok;
        rows_exact = exact;
        frame_exact = h.1;
        message_exact = h.0;
        in_time_lem = h.2;
        headed = h.3;
      }))
      (heard_stays x rows frame message c e))

  loss_step : (message : List ℕ) (found : Answer) → loss_cause x rows message ≡ found
      → Taken (made x rows (missed message)) ⊎ Stayed (made x rows (missed message))
  unfolding report_of row_of
  loss_step message (Ok tt) e =
      let h = loss_open x rows message e in
      inl (taken x rows (missed message) (h.message_exact, h.in_time_lem) (loss_moves x rows message e))
  loss_step message (Err c) e =
      inr
      (stayed x rows (missed message) c message
      (λ h.
      never (loss_cause x rows message) c e
      (loss_clear x rows message record { settings = ok; rows_exact = exact; message_exact = h.0; in_time_lem = h.1 }))
      (loss_stays x rows message c e))

  -- a report at exact rows is accepted or refused, by its own cause alone
  pub step : (call : Report) → Taken (made x rows call) ⊎ Stayed (made x rows call)
  step (heard frame message) = heard_step frame message (frame_cause x rows frame message) refl
  step (missed message) = loss_step message (loss_cause x rows message) refl
