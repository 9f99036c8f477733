-- A step leaves a message buffer of the length that it was lent.
use Rattle.std.specs.Prelude.{Ok, Err}
use mathlib.Core.Path.{◌≡◌, refl, sym, ◌∙◌}
use mathlib.Core.List.{List, ◌∷◌}
use Prim.Native.Nat.{ℕ}
use lib.ListN.{length, drop, replicate}
use Rattle.protocol.specs.declared.Receiver.{Receiver}
use Rattle.protocol.specs.Lengths.{message_len, row_len}
use Rattle.protocol.specs.Answers.{Answer}
use Rattle.protocol.specs.Causes.{loss_cause, frame_cause}
use Rattle.protocol.specs.Calls.{moved_on, loss_of, heard_of}
use Rattle.protocol.proofs.VerdictMeaning.{buffer_length}
use Rattle.protocol.proofs.ReportCauses.{loss_open, frame_open}
use Rattle.protocol.proofs.ReportSteps.{loss_moves, loss_stays, heard_moves, heard_stays}
use Rattle.progress.specs.declared.Player.{Player}
use Rattle.reporting.specs.Acts.{stop_act, report_act}
use Rattle.steps.specs.Steps.{end_act, act_of}
use Rattle.steps.proofs.Acts.{frame_at, every-act}

-- the message buffer of an accepted report
moved_length : (x : Receiver) (row rows : List ℕ) → length (moved_on x row rows).message ≡ message_len x.settings
unfolding moved_on
moved_length x row rows = buffer_length x.settings _ _ _ _

module _ (x : Receiver) (rows message : List ℕ) where
  -- a loss
  pub loss_length : length (loss_of x rows message).message ≡ length message
  loss_length = go (loss_cause x rows message) refl
    where
      go : (f : Answer) → loss_cause x rows message ≡ f → length (loss_of x rows message).message ≡ length message
      go (Ok tt) is =
          rw (loss_moves x rows message is)
          (moved_length x (replicate (row_len x.settings) 0) rows ∙ sym (loss_open x rows message is).message_exact)
      go (Err c) is = rw (loss_stays x rows message c is)

  -- a frame
  pub heard_length : (frame : List ℕ) → length (heard_of x rows frame message).message ≡ length message
  heard_length frame = go (frame_cause x rows frame message) refl
    where
      go : (f : Answer) → frame_cause x rows frame message ≡ f → length (heard_of x rows frame message).message ≡ length message
      go (Ok tt) is =
          rw (heard_moves x rows frame message is)
          (moved_length x (1 ∷ drop 14 frame) rows ∙ sym (frame_open x rows message 1 frame is).message_exact)
      go (Err c) is = rw (heard_stays x rows frame message c is)

-- any step
pub act_length : (p : Player) (recording rows message : List ℕ) → length (act_of p recording rows message).message ≡ length message
unfolding end_act stop_act report_act
act_length p recording rows message =
    every-act p recording rows message (λ a. length a.message ≡ length message) refl (λ c. refl)
    (λ passes above. loss_length p.receiver rows message)
    (λ fits. heard_length p.receiver rows message (frame_at recording p))
