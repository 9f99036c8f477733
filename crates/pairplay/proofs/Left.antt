-- What a loop over the steps of a pair needs: fewer slots are left after each, the settings and the message buffer's length stay, and what
-- is printed fits.
use Rattle.std.specs.Prelude.{Ok, Err}
use mathlib.Core.Path.{◌≡◌, refl}
use mathlib.Core.Bool.{false, true≢false}
use mathlib.Core.List.{List}
use Prim.Native.Nat.{ℕ, ◌+◌, ◌-◌, ◌*◌, ◌≤◌, ◌<◌}
use native.Mathlib.Omega.{arith}
use lib.ListN.{length}
use Rattle.protocol.specs.declared.Receiver.{Receiver}
use Rattle.protocol.specs.Answers.{Answer}
use Rattle.protocol.specs.States.{reported_on}
use Rattle.protocol.specs.Causes.{number_of, loss_cause, frame_cause}
use Rattle.protocol.specs.Calls.{Reported, moved_on, message_due, loss_of, heard_of}
use Rattle.protocol.proofs.ReportSteps.{loss_moves, loss_stays, heard_moves, heard_stays}
use Rattle.lines.specs.Text.{line_of}
use Rattle.lines.proofs.TextLaws.{stop_length, line_fits}
use Rattle.aerials.specs.Pair.{pair_cause}
use Rattle.progress.specs.declared.Player.{Player}
use Rattle.progress.specs.Refusal.{refuses}
use Rattle.reporting.specs.Acts.{Act, stop_act, report_act}
use Rattle.steps.specs.Steps.{end_act}
use Rattle.steps.proofs.Acts.{loss_onward, heard_onward}
use Rattle.player.proofs.Kept.{loss_length, heard_length}
use Rattle.pairplay.specs.Transcript.{slots_of}
use Rattle.pairplay.specs.Steps.{pair_act}
use Rattle.pairplay.proofs.Slots.{next_within}
use Rattle.pairplay.proofs.PairActs.{every-act}

-- ---- the slots left

-- the slots from the slot due on, up to the last that either has
unfoldable pub pair_left : List ℕ → List ℕ → Player → ℕ
pair_left first second p = slots_of p.receiver.settings first second - p.receiver.due

module _ (p : Player) (first second : List ℕ) where
  -- fewer are left after an act that is not the last
  abbrev Falls : Act → Type 0
  Falls a = a.over ≡ false → pair_left first second a.player < pair_left first second p

  -- as a report that moves the receiver on
  report_falls : p.receiver.due < slots_of p.receiver.settings first second → (r : Reported)
      → (refuses r.reply ≡ false → r.receiver ≡ reported_on p.receiver) → Falls (report_act p.receiver p.offset r)
  unfolding pair_left report_act
  report_falls some r moves more = rw (moves more) (omega arith)

-- a step that is not the last leaves fewer slots
pub pair_fewer : (p : Player) (first second rows message : List ℕ) → pair_cause p.receiver.settings first second ≡ 0
    → (pair_act p first second rows message).over ≡ false
    → pair_left first second (pair_act p first second rows message).player < pair_left first second p
unfolding end_act stop_act
pair_fewer p first second rows message accepted =
    let x : Receiver = p.receiver in
    let some = next_within x.settings first second accepted x.due in
    every-act p first second rows message (Falls p first second)
    (λ more. absurd (true≢false more))
    (λ c more. absurd (true≢false more))
    (λ n e. report_falls p first second (some n e) (loss_of x rows message) (loss_onward x rows message))
    (λ n e frame. report_falls p first second (some n e) (heard_of x rows frame message) (heard_onward x rows frame message))

-- ---- what stays

module _ (x : Receiver) (rows message : List ℕ) where
  -- a loss leaves the receiver its settings
  loss_kept : (loss_of x rows message).receiver.settings ≡ x.settings
  unfolding moved_on
  loss_kept = go (loss_cause x rows message) refl
    where
      go : (f : Answer) → loss_cause x rows message ≡ f → (loss_of x rows message).receiver.settings ≡ x.settings
      go (Ok tt) is = rw (loss_moves x rows message is)
      go (Err c) is = rw (loss_stays x rows message c is)

  -- and so does a frame
  heard_kept : (frame : List ℕ) → (heard_of x rows frame message).receiver.settings ≡ x.settings
  unfolding moved_on
  heard_kept frame = go (frame_cause x rows frame message) refl
    where
      go : (f : Answer) → frame_cause x rows frame message ≡ f → (heard_of x rows frame message).receiver.settings ≡ x.settings
      go (Ok tt) is = rw (heard_moves x rows frame message is)
      go (Err c) is = rw (heard_stays x rows frame message c is)

module _ (p : Player) (first second rows message : List ℕ) where
  -- a step leaves the receiver its settings
  pub pair_kept : (pair_act p first second rows message).player.receiver.settings ≡ p.receiver.settings
  unfolding end_act stop_act report_act
  pair_kept =
      every-act p first second rows message (λ a. a.player.receiver.settings ≡ p.receiver.settings) refl (λ c. refl)
      (λ n e. loss_kept p.receiver rows message)
      (λ n e. heard_kept p.receiver rows message)

  -- and the message buffer its length
  pub pair_length : length (pair_act p first second rows message).message ≡ length message
  unfolding end_act stop_act report_act
  pair_length =
      every-act p first second rows message (λ a. length a.message ≡ length message) refl (λ c. refl)
      (λ n e. loss_length p.receiver rows message)
      (λ n e. heard_length p.receiver rows message)

  -- what it prints is no longer than the longest line
  pub pair_fits : length (pair_act p first second rows message).text ≤ 18 + 2 * length message
  unfolding end_act stop_act report_act
  pair_fits =
      every-act p first second rows message (λ a. length a.text ≤ 18 + 2 * length message) (omega arith)
      (λ c. omega (arith, stop_length (number_of c)))
      (λ n e. report_fits p.receiver (loss_of p.receiver rows message) (loss_length p.receiver rows message))
      (λ n e frame. report_fits p.receiver (heard_of p.receiver rows frame message) (heard_length p.receiver rows message frame))
    where
      report_fits : (x : Receiver) (r : Reported) → length r.message ≡ length message
          → length (line_of (message_due x.settings x.due) r.reply r.message) ≤ 18 + 2 * length message
      report_fits x r same = omega (arith, line_fits (message_due x.settings x.due) r.reply r.message)
