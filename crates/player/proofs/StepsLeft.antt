-- A measure of the steps left, which falls at every step that leaves more to play.
use Rattle.std.specs.Prelude.{Ok}
use mathlib.Core.Path.{◌≡◌}
use mathlib.Core.Bool.{false}
use mathlib.Core.List.{List}
use Prim.Native.Nat.{ℕ, ◌+◌, ◌-◌, ◌*◌, ◌≤◌, ◌<◌, min}
use native.Mathlib.Omega.{arith}
use lib.ListN.{length}
use Rattle.protocol.specs.declared.Cause.{Cause}
use Rattle.protocol.specs.Lengths.{frame_len}
use Rattle.protocol.specs.Calls.{Reported, loss_of, heard_of}
use Rattle.frames.specs.Fields.{slot_in}
use Rattle.stops.specs.Stops.{frame_stop}
use Rattle.stops.proofs.StopLaws.{stop_passing}
use Rattle.progress.specs.declared.Player.{Player}
use Rattle.reporting.specs.Acts.{Act, stop_act, report_act}
use Rattle.steps.specs.Steps.{end_act, act_of}
use Rattle.steps.proofs.Acts.{frame_some, loss_onward, frame_at, every-act}
use Rattle.player.specs.Filling.{enough_steps}

-- the bytes left, and the slots to skip before the frame at the offset; a byte counts for more than the slots of any frame that passes
unfoldable pub steps_left : List ℕ → Player → ℕ
steps_left recording p =
    (length recording - p.offset) * 4097
    + min 4096 (slot_in (frame_at recording p) - p.receiver.due)

-- no player has as many left as the definition of a filling goes through
pub few_left : (recording : List ℕ) (p : Player) → steps_left recording p < enough_steps recording
unfolding steps_left enough_steps
few_left recording p = omega arith

module _ (p : Player) (recording : List ℕ) where
  -- fewer steps are left after an act that leaves more to play
  abbrev Falls : Act → Type 0
  Falls a = a.over ≡ false → steps_left recording a.player < steps_left recording p

  -- the end leaves nothing to play
  end_falls : (rows message : List ℕ) → Falls (end_act p rows message)
  unfolding end_act
  end_falls rows message more = let z : ◌≡◌ {A = ℕ} 0 1 = cc in absurd (omega arith)

  -- nor does a refusal
  stop_falls : (rows message : List ℕ) (c : Cause) → Falls (stop_act p rows message c)
  unfolding stop_act
  stop_falls rows message c more = let z : ◌≡◌ {A = ℕ} 0 1 = cc in absurd (omega arith)

  -- after a loss the frame is the same, and one slot fewer is to skip
  loss_falls : (rows message : List ℕ) → frame_stop p.receiver (frame_at recording p) ≡ Ok tt
      → p.receiver.due < slot_in (frame_at recording p)
      → Falls (report_act p.receiver p.offset (loss_of p.receiver rows message))
  unfolding report_act steps_left
  loss_falls rows message passes above more =
      let pass = stop_passing p.receiver (frame_at recording p) passes in
      rw (loss_onward p.receiver rows message more) (omega arith)

  -- after a report that moves the offset past a frame fewer bytes are left
  heard_falls : p.offset + frame_len p.receiver.settings ≤ length recording → (r : Reported)
      → Falls (report_act p.receiver (p.offset + frame_len p.receiver.settings) r)
  unfolding report_act steps_left
  heard_falls fits r more = let some = frame_some p.receiver.settings in omega arith

-- every step that leaves more to play leaves fewer steps
pub fewer : (p : Player) (recording rows message : List ℕ) → (act_of p recording rows message).over ≡ false
    → steps_left recording (act_of p recording rows message).player < steps_left recording p
fewer p recording rows message =
    every-act p recording rows message (Falls p recording) (end_falls p recording rows message) (stop_falls p recording rows message)
    (loss_falls p recording rows message)
    (λ fits. heard_falls p recording fits (heard_of p.receiver rows (frame_at recording p) message))
