-- What each way out of a step gives back, by what stands at the offset.
use mathlib.Core.Path.{◌≡◌, refl}
use mathlib.Core.Bool.{true}
use mathlib.Core.List.{List}
use Prim.Native.Nat.{ℕ, ◌-◌}
use lib.ListN.{take, drop}
use Rattle.protocol.specs.declared.Cause.TheVariants.{BadLength}
use Rattle.protocol.specs.Lengths.{frame_len}
use Rattle.recording.specs.declared.Found.TheVariants.{Frame, Part, End}
use Rattle.recording.specs.Found.{found_at}
use Rattle.lines.specs.Text.{written}
use Rattle.progress.specs.declared.Player.{Player}
use Rattle.reporting.specs.Acts.{stop_act, frame_act}
use Rattle.steps.specs.Steps.{end_act, act_of}
use Rattle.reporting.specs.Outcomes.{printed_on}

-- the end
pub end_line : (line : List ℕ) (p : Player) (rows message : List ℕ)
    → record { player = p; rows = rows; message = message; out = line; len = 0; over = true } ≡ printed_on line (end_act p rows message)
unfolding printed_on end_act written
end_line line p rows message = refl

-- ---- by what stands at the offset

module _ (p : Player) (recording rows message : List ℕ) where
  pub ends : found_at recording p.offset (frame_len p.receiver.settings) ≡ End
      → end_act p rows message ≡ act_of p recording rows message
  unfolding act_of
  ends e = rw (e, act_of)

  pub parts : found_at recording p.offset (frame_len p.receiver.settings) ≡ Part
      → stop_act p rows message BadLength ≡ act_of p recording rows message
  unfolding act_of
  parts e = rw (e, act_of)

  pub stands : (start end : ℕ) → found_at recording p.offset (frame_len p.receiver.settings) ≡ Frame start end
      → frame_act p (take (end - start) (drop start recording)) end rows message ≡ act_of p recording rows message
  unfolding act_of
  stands start end e = rw (e, act_of)
