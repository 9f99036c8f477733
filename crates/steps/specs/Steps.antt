-- Playing in steps: how a player begins, and one step as a function of the player, its rows and its message buffer.
use Rattle.std.specs.Prelude.{true, List, [], ℕ, ◌-◌, length, take, drop, replicate}
use Rattle.code.specs.declared.settings.Settings.{Settings}
use Rattle.protocol.specs.declared.Cause.TheVariants.{BadLength}
use Rattle.protocol.specs.Lengths.{frame_len}
use Rattle.protocol.specs.Calls.{open_receiver_of}
use Rattle.recording.specs.declared.Found.TheVariants.{Frame, Part, End}
use Rattle.recording.specs.Found.{found_at}
use Rattle.progress.specs.declared.Player.{Player}
use Rattle.reporting.specs.Acts.{Act, stop_act, frame_act}

-- ---- the start

pub record Begun : Type 0 where
  pub player : Player
  pub rows : List ℕ
  pub message : List ℕ

-- a player at the start of a recording: its receiver is opened at slot 0 on the lent rows, and the message buffer is zeros
unfoldable pub begin_of : Settings → List ℕ → List ℕ → Begun
begin_of s rows message =
    record {
      player = record { receiver = (open_receiver_of s 0 rows).receiver; offset = 0 };
      rows = (open_receiver_of s 0 rows).rows;
      message = replicate (length message) 0;
    }

-- ---- a step

-- the end: nothing is left of the recording
unfoldable pub end_act : Player → List ℕ → List ℕ → Act
end_act p rows message = record { player = p; rows = rows; message = message; text = []; over = true }

-- one step: by what stands at the player's offset
unfoldable pub act_of : Player → List ℕ → List ℕ → List ℕ → Act
act_of p recording rows message =
    elim (found_at recording p.offset (frame_len p.receiver.settings)) [
      | End ↦ end_act p rows message
      | Part ↦ stop_act p rows message BadLength
      | Frame start end ↦ frame_act p (take (end - start) (drop start recording)) end rows message
    ]
