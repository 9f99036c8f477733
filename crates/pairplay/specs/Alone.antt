-- A pair of which one recording is empty, beside the other played alone: for which recordings both print the same, and where they part.
use Rattle.std.specs.Prelude.{◌≡◌, false, List, [], ℕ, ◌≤◌, ◌<◌, length, Ok}
use Rattle.code.specs.Settings.{accepted}
use Rattle.protocol.specs.Frame.{mark}
use Rattle.protocol.specs.Causes.{agree}
use Rattle.frames.specs.Fields.{settings_in}
use Rattle.aerials.specs.Pair.{frame_of}
use Rattle.lines.specs.Text.{stop_text}
use Rattle.stops.specs.Stops.{recording_cause}
use Rattle.player.specs.Transcript.{transcript}
use Rattle.pairplay.specs.Transcript.{pair_stop, pair_transcript}

-- the recording prints the same alone, as the first of a pair, and as the second
pub record AsAlone (recording : List ℕ) : Type 0 where
  pub as_first : pair_transcript recording [] ≡ transcript recording
  pub as_second : pair_transcript [] recording ≡ transcript recording

-- The check of the pair is of the whole recording, and before any line; alone it is played up to the frame that stops it. So what is wrong
-- with a later frame, which is 4, 5 or 9 in the check, is left out here.
pub record OneEmpty : Type 0 where
  -- a recording that the check accepts, or refuses with 1 or 2, but one over 64 KiB with settings that are not accepted
  pub same : (recording : List ℕ) → pair_stop recording [] ≤ 2 → (pair_stop recording [] ≡ 1 → length recording ≤ 65536) → AsAlone recording
  -- that one stops with 1 in a pair, and with 2 alone
  pub too_long : (recording : List ℕ) → 65536 < length recording → accepted (settings_in recording) ≡ false
      → (pair_transcript recording [] ≡ stop_text 1) × (pair_transcript [] recording ≡ stop_text 1) × (transcript recording ≡ stop_text 2)
  -- one whose first frame has another mark or version
  pub other_mark_lem : (recording : List ℕ) → recording_cause recording ≡ Ok tt
      → agree 5 (frame_of (settings_in recording) recording 0) (mark 1) ≡ false → AsAlone recording
