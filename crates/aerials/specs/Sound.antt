-- Document 02 §7: what an accepted pair is, frame by frame.
use Rattle.std.specs.Prelude.{◌≡◌, List, ℕ, ◌%◌, ◌≤◌, ◌<◌, T, length, drop}
use Rattle.code.specs.declared.settings.Settings.{Settings}
use Rattle.code.specs.Settings.{accepted}
use Rattle.protocol.specs.Lengths.{frame_len}
use Rattle.protocol.specs.Frame.{mark, five}
use Rattle.protocol.specs.Causes.{agree}
use Rattle.aerials.specs.Pair.{frames_in, frame_of, slot_of}

-- each frame's slot is above those of all frames before it
unfoldable pub Rising : Settings → List ℕ → Type 0
Rising s recording = (i j : ℕ) → i < j → j < frames_in s recording → slot_of s recording i < slot_of s recording j

-- a recording in which nothing is wrong
pub record Sound (s : Settings) (recording : List ℕ) : Type 0 where
  pub short : length recording ≤ 65536
  pub whole : length recording % frame_len s ≡ 0
  pub marked : (i : ℕ) → i < frames_in s recording → T (agree 5 (frame_of s recording i) (mark 1))
  pub settled : (i : ℕ) → i < frames_in s recording → T (agree 5 (drop 5 (frame_of s recording i)) (five s))
  pub rising : (i j : ℕ) → i < j → j < frames_in s recording → slot_of s recording i < slot_of s recording j

-- two such recordings, with the same bytes in each slot that both have
pub record Checked (s : Settings) (first second : List ℕ) : Type 0 where
  pub settings : T (accepted s)
  pub one : Sound s first
  pub two : Sound s second
  pub alike : (i j : ℕ) → i < frames_in s first → j < frames_in s second → slot_of s first i ≡ slot_of s second j
      → T (agree (frame_len s) (frame_of s first i) (frame_of s second j))
