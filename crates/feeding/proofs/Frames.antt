-- A frame of a sound recording of bytes has the header of its slot.
use mathlib.Core.Path.{◌≡◌}
use mathlib.Core.List.{List}
use Prim.Native.Nat.{ℕ, ◌+◌, ◌*◌, ◌<◌}
use native.Mathlib.Omega.{arith}
use lib.ListN.{length, get_or, take, drop}
use lib.Seq.{get_or-take, get_or-drop}
use Rattle.galois.specs.Byte.{Bytes}
use Rattle.code.specs.declared.settings.Settings.{Settings}
use Rattle.protocol.specs.Lengths.{frame_len}
use Rattle.protocol.specs.Frame.{header}
use Rattle.protocol.proofs.SentLengths.{byte_at}
use Rattle.protocol.proofs.HeaderBytes.{tests_header}
use Rattle.frames.specs.Fields.{slot_in}
use Rattle.frames.proofs.SlotBytes.{slot_agrees}
use Rattle.aerials.specs.Pair.{frames_in, frame_of, slot_of}
use Rattle.aerials.proofs.FrameLaws.{frame_length}
use Rattle.aerials.proofs.PairLaws.{Sound}

-- the bytes of a frame's header are bytes
frame_byte : (s : Settings) (recording : List ℕ) → Bytes recording → (i j : ℕ) → j < 14 → get_or (frame_of s recording i) j 0 < 256
unfolding frame_of frame_len
frame_byte s recording bytes i j h =
    rw (get_or-take (frame_len s) (drop (i * frame_len s) recording) j 0 (omega arith), get_or-drop (i * frame_len s) recording j 0)
    (byte_at recording bytes (i * frame_len s + j))

-- and they are the header of its slot
pub frame_header : (s : Settings) (recording : List ℕ) → Sound s recording → Bytes recording → (i : ℕ) → i < frames_in s recording
    → take 14 (frame_of s recording i) ≡ header 1 s (slot_of s recording i)
unfolding slot_of frame_len
frame_header s recording sound bytes i h =
    let frame : List ℕ = frame_of s recording i in
    let whole : length frame ≡ frame_len s = frame_length s recording i h in
    tests_header 1 s (slot_in frame) frame (omega arith) (sound.marked i h) (sound.settled i h)
    (slot_agrees frame (frame_byte s recording bytes i))
