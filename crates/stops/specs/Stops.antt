-- Document 01, "Playing a recording": what stops a player before any line, and at a frame.
use Rattle.std.specs.Prelude.{true, false, not, ◌||◌, List, [], ◌∷◌, ◌++◌, ℕ, ◌+◌, ◌%◌, eqb, ltb, length}
use Rattle.std.specs.Prelude.{Option, Some, None, Result, Ok, Err}
use Rattle.code.specs.declared.settings.Settings.{Settings}
use Rattle.code.specs.Settings.{accepted}
use Rattle.protocol.specs.declared.Receiver.{Receiver}
use Rattle.protocol.specs.declared.Cause.{Cause}
use Rattle.protocol.specs.declared.Cause.TheVariants.{BadSettings, BadLength, OtherSlot}
use Rattle.protocol.specs.Answers.{Answer}
use Rattle.protocol.specs.Lengths.{frame_len}
use Rattle.protocol.specs.Causes.{Row, row, first_of, header_table}
use Rattle.frames.specs.Fields.{settings_in, slot_in}

-- ---- before any line

-- shorter than 14 bytes or longer than 64 KiB is 2; then settings that aren't accepted, which the first frame gives, are 1; then no whole
-- number of frames is 2
abbrev pub recording_table : List ℕ → List Row
recording_table recording =
    let s = settings_in recording in
    row (ltb (length recording) 14 || ltb 65536 (length recording)) BadLength
    ∷ row (not (accepted s)) BadSettings
    ∷ row (not (eqb (length recording % frame_len s) 0)) BadLength
    ∷ []

unfoldable pub recording_cause : List ℕ → Answer
recording_cause recording = first_of (recording_table recording)

-- how a recording starts, by the tests before any line: an empty one is not played, and another is refused or played with its settings
unfoldable pub start_of : List ℕ → Result (Option Settings) Cause
start_of recording =
    elim (eqb (length recording) 0) [
      | true ↦ Ok None
      | false ↦ elim (recording_cause recording) [
        | Err c ↦ Err c
        | Ok tt ↦ Ok (Some (settings_in recording))
      ]
    ]

-- ---- at a frame

-- its slot is 6 if it is below the slot due or more than 4,095 above it
abbrev pub gap_table : Receiver → List ℕ → List Row
gap_table x frame = row (ltb (slot_in frame) x.due || ltb (x.due + 4095) (slot_in frame)) OtherSlot ∷ []

-- a frame meets 4 and 5 in the table's order, and then 6
unfoldable pub frame_stop : Receiver → List ℕ → Answer
frame_stop x frame = first_of (header_table 1 x.settings frame ++ gap_table x frame)
