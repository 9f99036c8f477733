-- Document 01, "Playing a recording": the bytes that are printed for the bytes of a recording.
use Rattle.std.specs.Prelude.{true, false, List, [], ◌∷◌, ◌++◌, ℕ, zero, suc, ◌-◌, ◌/◌, eqb, length, take, drop, replicate, Ok, Err}
use Rattle.code.specs.declared.settings.Settings.{Settings}
use Rattle.protocol.specs.declared.Receiver.{Receiver}
use Rattle.protocol.specs.Lengths.{message_len, frame_len, receiver_len}
use Rattle.protocol.specs.Calls.{OpenedReceiver, open_receiver_of, Reported, message_due, loss_of, heard_of}
use Rattle.lines.specs.Text.{stop_line, line_of}
use Rattle.frames.specs.Fields.{settings_in, slot_in}
use Rattle.stops.specs.Stops.{recording_cause, frame_stop}
use Rattle.progress.specs.Refusal.{refuses}

-- ---- the frames

-- frames of one length, back to back
unfoldable pub pieces : ℕ → ℕ → List ℕ → List (List ℕ)
pieces zero size recording = []
pieces (suc m) size recording = take size recording ∷ pieces m size (drop size recording)

-- ---- the reports

-- what is printed from here on, by the receiver, its rows and the message buffer
abbrev pub Rest : Type 0
Rest = Receiver → List ℕ → List ℕ → List ℕ

-- a report of the slot due: its line, and what comes after it; at a refusal the line of `stop`, and the end
unfoldable pub and_then : Receiver → Reported → Rest → List ℕ
and_then x r rest =
    line_of (message_due x.settings x.due) r.reply r.message
    ++ elim (refuses r.reply) [ true ↦ [] | false ↦ rest r.receiver r.rows r.message ]

-- slots skipped are losses
unfoldable pub skipped : ℕ → Rest → Rest
skipped zero rest x rows message = rest x rows message
skipped (suc m) rest x rows message = and_then x (loss_of x rows message) (skipped m rest)

-- only a frame that passes has its skipped slots reported as losses, and is then reported itself
unfoldable pub played : List (List ℕ) → Rest
played [] x rows message = []
played (frame ∷ frames) x rows message =
    elim (frame_stop x frame) [
      | Err c ↦ stop_line c
      | Ok tt ↦
          skipped (slot_in frame - x.due) (λ y rows' message'. and_then y (heard_of y rows' frame message') (played frames)) x rows message
    ]

-- a recording that passes, played by a receiver that is opened for it at slot 0
unfoldable pub played_from : Settings → List ℕ → List ℕ
played_from s recording =
    let opened : OpenedReceiver = open_receiver_of s 0 (replicate (receiver_len s) 0) in
    played (pieces (length recording / frame_len s) (frame_len s) recording) opened.receiver opened.rows (replicate (message_len s) 0)

-- what a recording prints; an empty one prints nothing
unfoldable pub transcript : List ℕ → List ℕ
transcript recording =
    elim (eqb (length recording) 0) [
      | true ↦ []
      | false ↦ elim (recording_cause recording) [
        | Err c ↦ stop_line c
        | Ok tt ↦ played_from (settings_in recording) recording
      ]
    ]
