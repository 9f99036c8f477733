-- Document 01's example, computed from the definition: the reports go through elimination, which gives the same.
use Rattle.std.specs.Prelude.{Ok, Err}
use mathlib.Core.Path.{◌≡◌, refl, ap, ◌∙◌}
use mathlib.Core.Bool.{Bool, true, false, ◌&&◌}
use mathlib.Core.List.{List, [], ◌∷◌, ◌++◌}
use Prim.Native.Nat.{ℕ, zero, suc, ◌-◌, ◌/◌}
use lib.Dec.{T}
use lib.ListN.{length, replicate}
use Rattle.galois.proofs.Cases.{and_left, and_right, both_pass}
use Rattle.code.specs.declared.settings.Settings.{Settings}
use Rattle.code.specs.Settings.{accepted}
use Rattle.protocol.specs.declared.Receiver.{Receiver}
use Rattle.protocol.specs.Lengths.{message_len, frame_len, receiver_len}
use Rattle.protocol.specs.Calls.{OpenedReceiver, open_receiver_of, Reported, message_due, heard_of}
use Rattle.protocol.specs.TwoLists.{Report, heard, missed, report_of}
use Rattle.protocol.proofs.QuickVerdict.{quick_report, small, small_frames, quick_report_lem}
use Rattle.numbers.specs.Digits.{decimal, decimal_up_to}
use Rattle.lines.specs.Text.{stop_text, stop_line, line_of}
use Rattle.frames.specs.Fields.{settings_at, slot_at, settings_in, slot_in}
use Rattle.stops.specs.Stops.{recording_cause, frame_stop}
use Rattle.progress.specs.Refusal.{refuses}
use Rattle.player.specs.Transcript.{Rest, and_then, skipped, played, pieces, played_from, transcript}
use Rattle.figures.proofs.Computing.{computing}

-- ---- playing through elimination

quick_skipped : ℕ → Rest → Rest
quick_skipped zero rest x rows message = rest x rows message
quick_skipped (suc m) rest x rows message = and_then x (quick_report x rows (missed message)) (quick_skipped m rest)

unfoldable quick_played : List (List ℕ) → Rest
quick_played [] x rows message = []
quick_played (frame ∷ frames) x rows message =
    elim (frame_stop x frame) [
      | Err c ↦ stop_line c
      | Ok tt ↦
          quick_skipped (slot_in frame - x.due)
          (λ y rows' message'. and_then y (quick_report y rows' (heard frame message')) (quick_played frames)) x rows message
    ]

-- two ways to go on print the same, from any accepted settings and rows of bytes
Alike : Rest → Rest → Type 0
Alike f g = (x : Receiver) → T (accepted x.settings) → (rows : List ℕ) → T (small rows) → (message : List ℕ)
    → f x rows message ≡ g x rows message

-- a report, and then
then_alike : (f g : Rest) → Alike f g → (x : Receiver) → T (accepted x.settings) → (rows : List ℕ) → T (small rows)
    → (call : Report) → T (small_frames (call ∷ [])) → and_then x (report_of x rows call) f ≡ and_then x (quick_report x rows call) g
unfolding and_then Alike
then_alike f g alike x ok rows hs call h =
    let q : Reported = quick_report x rows call in
    let same = quick_report_lem x ok rows hs call h in
    let tail : Bool → List ℕ → List ℕ = λ b rest. elim b [ true ↦ [] | false ↦ rest ] in
    ap (λ (r : Reported). and_then x r f) same.0
    ∙ ap (λ (rest : List ℕ). line_of (message_due x.settings x.due) q.reply q.message ++ tail (refuses q.reply) rest)
    (alike q.receiver same.1.0 q.rows same.1.1 q.message)

skipped_alike : (m : ℕ) (f g : Rest) → Alike f g → Alike (skipped m f) (quick_skipped m g)
unfolding skipped quick_skipped Alike report_of small_frames
skipped_alike zero f g alike x ok rows hs message = alike x ok rows hs message
skipped_alike (suc m) f g alike x ok rows hs message =
    then_alike (skipped m f) (quick_skipped m g) (skipped_alike m f g alike) x ok rows hs (missed message) tt

-- frames of bytes
small_all : List (List ℕ) → Bool
small_all [] = true
small_all (frame ∷ frames) = small frame && small_all frames

module _ (frame : List ℕ) (bytes : T (small frame)) (frames : List (List ℕ)) (later : Alike (played frames) (quick_played frames)) where
  -- a frame, and then the rest
  abbrev slowly : Rest
  slowly y rows message = and_then y (heard_of y rows frame message) (played frames)

  abbrev quickly : Rest
  quickly y rows message = and_then y (quick_report y rows (heard frame message)) (quick_played frames)

  heard_alike : Alike slowly quickly
  unfolding Alike report_of small_frames
  heard_alike y ok rows hs message =
      then_alike (played frames) (quick_played frames) later y ok rows hs (heard frame message) (both_pass (small frame) true bytes tt)

  frame_alike : Alike (played (frame ∷ frames)) (quick_played (frame ∷ frames))
  unfolding played quick_played Alike
  frame_alike x ok rows hs message =
      ap (λ (rest : List ℕ). elim (frame_stop x frame) [ Err c ↦ stop_line c | Ok tt ↦ rest ])
      (skipped_alike (slot_in frame - x.due) slowly quickly heard_alike x ok rows hs message)

played_alike : (frames : List (List ℕ)) → T (small_all frames) → Alike (played frames) (quick_played frames)
unfolding played quick_played Alike small_all
played_alike [] h = λ x ok rows hs message. refl
played_alike (frame ∷ frames) h =
    frame_alike frame (and_left (small frame) (small_all frames) h) frames
    (played_alike frames (and_right (small frame) (small_all frames) h))

-- ---- the example

-- settings 4, 3, 2, 2, 1 and the frames for slots 2, 3, 4 of case 9
pub example : List ℕ
example =
    0x54 ∷ 0x4f ∷ 0x42 ∷ 0x00 ∷ 0x01 ∷ 0x04 ∷ 0x03 ∷ 0x02 ∷ 0x02 ∷ 0x01 ∷ 0x00 ∷ 0x00 ∷ 0x00 ∷ 0x02 ∷ 0x00 ∷ 0x00 ∷ 0x01 ∷ 0x00
    ∷ 0x54 ∷ 0x4f ∷ 0x42 ∷ 0x00 ∷ 0x01 ∷ 0x04 ∷ 0x03 ∷ 0x02 ∷ 0x02 ∷ 0x01 ∷ 0x00 ∷ 0x00 ∷ 0x00 ∷ 0x03 ∷ 0x00 ∷ 0x00 ∷ 0x00 ∷ 0x18
    ∷ 0x54 ∷ 0x4f ∷ 0x42 ∷ 0x00 ∷ 0x01 ∷ 0x04 ∷ 0x03 ∷ 0x02 ∷ 0x02 ∷ 0x01 ∷ 0x00 ∷ 0x00 ∷ 0x00 ∷ 0x04 ∷ 0x00 ∷ 0x00 ∷ 0x00 ∷ 0x00 ∷ []

-- `0 whole 0100` and `1 whole 0001`
pub example_lines : List ℕ
example_lines =
    48 ∷ 32 ∷ 119 ∷ 104 ∷ 111 ∷ 108 ∷ 101 ∷ 32 ∷ 48 ∷ 49 ∷ 48 ∷ 48 ∷ 10
    ∷ 49 ∷ 32 ∷ 119 ∷ 104 ∷ 111 ∷ 108 ∷ 101 ∷ 32 ∷ 48 ∷ 48 ∷ 48 ∷ 49 ∷ 10 ∷ []

-- what is printed for it, through elimination
quick_transcript : List ℕ
quick_transcript =
    let s : Settings = settings_in example in
    let opened : OpenedReceiver = open_receiver_of s 0 (replicate (receiver_len s) 0) in
    quick_played (pieces (length example / frame_len s) (frame_len s) example) opened.receiver opened.rows (replicate (message_len s) 0)

-- it is what the definition prints
quickly_printed : transcript example ≡ quick_transcript
unfolding computing transcript played_from quick_transcript Alike recording_cause settings_at pieces example small_all
quickly_printed =
    let s : Settings = settings_in example in
    let opened : OpenedReceiver = open_receiver_of s 0 (replicate (receiver_len s) 0) in
    played_alike (pieces 3 18 example) tt opened.receiver tt opened.rows tt (replicate (message_len s) 0)

-- computed, as document 01 prints it
computed : quick_transcript ≡ example_lines
unfolding computing quick_transcript example_lines quick_played quick_skipped and_then pieces settings_at slot_at frame_stop example
    line_of decimal decimal_up_to stop_text
computed = refl

pub example_printed : transcript example ≡ example_lines
example_printed = quickly_printed ∙ computed
