-- Document 02 §7, a pair played at the bench: the bytes that are printed for the bytes of two recordings. They are the lines of a receiver
-- that is opened at slot 0 and fed from the pair, up to the last slot that either has.
use Rattle.std.specs.Prelude.{Bool, true, false, List, [], ℕ, zero, suc, ◌+◌, max, eqb, ltb, length, replicate}
use Rattle.galois.specs.Bounded.{every}
use Rattle.code.specs.declared.settings.Settings.{Settings}
use Rattle.protocol.specs.declared.Cause.TheVariants.{OtherSlot}
use Rattle.protocol.specs.Lengths.{message_len, receiver_len}
use Rattle.protocol.specs.Calls.{OpenedReceiver, open_receiver_of}
use Rattle.protocol.specs.TwoLists.{report_of}
use Rattle.frames.specs.Fields.{settings_in}
use Rattle.aerials.specs.Pair.{frames_in, slot_of, pair_cause}
use Rattle.feeding.specs.Fed.{lent, fed_by, neither}
use Rattle.lines.specs.Text.{stop_text, stop_line}
use Rattle.player.specs.Transcript.{Rest, and_then}

-- ---- before any line

-- the settings are those of the first frame of the first recording that is not empty
unfoldable pub shown_by : List ℕ → List ℕ → List ℕ
shown_by first second = elim (eqb (length first) 0) [ true ↦ second | false ↦ first ]

-- that recording has no settings to show where it is shorter than 14 bytes, which is 2; else the pair is checked with them
unfoldable pub pair_stop : List ℕ → List ℕ → ℕ
pair_stop first second =
    let shown : List ℕ = shown_by first second in
    elim (ltb (length shown) 14) [ true ↦ 2 | false ↦ pair_cause (settings_in shown) first second ]

-- ---- the slots

-- how many slots there are up to the last one that a recording has
unfoldable pub slots_in : Settings → List ℕ → ℕ
slots_in s recording = elim (frames_in s recording) [ zero ↦ 0 | suc n ↦ slot_of s recording n + 1 ]

-- that either has
unfoldable pub slots_of : Settings → List ℕ → List ℕ → ℕ
slots_of s first second = max (slots_in s first) (slots_in s second)

-- more than 4,095 slots in a row, from this one on, that neither has
unfoldable pub silent : Settings → List ℕ → List ℕ → ℕ → Bool
silent s first second slot = every 4096 (λ i. neither s first second (slot + i))

-- ---- the lines

-- what is printed of the next m slots: the report of the slot due by what the pair lends for it; where too many slots in a row are in
-- neither recording, with a frame after them, they are not reported, and 6 is the end
unfoldable pub fed_on : Settings → List ℕ → List ℕ → ℕ → Rest
fed_on s first second zero x rows message = []
fed_on s first second (suc m) x rows message =
    elim (silent s first second x.due) [
      | true ↦ stop_line OtherSlot
      | false ↦ and_then x (report_of x rows (fed_by (lent s first second x.due) message)) (fed_on s first second m)
    ]

-- an accepted pair, played by a receiver that is opened for it at slot 0
unfoldable pub pair_played : Settings → List ℕ → List ℕ → List ℕ
pair_played s first second =
    let opened : OpenedReceiver = open_receiver_of s 0 (replicate (receiver_len s) 0) in
    fed_on s first second (slots_of s first second) opened.receiver opened.rows (replicate (message_len s) 0)

-- what a pair prints; two empty recordings print nothing
unfoldable pub pair_transcript : List ℕ → List ℕ → List ℕ
pair_transcript first second =
    elim (eqb (length first + length second) 0) [
      | true ↦ []
      | false ↦ elim (pair_stop first second) [
        | zero ↦ pair_played (settings_in (shown_by first second)) first second
        | suc n ↦ stop_text (suc n)
      ]
    ]
