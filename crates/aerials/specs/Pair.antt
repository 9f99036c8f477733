-- Document 02 §7: two recordings of frames, of the first and of the second aerial, and the causes for which the pair is refused.
use Rattle.std.specs.Prelude.{Bool, not, ◌&&◌, ◌||◌, List, [], ◌∷◌, ℕ, suc, ◌-◌, ◌*◌, ◌/◌, ◌%◌, eqb, leb, ltb, length, take, drop, map}
use Rattle.galois.specs.Bounded.{any}
use Rattle.code.specs.declared.settings.Settings.{Settings}
use Rattle.code.specs.Settings.{accepted}
use Rattle.protocol.specs.Lengths.{frame_len}
use Rattle.protocol.specs.Frame.{mark, five}
use Rattle.protocol.specs.Causes.{agree}
use Rattle.frames.specs.Fields.{slot_in}
use Rattle.aerials.specs.declared.PairCause.TheVariants.{BadSettings, BadLength, OtherMark, OtherSettings, NotRising, Unlike}
use Rattle.aerials.specs.Tables.{Numbered, numbered, first_number}
use Rattle.aerials.specs.Causes.{Check, pair_number, PairRow, pair_row, first_cause}

-- ---- a recording: frames of one length, back to back

-- how many it has
unfoldable pub frames_in : Settings → List ℕ → ℕ
frames_in s recording = length recording / frame_len s

-- frame number i, from 0
unfoldable pub frame_of : Settings → List ℕ → ℕ → List ℕ
frame_of s recording i = take (frame_len s) (drop (i * frame_len s) recording)

-- its slot
unfoldable pub slot_of : Settings → List ℕ → ℕ → ℕ
slot_of s recording i = slot_in (frame_of s recording i)

-- some frame of it stands for this slot
unfoldable pub has : Settings → List ℕ → ℕ → Bool
has s recording slot = any (frames_in s recording) (λ i. eqb (slot_of s recording i) slot)

-- ---- what is wrong with it

-- longer than 64 KiB, or not a whole number of frames
unfoldable pub unfit : Settings → List ℕ → Bool
unfit s recording = ltb 65536 (length recording) || not (eqb (length recording % frame_len s) 0)

-- a frame's mark or version differs
unfoldable pub other_mark : Settings → List ℕ → Bool
other_mark s recording = any (frames_in s recording) (λ i. not (agree 5 (frame_of s recording i) (mark 1)))

-- a frame's W, T, B, N, L are others
unfoldable pub other_settings : Settings → List ℕ → Bool
other_settings s recording = any (frames_in s recording) (λ i. not (agree 5 (drop 5 (frame_of s recording i)) (five s)))

-- a slot is not above the one before it
unfoldable pub falling : Settings → List ℕ → Bool
falling s recording = any (frames_in s recording - 1) (λ i. leb (slot_of s recording (suc i)) (slot_of s recording i))

-- a slot where both have a frame, and a byte differs
unfoldable pub unlike : Settings → List ℕ → List ℕ → Bool
unlike s first second =
    any (frames_in s first) (λ i.
    any (frames_in s second) (λ j.
    eqb (slot_of s first i) (slot_of s second j) && not (agree (frame_len s) (frame_of s first i) (frame_of s second j))))

-- ---- the causes

-- in the order of checking, each looked for in both recordings before the next
abbrev pub pair_rows : Settings → List ℕ → List ℕ → List PairRow
pair_rows s first second =
    pair_row (not (accepted s)) BadSettings
    ∷ pair_row (unfit s first || unfit s second) BadLength
    ∷ pair_row (other_mark s first || other_mark s second) OtherMark
    ∷ pair_row (other_settings s first || other_settings s second) OtherSettings
    ∷ pair_row (falling s first || falling s second) NotRising
    ∷ pair_row (unlike s first second) Unlike
    ∷ []

-- the same by the causes' numbers
abbrev pub pair_table : Settings → List ℕ → List ℕ → List Numbered
pair_table s first second = map (λ r. numbered r.holds (pair_number r.why)) (pair_rows s first second)

-- the check of a pair: 0 where it is accepted, else the number of the first cause that holds
unfoldable pub pair_cause : Settings → List ℕ → List ℕ → ℕ
pair_cause s first second = first_number (pair_table s first second)

-- what it answers: the first cause that holds, if one does
unfoldable pub pair_check : Settings → List ℕ → List ℕ → Check
pair_check s first second = first_cause (pair_rows s first second)
