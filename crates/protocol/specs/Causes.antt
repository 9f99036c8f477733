-- Document 01, "Why a call says no", and document 02: the causes, their numbers, the table of each call in the order of checking, and
-- the first that holds.
use Rattle.std.specs.Prelude.{Bool, true, false, not, ◌||◌, List, [], ◌∷◌, ◌++◌, ℕ, eqb, ltb, ℤ, pos, ◌-ℤ◌, get_or, length, drop, Ok, Err}
use Rattle.std.specs.Int.Signed.{lt_z, le_z}
use Rattle.galois.specs.Bounded.{every}
use Rattle.code.specs.declared.settings.Settings.{Settings}
use Rattle.code.specs.Settings.{accepted, delay_of}
use Rattle.protocol.specs.declared.Sender.{Sender}
use Rattle.protocol.specs.declared.Receiver.{Receiver}
use Rattle.protocol.specs.declared.Cause.{Cause}
use Rattle.protocol.specs.declared.Cause.TheVariants.{BadSettings, BadLength, PastLastSlot, OtherMark, OtherSettings, OtherSlot}
use Rattle.protocol.specs.declared.Cause.TheVariants.{LateOpening, OutOfReach}
use Rattle.protocol.specs.Answers.{Answer}
use Rattle.protocol.specs.Lengths.{last_slot, sender_len, receiver_len, exactly, exactly_framed}
use Rattle.protocol.specs.Frame.{mark, five, slot_bytes}

-- the papers' number for each cause
abbrev pub number_of : Cause → ℕ
number_of BadSettings = 1
number_of BadLength = 2
number_of PastLastSlot = 3
number_of OtherMark = 4
number_of OtherSettings = 5
number_of OtherSlot = 6
number_of LateOpening = 7
number_of OutOfReach = 8

-- refused for the cause c where its condition holds, else what the rest of the table says
abbrev pub check : Bool → Cause → Answer → Answer
check true c rest = Err c
check false c rest = rest

-- a row of a call's table: its condition, and the cause
pub record Row : Type 0 where
  pub holds : Bool
  pub why : Cause

abbrev pub row : Bool → Cause → Row
row condition c = record { holds = condition; why = c }

-- the table read from the top: refused for the first cause that holds, if there is one
abbrev pub first_of : List Row → Answer
first_of [] = Ok tt
first_of (r ∷ rs) = check r.holds r.why (first_of rs)

-- two lists agree at the first m places
unfoldable pub agree : ℕ → List ℕ → List ℕ → Bool
agree m a b = every m (λ i. eqb (get_or a i 0) (get_or b i 0))

-- an opening meets 1 and 2; size is the length of its end's rows
abbrev pub open_table : Settings → ℕ → List ℕ → List Row
open_table s size rows = row (not (accepted s)) BadSettings ∷ row (not (eqb (length rows) size)) BadLength ∷ []

-- that of a receiver at this slot meets 7 as well
abbrev pub open_receiver_table : Settings → ℕ → List ℕ → List Row
open_receiver_table s slot rows = open_table s (receiver_len s) rows ++ (row (ltb last_slot slot) LateOpening ∷ [])

-- every call in a slot meets 1, 2 and 3; exact says that what is lent has its lengths
abbrev pub slot_table : Settings → Bool → ℕ → List Row
slot_table s exact due =
    row (not (accepted s)) BadSettings
    ∷ row (not exact) BadLength
    ∷ row (ltb last_slot due) PastLastSlot
    ∷ []

-- a send meets no others
abbrev pub send_table : Sender → List ℕ → List ℕ → List ℕ → List Row
send_table x rows message frame =
    let s = x.settings in
    slot_table s (exactly_framed s (sender_len s) (length rows) (length message) (length frame)) x.due

-- nor does a loss report
abbrev pub loss_table : Receiver → List ℕ → List ℕ → List Row
loss_table x rows message = let s = x.settings in slot_table s (exactly s (receiver_len s) (length rows) (length message)) x.due

-- a message below the slot due less T: its last slot is past
abbrev pub too_old : Settings → ℕ → ℤ → Bool
too_old s due number = lt_z number (pos due -ℤ pos (delay_of s))

-- one that is not below the slot due: its own slot is still to come
abbrev pub too_new : ℕ → ℤ → Bool
too_new due number = le_z (pos due) number

-- no look-up tells of such a message, nor of one below 0
unfoldable pub out_of_reach : Settings → ℕ → ℤ → Bool
out_of_reach s due number = too_old s due number || lt_z number (pos 0) || too_new due number

-- the look-up of a message by its number meets what a loss report does, and 8
abbrev pub look_up_table : Receiver → List ℕ → ℤ → List ℕ → List Row
look_up_table x rows number message = loss_table x rows message ++ (row (out_of_reach x.settings x.due number) OutOfReach ∷ [])

-- a frame meets 4 and 5, for this version and these settings
abbrev pub header_table : ℕ → Settings → List ℕ → List Row
header_table version s frame =
    row (not (agree 5 frame (mark version))) OtherMark
    ∷ row (not (agree 5 (drop 5 frame) (five s))) OtherSettings
    ∷ []

-- the report of a frame of this version meets all of them, with 6 as the last
abbrev pub frame_table_of : ℕ → Receiver → List ℕ → List ℕ → List ℕ → List Row
frame_table_of version x rows frame message =
    let s = x.settings in
    slot_table s (exactly_framed s (receiver_len s) (length rows) (length message) (length frame)) x.due
    ++ header_table version s frame
    ++ (row (not (agree 4 (drop 10 frame) (slot_bytes x.due))) OtherSlot ∷ [])

-- frames are of version 1
abbrev pub frame_table : Receiver → List ℕ → List ℕ → List ℕ → List Row
frame_table = frame_table_of 1

-- what each table says
unfoldable pub open_cause : Settings → ℕ → List ℕ → Answer
open_cause s size rows = first_of (open_table s size rows)

unfoldable pub open_receiver_cause : Settings → ℕ → List ℕ → Answer
open_receiver_cause s slot rows = first_of (open_receiver_table s slot rows)

unfoldable pub slot_cause : Settings → Bool → ℕ → Answer
slot_cause s exact due = first_of (slot_table s exact due)

unfoldable pub send_cause : Sender → List ℕ → List ℕ → List ℕ → Answer
send_cause x rows message frame = first_of (send_table x rows message frame)

unfoldable pub loss_cause : Receiver → List ℕ → List ℕ → Answer
loss_cause x rows message = first_of (loss_table x rows message)

unfoldable pub look_up_cause : Receiver → List ℕ → ℤ → List ℕ → Answer
look_up_cause x rows number message = first_of (look_up_table x rows number message)

unfoldable pub header_cause : ℕ → Settings → List ℕ → Answer
header_cause version s frame = first_of (header_table version s frame)

unfoldable pub frame_cause_of : ℕ → Receiver → List ℕ → List ℕ → List ℕ → Answer
frame_cause_of version x rows frame message = first_of (frame_table_of version x rows frame message)

abbrev pub frame_cause : Receiver → List ℕ → List ℕ → List ℕ → Answer
frame_cause = frame_cause_of 1
