-- The state that the static library's callers keep between calls, as 20 bytes.
use Rattle.std.specs.Prelude.{Bool, cond, not, ◌||◌, List, [], ◌∷◌, ◌++◌, ℕ, eqb, length}
use Rattle.code.specs.declared.settings.Settings.{Settings}
use Rattle.code.specs.Settings.{accepted}
use Rattle.protocol.specs.declared.Sender.{Sender}
use Rattle.protocol.specs.declared.Receiver.{Receiver}
use Rattle.protocol.specs.declared.Cause.TheVariants.{BadSettings, BadLength}
use Rattle.protocol.specs.States.{sender_at, receiver_at}
use Rattle.protocol.specs.Frame.{five, slot_bytes}
use Rattle.protocol.specs.Answers.{Answer}
use Rattle.protocol.specs.Causes.{Row, row, first_of, agree}
use Rattle.frames.specs.Fields.{settings_at, slot_at}

-- ---- what is written

-- the letter of the end that the state is of: `S` for a sender
abbrev pub sender_end : ℕ
sender_end = 0x53

-- and `R` for a receiver
abbrev pub receiver_end : ℕ
receiver_end = 0x52

-- the mark of a state: `TOB` and the end's letter
abbrev pub mark_of : ℕ → List ℕ
mark_of end = 0x54 ∷ 0x4f ∷ 0x42 ∷ end ∷ []

-- the bytes that keep nothing yet: room for a version, the parts gathered and their count
abbrev pub spare : List ℕ
spare = 0 ∷ 0 ∷ 0 ∷ []

-- a state: its mark, W, T, B, N and L, the slot due and the opening slot, high byte first, and the spare bytes
unfoldable pub state_bytes : ℕ → Settings → ℕ → ℕ → List ℕ
state_bytes end s due opening = mark_of end ++ five s ++ slot_bytes due ++ slot_bytes opening ++ spare

-- the state of this sender, which has no opening slot but 0, and of this receiver
abbrev pub sender_bytes : Sender → List ℕ
sender_bytes x = state_bytes sender_end x.settings x.due 0

abbrev pub receiver_bytes : Receiver → List ℕ
receiver_bytes x = state_bytes receiver_end x.settings x.due x.opening

-- a state's length, of either end
abbrev pub state_len : ℕ
state_len = 20

-- the state after a call: these bytes where the call was taken, else as it was
abbrev pub saved : Bool → List ℕ → List ℕ → List ℕ
saved taken bytes state = cond taken bytes state

-- ---- what is read; the other bytes are not looked at

-- the sender that a state keeps
unfoldable pub sender_in : List ℕ → Sender
sender_in state = sender_at (settings_at 4 state) (slot_at 9 state)

-- the receiver that a state keeps
unfoldable pub receiver_in : List ℕ → Receiver
receiver_in state = receiver_at (settings_at 4 state) (slot_at 13 state) (slot_at 9 state)

-- ---- what a state is refused for

-- the causes that a state's bytes give, before those that the call finds in what they keep: at another length no settings can be read, so
-- that is 2; with another mark it holds no settings of this end, so that is 1
abbrev pub state_table : ℕ → List ℕ → List Row
state_table end state =
    row (not (eqb (length state) state_len)) BadLength
    ∷ row (not (agree 4 state (mark_of end))) BadSettings
    ∷ []

unfoldable pub state_cause : ℕ → List ℕ → Answer
state_cause end state = first_of (state_table end state)

-- bytes that begin with the mark of either end
unfoldable pub either_mark : List ℕ → Bool
either_mark state = agree 4 state (mark_of sender_end) || agree 4 state (mark_of receiver_end)

-- bytes whose slot due is to be read: another length is 2; with no mark of either end, or settings that are not accepted, they are no
-- state, and that is 1
abbrev pub due_read_table : List ℕ → List Row
due_read_table state =
    row (not (eqb (length state) state_len)) BadLength
    ∷ row (not (either_mark state)) BadSettings
    ∷ row (not (accepted (settings_at 4 state))) BadSettings
    ∷ []

unfoldable pub due_read_cause : List ℕ → Answer
due_read_cause state = first_of (due_read_table state)
