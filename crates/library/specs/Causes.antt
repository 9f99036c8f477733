-- Why a call of the static library says no: the papers' causes, a table for each call in the order of checking. A call that starts from a
-- state meets the causes of the state's bytes first, and then those of protocol's call on what they keep.
use Rattle.std.specs.Prelude.{not, ◌&&◌, List, [], ◌∷◌, ◌++◌, ℕ, eqb, ltb, ℤ, length}
use Rattle.code.specs.declared.settings.Settings.{Settings}
use Rattle.code.specs.Settings.{accepted}
use Rattle.protocol.specs.Lengths.{last_slot, receiver_len}
use Rattle.protocol.specs.declared.Cause.TheVariants.{BadSettings, BadLength, LateOpening}
use Rattle.protocol.specs.Answers.{Answer}
use Rattle.protocol.specs.Causes.{Row, row, first_of, send_table, loss_table, frame_table, look_up_table}
use Rattle.state.specs.State.{sender_end, receiver_end, state_len, sender_in, receiver_in, state_table}

-- an opening meets 1, and then 2 for the state or the rows
abbrev pub open_bytes_table : Settings → ℕ → List ℕ → List ℕ → List Row
open_bytes_table s size state rows =
    row (not (accepted s)) BadSettings
    ∷ row (not (eqb (length state) state_len && eqb (length rows) size)) BadLength
    ∷ []

-- that of a receiver at this slot meets 7 as well
abbrev pub open_receiver_bytes_table : Settings → ℕ → List ℕ → List ℕ → List Row
open_receiver_bytes_table s slot state rows = open_bytes_table s (receiver_len s) state rows ++ (row (ltb last_slot slot) LateOpening ∷ [])

-- a send
abbrev pub send_bytes_table : List ℕ → List ℕ → List ℕ → List ℕ → List Row
send_bytes_table state rows message frame = state_table sender_end state ++ send_table (sender_in state) rows message frame

-- the report of a frame
abbrev pub heard_bytes_table : List ℕ → List ℕ → List ℕ → List ℕ → List Row
heard_bytes_table state rows frame message = state_table receiver_end state ++ frame_table (receiver_in state) rows frame message

-- the report of a loss
abbrev pub lost_bytes_table : List ℕ → List ℕ → List ℕ → List Row
lost_bytes_table state rows message = state_table receiver_end state ++ loss_table (receiver_in state) rows message

-- a look-up
abbrev pub look_up_bytes_table : List ℕ → List ℕ → ℤ → List ℕ → List Row
look_up_bytes_table state rows number message = state_table receiver_end state ++ look_up_table (receiver_in state) rows number message

-- what each table says
unfoldable pub open_bytes_cause : Settings → ℕ → List ℕ → List ℕ → Answer
open_bytes_cause s size state rows = first_of (open_bytes_table s size state rows)

unfoldable pub open_receiver_bytes_cause : Settings → ℕ → List ℕ → List ℕ → Answer
open_receiver_bytes_cause s slot state rows = first_of (open_receiver_bytes_table s slot state rows)

unfoldable pub send_bytes_cause : List ℕ → List ℕ → List ℕ → List ℕ → Answer
send_bytes_cause state rows message frame = first_of (send_bytes_table state rows message frame)

unfoldable pub heard_bytes_cause : List ℕ → List ℕ → List ℕ → List ℕ → Answer
heard_bytes_cause state rows frame message = first_of (heard_bytes_table state rows frame message)

unfoldable pub lost_bytes_cause : List ℕ → List ℕ → List ℕ → Answer
lost_bytes_cause state rows message = first_of (lost_bytes_table state rows message)

unfoldable pub look_up_bytes_cause : List ℕ → List ℕ → ℤ → List ℕ → Answer
look_up_bytes_cause state rows number message = first_of (look_up_bytes_table state rows number message)
