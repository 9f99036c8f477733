-- Demand 1 of the static library, as one statement: a call replies with a cause's number exactly if that cause is the first of its table
-- that holds, and then it changes no lent byte. In which order the tables stand is said beside it, and what the check of a pair refuses.
use Rattle.std.specs.Prelude.{◌≡◌, Bool, true, not, ◌&&◌, ◌≢◌, ◌↔◌, List, [], ◌∷◌, ℕ, T, eqb, leb, ℤ, length}
use Rattle.code.specs.declared.settings.Settings.{Settings}
use Rattle.protocol.specs.declared.Cause.{Cause}
use Rattle.protocol.specs.declared.Cause.TheVariants.{BadLength}
use Rattle.protocol.specs.Lengths.{sender_len}
use Rattle.protocol.specs.Causes.{number_of, Row, row}
use Rattle.protocol.specs.Refusals.{First, in_order}
use Rattle.library.specs.Causes.{open_bytes_table, open_receiver_bytes_table, send_bytes_table, heard_bytes_table, lost_bytes_table}
use Rattle.library.specs.Causes.{look_up_bytes_table}
use Rattle.library.specs.Calls.{settings_of, Opening, open_sender_bytes, open_receiver_bytes, Sending, send_bytes}
use Rattle.frames.specs.Fields.{slot_read_table}
use Rattle.aerials.specs.Tables.{Numbered, FirstHolds}
use Rattle.aerials.specs.Pair.{pair_table}
use Rattle.aerials.specs.Meaning as pairs
use Rattle.state.specs.State.{state_len, due_read_table}
use Rattle.library.specs.Calls.{Reporting, heard_bytes, lost_bytes, Looking, look_up_bytes, Reading, slot_due_bytes, frame_slot_bytes}
use Rattle.library.specs.Calls.{pair_bytes}

-- a call with this table that gave this number: it is a cause's number exactly if that cause is the first that holds, and then all stays
pub record RefusesBytes (table : List Row) (number : ℕ) (Stays : Type 0) : Type 0 where
  pub first : (c : Cause) → (number ≡ number_of c) ↔ First c table
  pub stays : (c : Cause) → number ≡ number_of c → Stays

-- demand 1, of each of the eight calls, with any bytes at all lent to it
pub record Demand1Bytes : Type 0 where
  pub open_sender : (settings state rows : List ℕ)
      → let s : Settings = settings_of settings in
      let r : Opening = open_sender_bytes settings state rows in
      RefusesBytes (open_bytes_table s (sender_len s) state rows) r.reply ((r.state ≡ state) × (r.rows ≡ rows))
  pub open_receiver : (settings : List ℕ) (slot : ℕ) (state rows : List ℕ)
      → let s : Settings = settings_of settings in
      let r : Opening = open_receiver_bytes settings slot state rows in
      RefusesBytes (open_receiver_bytes_table s slot state rows) r.reply ((r.state ≡ state) × (r.rows ≡ rows))
  pub send : (state rows message frame : List ℕ)
      → let r : Sending = send_bytes state rows message frame in
      RefusesBytes (send_bytes_table state rows message frame) r.reply
      ((r.state ≡ state) × (r.rows ≡ rows) × (r.frame ≡ frame))
  pub heard : (state rows frame message : List ℕ)
      → let r : Reporting = heard_bytes state rows frame message in
      RefusesBytes (heard_bytes_table state rows frame message) r.reply
      ((r.state ≡ state) × (r.rows ≡ rows) × (r.message ≡ message))
  pub lost : (state rows message : List ℕ)
      → let r : Reporting = lost_bytes state rows message in
      RefusesBytes (lost_bytes_table state rows message) r.reply
      ((r.state ≡ state) × (r.rows ≡ rows) × (r.message ≡ message))
  pub look_up : (state rows : List ℕ) (number : ℤ) (message : List ℕ)
      → let r : Looking = look_up_bytes state rows number message in
      RefusesBytes (look_up_bytes_table state rows number message) r.reply (r.message ≡ message)
  pub slot_due : (state : List ℕ) (slot : ℕ)
      → let r : Reading = slot_due_bytes state slot in
      RefusesBytes (due_read_table state) r.reply (r.slot ≡ slot)
  pub frame_slot : (frame : List ℕ) (slot : ℕ)
      → let r : Reading = frame_slot_bytes frame slot in
      RefusesBytes (slot_read_table frame) r.reply (r.slot ≡ slot)

-- ---- in which order

-- by the papers' numbers
abbrev pub ByNumber : List Row → Type 0
ByNumber table = T (in_order 0 table)

-- numbers that never fall, from n on: the rows of one cause stand together
abbrev pub never_falls : ℕ → List Row → Bool
never_falls n [] = true
never_falls n (r ∷ rs) = leb n (number_of r.why) && never_falls (number_of r.why) rs

-- for a call that starts from a state: the state's own length, which is 2, stands at the top, and behind it the numbers never fall. There 1
-- has two rows, the state's mark and its settings
abbrev pub LengthFirst : List ℕ → List Row → Type 0
LengthFirst state table =
    (rest : List Row) × (table ≡ row (not (eqb (length state) state_len)) BadLength ∷ rest) × T (never_falls 1 rest)

-- the table of each of the eight calls
pub record TablesInOrder : Type 0 where
  pub open_sender : (settings state rows : List ℕ)
      → ByNumber (open_bytes_table (settings_of settings) (sender_len (settings_of settings)) state rows)
  pub open_receiver : (settings : List ℕ) (slot : ℕ) (state rows : List ℕ)
      → ByNumber (open_receiver_bytes_table (settings_of settings) slot state rows)
  pub send : (state rows message frame : List ℕ) → LengthFirst state (send_bytes_table state rows message frame)
  pub heard : (state rows frame message : List ℕ) → LengthFirst state (heard_bytes_table state rows frame message)
  pub lost : (state rows message : List ℕ) → LengthFirst state (lost_bytes_table state rows message)
  pub look_up : (state rows : List ℕ) (number : ℤ) (message : List ℕ) → LengthFirst state (look_up_bytes_table state rows number message)
  pub slot_due : (state : List ℕ) → LengthFirst state (due_read_table state)
  pub frame_slot : (frame : List ℕ) → ByNumber (slot_read_table frame)

-- ---- the check of a pair

-- it has everything lent to read and changes none of it: its number is a cause's exactly if that cause is the first of its table that holds
pub record RefusesPair (table : List Numbered) (number : ℕ) : Type 0 where
  pub order : T (pairs.in_order 0 table)
  pub first : (n : ℕ) → n ≢ 0 → (number ≡ n) ↔ FirstHolds n table

-- with any bytes at all lent to it
unfoldable pub PairRefuses : Type 0
PairRefuses =
    (settings first second : List ℕ) → RefusesPair (pair_table (settings_of settings) first second) (pair_bytes settings first second)
