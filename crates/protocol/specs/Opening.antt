-- Document 02 §3, as one statement about openings at any slot: the rows by slots and by rows, what the first report tells, and that the
-- opening at slot 0 is document 01's.
use Rattle.std.specs.Prelude.{◌≡◌, Bool, cond, List, ℕ, ◌+◌, ◌*◌, ◌%◌, ◌≤◌, ◌<◌, T, ltb, length, get_or, replicate, Ok, Err}
use Rattle.code.specs.declared.settings.Settings.{Settings}
use Rattle.code.specs.Settings.{accepted, delay_of}
use Rattle.protocol.specs.Lengths.{last_slot, row_len, row_count, receiver_len}
use Rattle.protocol.specs.States.{receiver_at, no_receiver}
use Rattle.protocol.specs.Rows.{joined}
use Rattle.protocol.specs.Causes.{open_cause}
use Rattle.protocol.specs.Numbers.{reply_number}
use Rattle.protocol.specs.Calls.{received_zeros, row_before, opened_rows, OpenedReceiver, open_receiver_of, Reported}
use Rattle.protocol.specs.TwoLists.{Report, report_of}
use Rattle.protocol.specs.Histories.{accepts, lost_since}
use Rattle.protocol.specs.Meaning.{in_time, Tells}

-- row r after an opening at this slot: lost exactly if r is below it
unfoldable pub first_row : Settings → ℕ → ℕ → List ℕ
first_row s slot r = cond (ltb r slot) (replicate (row_len s) 0) (received_zeros s)

-- document 01's opening: slot 0 is due, and the rows are received zeros
unfoldable pub open_from_start : Settings → List ℕ → OpenedReceiver
open_from_start s rows =
    elim (open_cause s (receiver_len s) rows) [
      | Ok tt ↦ record {
        answer = Ok tt;
        receiver = receiver_at s 0 0;
        rows = joined (row_count s) (λ r. received_zeros s);
      }
      | Err c ↦ record { answer = Err c; receiver = no_receiver; rows = rows }
    ]

-- what holds of an opening at any slot
pub record Openings : Type 0 where
  -- by slots: each of the last k + T slots before it has its row; σ counts from the (k + T)th before slot 0 on
  pub by_slots : (s : Settings) (slot σ j : ℕ) → slot ≤ σ → σ < slot + row_count s → j < row_len s
      → get_or (opened_rows s slot) (σ % row_count s * row_len s + j) 0 ≡ get_or (row_before s σ) j 0
  -- the same by rows: row r is lost exactly if r is below the slot
  pub by_rows : (s : Settings) (slot : ℕ) → opened_rows s slot ≡ joined (row_count s) (first_row s slot)
  -- at slot 0 it is document 01's, whatever is lent, and then no slot counts as a loss but those that were lost
  pub from_start : (s : Settings) (rows : List ℕ) → open_receiver_of s 0 rows ≡ open_from_start s rows
  pub no_loss_before : (lost : ℕ → Bool) (t : ℕ) → lost_since 0 lost t ≡ lost t
  -- opened at slot t + T, its first accepted report tells of message t, from before the opening, and not that there is none yet
  pub first_told : (s : Settings) → T (accepted s) → (t : ℕ) → t + delay_of s ≤ last_slot
      → (rows : List ℕ) → length rows ≡ receiver_len s → (call : Report)
      → let b : OpenedReceiver = open_receiver_of s (t + delay_of s) rows in
      let r : Reported = report_of b.receiver b.rows call in
      T (accepts r.reply) → Tells s (in_time s r.rows t) r.reply r.message × (reply_number r.reply ≡ 16 → ⊥)
