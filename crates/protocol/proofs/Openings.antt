-- An opening at any slot, and document 01's: `openings`, whose statement is `Openings` of specs/Opening.antt.
use Rattle.std.specs.Prelude.{Ok, Err}
use mathlib.Core.Path.{◌≡◌, refl, ◌∙◌}
use mathlib.Core.List.{List}
use Prim.Native.Nat.{ℕ, ◌+◌, ◌≤◌, ◌<◌, zero-le}
use native.Mathlib.Omega.{arith}
use lib.Dec.{T}
use lib.ListN.{length}
use borrow.Author.Tests.{le-ltb}
use Rattle.code.specs.declared.settings.Settings.{Settings}
use Rattle.code.specs.Settings.{accepted, delay_of}
use Rattle.protocol.specs.Answers.{Answer}
use Rattle.protocol.specs.Lengths.{last_slot, row_count, receiver_len}
use Rattle.protocol.specs.Rows.{joined}
use Rattle.protocol.specs.Causes.{open_cause, open_receiver_cause}
use Rattle.protocol.specs.Numbers.{reply_number}
use Rattle.protocol.specs.Calls.{received_zeros, opened_rows, OpenedReceiver, open_receiver_of, Reported}
use Rattle.protocol.specs.TwoLists.{Report, report_of}
use Rattle.protocol.specs.Histories.{accepts, lost_since}
use Rattle.protocol.specs.Meaning.{in_time, Tells}
use Rattle.protocol.specs.Opening.{first_row, open_from_start, Openings}
use Rattle.protocol.proofs.Rings.{joined_same}
use Rattle.protocol.proofs.CauseTables.{OpensAt}
use Rattle.protocol.proofs.OpenedRows.{by_rows, begins}
use Rattle.protocol.proofs.ReportChain.{opened_receiver_lem}
use Rattle.protocol.proofs.ReportMeaning.{demand2_verdict}

-- ---- at slot 0

start_rows : (s : Settings) → opened_rows s 0 ≡ joined (row_count s) (λ r. received_zeros s)
unfolding first_row
start_rows s = by_rows s 0 ∙ joined_same (row_count s) (first_row s 0) (λ r. received_zeros s) (λ r hr. rw (le-ltb r 0 zero-le))

start_cause : (s : Settings) (rows : List ℕ) → open_receiver_cause s 0 rows ≡ open_cause s (receiver_len s) rows
unfolding open_receiver_cause open_cause last_slot
start_cause s rows = refl

from_start : (s : Settings) (rows : List ℕ) (a : Answer) → open_cause s (receiver_len s) rows ≡ a → open_receiver_of s 0 rows
    ≡ open_from_start s rows
unfolding open_receiver_of open_from_start
from_start s rows (Ok tt) e = rw (start_cause s rows ∙ e, e, open_receiver_of, open_from_start, start_rows s)
from_start s rows (Err c) e = rw (start_cause s rows ∙ e, e, open_receiver_of, open_from_start)

-- ---- the first report

first_told : (s : Settings) → T (accepted s) → (t : ℕ) → t + delay_of s ≤ last_slot → (rows : List ℕ) → length rows ≡ receiver_len s
    → (call : Report)
    → let b : OpenedReceiver = open_receiver_of s (t + delay_of s) rows in
    let r : Reported = report_of b.receiver b.rows call in
    T (accepts r.reply) → Tells s (in_time s r.rows t) r.reply r.message × (reply_number r.reply ≡ 16 → ⊥)
first_told s ok t in_time_lem rows exact call =
    let slot : ℕ = t + delay_of s in
    let opens : OpensAt s slot rows = record { settings = ok; exact = exact; in_time_lem = in_time_lem } in
    rw (opened_receiver_lem s slot rows opens)
    (λ passed.
    let report = demand2_verdict.by_rows _ (opened_rows s slot) call passed in
    (report.tells t refl, λ none. let early : t + delay_of s < delay_of s = report.none_yet.0 none in omega arith))

-- ---- all of it

pub openings : Openings
unfolding lost_since
openings = record {
  by_slots = λ s slot σ j low high hj. begins s slot σ j low high hj;
  by_rows = by_rows;
  from_start = λ s rows. from_start s rows (open_cause s (receiver_len s) rows) refl;
  no_loss_before = λ lost t. rw (le-ltb t 0 zero-le);
  first_told = first_told;
}
