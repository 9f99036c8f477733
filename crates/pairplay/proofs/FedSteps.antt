-- The steps of an accepted pair, one after another, hand out what it prints, and end.
use mathlib.Core.Path.{◌≡◌, refl}
use mathlib.Core.Bool.{Bool, true, false}
use mathlib.Core.Logic.{⊎_elim}
use mathlib.Core.List.{List, ◌++◌, append-nil}
use Prim.Native.Nat.{ℕ, zero, suc, ◌+◌, ◌-◌, zero-le}
use native.Mathlib.Omega.{arith}
use lib.ListN.{length, replicate, length-replicate}
use Rattle.galois.proofs.Cases.{le_or_lt}
use Rattle.code.specs.declared.settings.Settings.{Settings}
use Rattle.protocol.specs.declared.Receiver.{Receiver}
use Rattle.protocol.specs.declared.Cause.TheVariants.{OtherSlot}
use Rattle.protocol.specs.Lengths.{message_len, receiver_len}
use Rattle.protocol.specs.States.{opened_receiver, reported_on}
use Rattle.protocol.specs.Calls.{opened_rows, Reported}
use Rattle.protocol.specs.TwoLists.{Report, report_of}
use Rattle.protocol.proofs.ReportChain.{opened_receiver_lem}
use Rattle.lines.proofs.TextLaws.{written_text}
use Rattle.std.specs.Prelude.{Some}
use Rattle.aerials.specs.Pair.{pair_cause}
use Rattle.aerials.specs.Next.{next_of}
use Rattle.aerials.proofs.PairLaws.{checked}
use Rattle.feeding.specs.Fed.{lent, fed_by}
use Rattle.progress.specs.declared.Player.{Player}
use Rattle.progress.specs.Refusal.{refuses}
use Rattle.reporting.specs.Acts.{Act, stop_act, report_act}
use Rattle.reporting.specs.Outcomes.{printed_on}
use Rattle.steps.specs.Steps.{begin_of, end_act}
use Rattle.steps.proofs.Acts.{player_at}
use Rattle.player.specs.Transcript.{Rest, and_then}
use Rattle.player.specs.Printed.{handed_out}
use Rattle.pairplay.specs.Transcript.{slots_of, fed_on, pair_played}
use Rattle.pairplay.specs.Steps.{pair_act, pair_step_of}
use Rattle.pairplay.specs.Printed.{PairSteps}
use Rattle.pairplay.proofs.Slots.{next_found, next_none, next_some, silent_far, silent_near}
use Rattle.pairplay.proofs.PairActs.{pair_end}
use Rattle.pairplay.proofs.NextActs.{pair_stop_lem, pair_report, report_onward}

-- what is handed out is the text that was printed
handed_text : (out : List ℕ) (a : Act) → handed_out (printed_on out a) ≡ a.text
unfolding printed_on
handed_text out a = written_text a.text out

-- ---- one step, and those after it

module _ (first second : List ℕ) (line : ℕ → List ℕ) (i : ℕ) (p : Player) (rows message : List ℕ) where
  -- a last step hands out its text
  last_by : (a : Act) → pair_act p first second rows message ≡ a → a.over ≡ true
      → PairSteps first second line i p rows message a.text
  unfolding pair_step_of printed_on
  last_by a is over = rw (← handed_text (line i) a) (PairSteps.last i p rows message (printed_on (line i) a) (rw is) over)

  -- another its text, before those of the steps after it
  next_by : (a : Act) (rest : List ℕ) → pair_act p first second rows message ≡ a → a.over ≡ false
      → PairSteps first second line (suc i) a.player a.rows a.message rest
      → PairSteps first second line i p rows message (a.text ++ rest)
  unfolding pair_step_of printed_on
  next_by a rest is over steps =
      rw (← handed_text (line i) a) (PairSteps.next i p rows message rest (printed_on (line i) a) (rw is) over steps)

  -- a step that reports, followed by what the rest prints, unless the report is refused
  report_by : (r : Reported) (k : Rest) → pair_act p first second rows message ≡ report_act p.receiver p.offset r
      → (refuses r.reply ≡ false
      → PairSteps first second line (suc i) (player_at r.receiver p.offset) r.rows r.message
      (k r.receiver r.rows r.message))
      → PairSteps first second line i p rows message (and_then p.receiver r k)
  unfolding and_then report_act
  report_by r k is after = go (refuses r.reply) refl
    where
      go : (b : Bool) → refuses r.reply ≡ b → PairSteps first second line i p rows message (and_then p.receiver r k)
      go true e = rw (e, append-nil) (last_by (report_act p.receiver p.offset r) is e)
      go false e = rw e (next_by (report_act p.receiver p.offset r) (k r.receiver r.rows r.message) is e (after e))

-- ---- the slots left

module _ (first second : List ℕ) (line : ℕ → List ℕ) (offset : ℕ) where
  -- what the steps of a receiver hand out of the next m slots
  abbrev Fed : ℕ → ℕ → Receiver → List ℕ → List ℕ → Type 0
  Fed m i x rows message =
      PairSteps first second line i (player_at x offset) rows message (fed_on x.settings first second m x rows message)

  -- where a slot is next: too far off, and the line of 6 is the end; or the slot due is reported, and the next m slots come after it
  slot_steps : (m i : ℕ) (x : Receiver) (rows message : List ℕ) → pair_cause x.settings first second ≡ 0
      → (n : ℕ) → next_of x.settings first second x.due ≡ Some n
      → ((rows' message' : List ℕ) → Fed m (suc i) (reported_on x) rows' message') → Fed (suc m) i x rows message
  unfolding fed_on stop_act
  slot_steps m i x rows message accepted n next after =
      let s : Settings = x.settings in
      let p : Player = player_at x offset in
      let (onward, has, before) = next_found s first second accepted x.due n next in
      let call : Report = fed_by (lent s first second x.due) message in
      let r : Reported = report_of x rows call in
      ⊎_elim
      (λ near.
      rw (silent_near s first second x.due n onward near has, fed_on)
      (report_by first second line i p rows message r (fed_on s first second m)
      (pair_report p first second rows message accepted n next near)
      (λ free. rw (report_onward x rows call free) (after r.rows r.message))))
      (λ far.
      rw (silent_far s first second x.due n before far, fed_on)
      (last_by first second line i p rows message (stop_act p rows message OtherSlot)
      (pair_stop_lem p first second rows message accepted n next far) refl))
      (le_or_lt n (x.due + 4095))

  -- the steps from a slot on hand out what is printed of the slots left
  fed_steps : (m i : ℕ) (x : Receiver) (rows message : List ℕ) → pair_cause x.settings first second ≡ 0
      → slots_of x.settings first second - x.due ≡ m → Fed m i x rows message
  unfolding fed_on end_act
  fed_steps zero i x rows message accepted left =
      let p : Player = player_at x offset in
      last_by first second line i p rows message (end_act p rows message)
      (pair_end p first second rows message (next_none x.settings first second accepted x.due (omega arith))) refl
  fed_steps (suc m) i x rows message accepted left =
      let (n, next) = next_some x.settings first second accepted x.due (omega arith) in
      slot_steps m i x rows message accepted n next
      (λ rows' message'. fed_steps m (suc i) (reported_on x) rows' message' accepted (omega arith))

-- ---- from the start

-- an accepted pair, from its start
pub from_start : (first second rows message : List ℕ) (line : ℕ → List ℕ) (s : Settings) → pair_cause s first second ≡ 0
    → length rows ≡ receiver_len s → length message ≡ message_len s
    → PairSteps first second line 0 (begin_of s rows message).player (begin_of s rows message).rows (begin_of s rows message).message
    (pair_played s first second)
unfolding begin_of pair_played
from_start first second rows message line s accepted rows_exact message_exact =
    let ok = (checked s first second accepted).settings in
    let zeros : List ℕ = replicate (receiver_len s) 0 in
    rw (
      opened_receiver_lem s 0 rows record { settings = ok; exact = rows_exact; in_time_lem = zero-le },
      opened_receiver_lem s 0 zeros record { settings = ok; exact = length-replicate (receiver_len s) 0; in_time_lem = zero-le },
      message_exact,
    )
    (fed_steps first second line 0 (slots_of s first second) 0 (opened_receiver s 0) (opened_rows s 0) (replicate (message_len s) 0)
    accepted (omega arith))
