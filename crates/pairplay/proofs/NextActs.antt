-- What a step of an accepted pair comes to where a slot is next: it is too far off, and 6 is the end; or the slot due is reported by what
-- the pair lends for it.
use Rattle.std.specs.Prelude.{Ok, Err}
use mathlib.Core.Path.{◌≡◌, sym, ap, ◌∙◌}
use mathlib.Core.Bool.{true, false, true≢false}
use mathlib.Core.Logic.{⊎_elim}
use mathlib.Core.List.{List, []}
use Prim.Native.Nat.{ℕ, ◌+◌, ◌≤◌, ◌<◌}
use native.Mathlib.Nat.{le_refl, eq-or-lt_of_le}
use native.Mathlib.Omega.{arith}
use lib.ListN.{length, drop}
use borrow.Author.Tests.{ne_eqb, lt-ltb, le-ltb}
use Rattle.code.specs.declared.settings.Settings.{Settings}
use Rattle.protocol.specs.declared.Receiver.{Receiver}
use Rattle.protocol.specs.declared.Cause.TheVariants.{OtherSlot}
use Rattle.protocol.specs.Frame.{mark, five}
use Rattle.protocol.specs.States.{reported_on}
use Rattle.protocol.specs.Causes.{agree, header_cause}
use Rattle.protocol.specs.TwoLists.{Report, heard, missed, report_of}
use Rattle.protocol.proofs.CauseTables.{fails}
use Rattle.frames.specs.Fields.{slot_in}
use Rattle.std.specs.Prelude.{Some}
use Rattle.aerials.specs.Pair.{frame_of, slot_of, pair_cause}
use Rattle.aerials.specs.Parts.{of_aerial}
use Rattle.aerials.proofs.FrameLaws.{frame_long}
use Rattle.aerials.proofs.PairLaws.{Sound, checked}
use Rattle.aerials.proofs.PartLaws.{join_accepted}
use Rattle.feeding.specs.Fed.{lent, fed_by, neither}
use Rattle.feeding.proofs.Lending.{of_either, FrameFor, Lent, nothing, its_frame, lent_frame}
use Rattle.stops.specs.Stops.{frame_stop}
use Rattle.stops.proofs.StopLaws.{stop_above, passing_stop}
use Rattle.progress.specs.declared.Player.{Player}
use Rattle.progress.specs.Refusal.{refuses}
use Rattle.reporting.specs.Acts.{stop_act, report_act, frame_act}
use Rattle.steps.proofs.Acts.{loss_onward, heard_onward}
use Rattle.pairplay.specs.Steps.{pair_act}
use Rattle.pairplay.proofs.Slots.{either, next_found}
use Rattle.pairplay.proofs.PairActs.{next_slot, pair_frame}

-- ---- the frame that is lent

module _ (s : Settings) (first second : List ℕ) (accepted : pair_cause s first second ≡ 0) (slot : ℕ) where
  -- for a slot that either has, a frame of it is lent
  lent_for : either s first second slot ≡ true → FrameFor s first second slot (lent s first second slot)
  unfolding neither
  lent_for e = go (lent_frame s first second accepted slot)
    where
      go : Lent s first second slot → FrameFor s first second slot (lent s first second slot)
      go (nothing none is) = absurd (true≢false (sym (rw e at none)))
      go (its_frame some frame) = frame

  -- for one that neither has, nothing
  pub lent_none : either s first second slot ≡ false → lent s first second slot ≡ []
  unfolding neither
  lent_none e = go (lent_frame s first second accepted slot)
    where
      go : Lent s first second slot → lent s first second slot ≡ []
      go (nothing none is) = is
      go (its_frame some frame) = absurd (true≢false (rw e at some))

  module _ (frame : FrameFor s first second slot (lent s first second slot)) where
    -- it is of that slot
    lent_slot : slot_in (lent s first second slot) ≡ slot
    unfolding slot_of
    lent_slot = ap slot_in frame.is ∙ frame.stands

    -- and its mark and its settings are the pair's
    lent_header : header_cause 1 s (lent s first second slot) ≡ Ok tt
    unfolding header_cause
    lent_header =
        let pair = checked s first second accepted in
        let recording : List ℕ = of_aerial frame.whose first second in
        let sound : Sound s recording = of_either (Sound s) pair.one pair.two frame.whose in
        rw (
          frame.is,
          fails (agree 5 (frame_of s recording frame.number) (mark 1)) (sound.marked frame.number frame.within),
          fails (agree 5 (drop 5 (frame_of s recording frame.number)) (five s)) (sound.settled frame.number frame.within),
        )

    -- it is reported
    fed_heard : (message : List ℕ) → fed_by (lent s first second slot) message ≡ heard (lent s first second slot) message
    unfolding fed_by
    fed_heard message =
        let long = frame_long s in
        rw (ne_eqb (length (lent s first second slot)) 0 (λ z. omega (arith, frame.exact)), fed_by)

  -- where nothing is lent, a loss is reported
  pub fed_missed : lent s first second slot ≡ [] → (message : List ℕ) → fed_by (lent s first second slot) message ≡ missed message
  unfolding fed_by
  fed_missed e message = rw e

-- ---- the step

module _ (p : Player) (first second rows message : List ℕ) (accepted : pair_cause p.receiver.settings first second ≡ 0) where
  -- the act of the part that the pair lends
  lent_act : (n : ℕ) → next_slot p first second ≡ Some n
      → pair_act p first second rows message ≡ frame_act p (lent p.receiver.settings first second n) p.offset rows message
  lent_act n e = rw (join_accepted p.receiver.settings first second n accepted) (pair_frame p first second rows message n e)

  module _ (n : ℕ) (next : next_slot p first second ≡ Some n) where
    -- the next slot is the first that either has
    abbrev found : (p.receiver.due ≤ n) × (either p.receiver.settings first second n ≡ true)
        × ((k : ℕ) → p.receiver.due ≤ k → k < n → either p.receiver.settings first second k ≡ false)
    found = next_found p.receiver.settings first second accepted p.receiver.due n next

    -- and its frame is lent
    abbrev frame : FrameFor p.receiver.settings first second n (lent p.receiver.settings first second n)
    frame = lent_for p.receiver.settings first second accepted n found.1

    -- a slot that is too far off is refused
    pub pair_stop_lem : p.receiver.due + 4095 < n → pair_act p first second rows message ≡ stop_act p rows message OtherSlot
    unfolding frame_act
    pair_stop_lem far =
        let s : Settings = p.receiver.settings in
        let at = lent_slot s first second accepted n frame in
        let own = lent_header s first second accepted n frame in
        let stops : frame_stop p.receiver (lent s first second n) ≡ Err OtherSlot =
        sym (stop_above p.receiver (lent s first second n) own (rw at found.0) (rw at far)) in
        rw (lent_act n next, frame_act, stops)

    -- else its frame does not stop the player
    passes : n ≤ p.receiver.due + 4095 → frame_stop p.receiver (lent p.receiver.settings first second n) ≡ Ok tt
    passes near =
        let s : Settings = p.receiver.settings in
        let at = lent_slot s first second accepted n frame in
        passing_stop p.receiver (lent s first second n)
        record { own = lent_header s first second accepted n frame; low = rw at found.0; high = rw at near }

    -- and the slot due is reported by what is lent for it: as a loss before that slot, and there by its frame
    pub pair_report : n ≤ p.receiver.due + 4095
        → pair_act p first second rows message
        ≡ report_act p.receiver p.offset
        (report_of p.receiver rows (fed_by (lent p.receiver.settings first second p.receiver.due) message))
    unfolding frame_act report_of
    pair_report near =
        let s : Settings = p.receiver.settings in
        let d : ℕ = p.receiver.due in
        let at : slot_in (lent s first second n) ≡ n = lent_slot s first second accepted n frame in
        ⊎_elim
        (λ (same : d ≡ n).
        rw (
          lent_act n next,
          frame_act,
          passes near,
          le-ltb d (slot_in (lent s first second n)) (omega arith),
          same,
          fed_heard s first second accepted n frame message,
        ))
        (λ less.
        let none : lent s first second d ≡ [] = lent_none s first second accepted d (found.2 d (le_refl d) less) in
        rw (
          lent_act n next,
          frame_act,
          passes near,
          lt-ltb d (slot_in (lent s first second n)) (omega arith),
          fed_missed s first second accepted d none message,
        ))
        (eq-or-lt_of_le found.0)

-- ---- the receiver after it

-- a report that isn't refused moves on
pub report_onward : (x : Receiver) (rows : List ℕ) (call : Report) → refuses (report_of x rows call).reply ≡ false
    → (report_of x rows call).receiver ≡ reported_on x
unfolding report_of
report_onward x rows (heard frame message) = heard_onward x rows frame message
report_onward x rows (missed message) = loss_onward x rows message
