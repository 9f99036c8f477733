-- What one step of a pair comes to: the end, a refusal, a loss or a frame, by the next slot that either has.
use Rattle.std.specs.Prelude.{Ok, Err}
use mathlib.Core.Path.{◌≡◌, refl}
use mathlib.Core.Bool.{Bool, true, false}
use mathlib.Core.List.{List}
use Prim.Native.Nat.{ℕ}
use lib.Dec.{ltb}
use Rattle.protocol.specs.declared.Cause.{Cause}
use Rattle.protocol.specs.Answers.{Answer}
use Rattle.protocol.specs.Calls.{loss_of, heard_of}
use Rattle.frames.specs.Fields.{slot_in}
use Rattle.std.specs.Prelude.{Option, Some, None}
use Rattle.aerials.specs.Parts.{bytes_of, part_of}
use Rattle.aerials.specs.Next.{next_of}
use Rattle.stops.specs.Stops.{frame_stop}
use Rattle.progress.specs.declared.Player.{Player}
use Rattle.reporting.specs.Acts.{Act, stop_act, report_act, frame_act}
use Rattle.steps.specs.Steps.{end_act}
use Rattle.pairplay.specs.Steps.{pair_act}

-- the next slot, from the slot due on, that either has
abbrev pub next_slot : Player → List ℕ → List ℕ → Option ℕ
next_slot p first second = next_of p.receiver.settings first second p.receiver.due

module _ (p : Player) (first second rows message : List ℕ) where
  -- where there is none, the end
  pub pair_end : next_slot p first second ≡ None → pair_act p first second rows message ≡ end_act p rows message
  unfolding pair_act
  pair_end e = rw (e, pair_act)

  -- where there is one, the act of the part that is lent for it
  pub pair_frame : (n : ℕ) → next_slot p first second ≡ Some n
      → pair_act p first second rows message
      ≡ frame_act p (bytes_of first second (part_of p.receiver.settings first second n)) p.offset rows message
  unfolding pair_act
  pair_frame n e = rw (e, pair_act)

-- ---- what holds of every act

module _ (p : Player) (rows message : List ℕ) (Q : Act → Type 0)
    (stopped : (c : Cause) → Q (stop_act p rows message c))
    (lost : Q (report_act p.receiver p.offset (loss_of p.receiver rows message)))
    (heard : (frame : List ℕ) → Q (report_act p.receiver p.offset (heard_of p.receiver rows frame message))) where
  -- a frame stops the player, or a loss is reported, or the frame is
  frame_by : (frame : List ℕ) → Q (frame_act p frame p.offset rows message)
  unfolding frame_act
  frame_by frame = go (frame_stop p.receiver frame) refl (ltb p.receiver.due (slot_in frame)) refl
    where
      go : (f : Answer) → frame_stop p.receiver frame ≡ f → (b : Bool) → ltb p.receiver.due (slot_in frame) ≡ b
          → Q (frame_act p frame p.offset rows message)
      go (Err c) e b d = rw (e, frame_act) (stopped c)
      go (Ok tt) e true d = rw (e, frame_act) (rw d lost)
      go (Ok tt) e false d = rw (e, frame_act) (rw d (heard frame))

module _ (p : Player) (first second rows message : List ℕ) (Q : Act → Type 0)
    (ended : Q (end_act p rows message))
    (stopped : (c : Cause) → Q (stop_act p rows message c))
    (lost : (n : ℕ) → next_slot p first second ≡ Some n → Q (report_act p.receiver p.offset (loss_of p.receiver rows message)))
    (heard : (n : ℕ) → next_slot p first second ≡ Some n → (frame : List ℕ)
    → Q (report_act p.receiver p.offset (heard_of p.receiver rows frame message))) where
  -- a step ends, stops, reports a loss, or reports a frame
  pub every-act : Q (pair_act p first second rows message)
  every-act = go (next_slot p first second) refl
    where
      go : (x : Option ℕ) → next_slot p first second ≡ x → Q (pair_act p first second rows message)
      go None e = rw (pair_end p first second rows message e) ended
      go (Some n) e =
          rw (pair_frame p first second rows message n e)
          (frame_by p rows message Q stopped (lost n e) (heard n e)
          (bytes_of first second (part_of p.receiver.settings first second n)))
