-- What one step comes to, by what stands at the player's offset; and the receiver that a report leaves where it isn't refused.
use Rattle.std.specs.Prelude.{Ok, Err}
use mathlib.Core.Path.{◌≡◌, refl}
use mathlib.Core.Bool.{Bool, true, false}
use mathlib.Core.List.{List, ◌∷◌}
use Prim.Native.Nat.{ℕ, ◌+◌, ◌-◌, ◌≤◌, ◌<◌}
use native.Mathlib.Omega.{arith}
use lib.Dec.{ltb}
use lib.ListN.{length, take, drop, replicate}
use borrow.Author.Tests.{ltb-true, ltb-false, le-ltb, lt-ltb}
use Rattle.code.specs.declared.settings.Settings.{Settings}
use Rattle.protocol.specs.declared.Receiver.{Receiver}
use Rattle.protocol.specs.declared.Cause.{Cause}
use Rattle.protocol.specs.declared.Cause.TheVariants.{BadLength}
use Rattle.protocol.specs.Lengths.{frame_len, row_len}
use Rattle.protocol.specs.Answers.{Answer}
use Rattle.protocol.specs.States.{reported_on}
use Rattle.protocol.specs.Causes.{loss_cause, frame_cause}
use Rattle.protocol.specs.Calls.{moved_on, loss_of, heard_of}
use Rattle.protocol.proofs.ReportSteps.{loss_moves, loss_stays, heard_moves, heard_stays}
use Rattle.recording.specs.declared.Found.TheVariants.{Part}
use Rattle.recording.specs.Found.{found_at}
use Rattle.recording.proofs.FoundLaws.{end_stands, frame_stands, Standing, standing}
use Rattle.frames.specs.Fields.{slot_in}
use Rattle.stops.specs.Stops.{frame_stop}
use Rattle.progress.specs.declared.Player.{Player}
use Rattle.progress.specs.Refusal.{refuses}
use Rattle.reporting.specs.Acts.{Act, stop_act, report_act, frame_act}
use Rattle.steps.specs.Steps.{end_act, act_of}

-- a frame has at least its header
pub frame_some : (s : Settings) → 0 < frame_len s
unfolding frame_len
frame_some s = omega arith

-- ---- the receiver after a report

-- a report that moves on leaves the receiver at its next slot
moved_onward : (x : Receiver) (row rows : List ℕ) → (moved_on x row rows).receiver ≡ reported_on x
unfolding moved_on
moved_onward x row rows = refl

-- a loss that isn't refused moves on
pub loss_onward : (x : Receiver) (rows message : List ℕ) → refuses (loss_of x rows message).reply ≡ false
    → (loss_of x rows message).receiver ≡ reported_on x
loss_onward x rows message e = go (loss_cause x rows message) refl
  where
    go : (f : Answer) → loss_cause x rows message ≡ f → (loss_of x rows message).receiver ≡ reported_on x
    go (Ok tt) is = rw (loss_moves x rows message is) (moved_onward x (replicate (row_len x.settings) 0) rows)
    go (Err c) is =
        let no : true ≡ false = rw (loss_stays x rows message c is) at e in
        let z : ◌≡◌ {A = ℕ} 0 1 = cc in absurd (omega arith)

-- and so does a frame that isn't refused
pub heard_onward : (x : Receiver) (rows frame message : List ℕ) → refuses (heard_of x rows frame message).reply ≡ false
    → (heard_of x rows frame message).receiver ≡ reported_on x
heard_onward x rows frame message e = go (frame_cause x rows frame message) refl
  where
    go : (f : Answer) → frame_cause x rows frame message ≡ f → (heard_of x rows frame message).receiver ≡ reported_on x
    go (Ok tt) is = rw (heard_moves x rows frame message is) (moved_onward x (1 ∷ drop 14 frame) rows)
    go (Err c) is =
        let no : true ≡ false = rw (heard_stays x rows frame message c is) at e in
        let z : ◌≡◌ {A = ℕ} 0 1 = cc in absurd (omega arith)

-- ---- the acts

-- a player by its parts
abbrev pub player_at : Receiver → ℕ → Player
player_at x offset = record { receiver = x; offset = offset }

-- the frame at its offset
abbrev pub frame_at : List ℕ → Player → List ℕ
frame_at recording p = take (frame_len p.receiver.settings) (drop p.offset recording)

-- where nothing is left of the recording, the end
pub act_end : (recording : List ℕ) (p : Player) (rows message : List ℕ) → length recording ≤ p.offset
    → act_of p recording rows message ≡ end_act p rows message
unfolding act_of
act_end recording p rows message past =
    rw (end_stands recording p.offset (frame_len p.receiver.settings) past, act_of)

-- where a part of a frame is left, a refusal
pub act_part : (recording : List ℕ) (p : Player) (rows message : List ℕ)
    → found_at recording p.offset (frame_len p.receiver.settings) ≡ Part
    → act_of p recording rows message ≡ stop_act p rows message BadLength
unfolding act_of
act_part recording p rows message e = rw (e, act_of)

module _ (recording : List ℕ) (p : Player) (fits : p.offset + frame_len p.receiver.settings ≤ length recording)
    (rows message : List ℕ) where
  -- where a frame is left, the act of that frame
  act_frame : act_of p recording rows message ≡ frame_act p (frame_at recording p) (p.offset + frame_len p.receiver.settings) rows message
  unfolding act_of
  act_frame =
      let size : ℕ = frame_len p.receiver.settings in
      let same : p.offset + size - p.offset ≡ size = omega arith in
      rw (frame_stands recording p.offset size (frame_some p.receiver.settings) fits, act_of, same)

  -- a frame that stops the player
  pub act_stop : (c : Cause) → frame_stop p.receiver (frame_at recording p) ≡ Err c
      → act_of p recording rows message ≡ stop_act p rows message c
  unfolding frame_act
  act_stop c e = rw (act_frame, frame_act, e)

  -- a frame above the slot due: the slot due is a loss
  pub act_loss : frame_stop p.receiver (frame_at recording p) ≡ Ok tt → p.receiver.due < slot_in (frame_at recording p)
      → act_of p recording rows message ≡ report_act p.receiver p.offset (loss_of p.receiver rows message)
  unfolding frame_act
  act_loss e above = rw (act_frame, frame_act, e, lt-ltb p.receiver.due (slot_in (frame_at recording p)) above)

  -- a frame at the slot due: it is reported
  pub act_heard : frame_stop p.receiver (frame_at recording p) ≡ Ok tt → slot_in (frame_at recording p) ≤ p.receiver.due
      → act_of p recording rows message
      ≡ report_act p.receiver (p.offset + frame_len p.receiver.settings) (heard_of p.receiver rows (frame_at recording p) message)
  unfolding frame_act
  act_heard e reached = rw (act_frame, frame_act, e, le-ltb p.receiver.due (slot_in (frame_at recording p)) reached)

-- ---- what holds of every act

module _ (p : Player) (recording rows message : List ℕ) (Q : Act → Type 0)
    (ended : Q (end_act p rows message))
    (stopped : (c : Cause) → Q (stop_act p rows message c))
    (lost : frame_stop p.receiver (frame_at recording p) ≡ Ok tt → p.receiver.due < slot_in (frame_at recording p)
    → Q (report_act p.receiver p.offset (loss_of p.receiver rows message)))
    (heard : p.offset + frame_len p.receiver.settings ≤ length recording
    → Q (report_act p.receiver (p.offset + frame_len p.receiver.settings) (heard_of p.receiver rows (frame_at recording p) message))) where
  -- at a frame, by its tests
  at_frame : p.offset + frame_len p.receiver.settings ≤ length recording
      → (f : Answer) → frame_stop p.receiver (frame_at recording p) ≡ f
      → (b : Bool) → ltb p.receiver.due (slot_in (frame_at recording p)) ≡ b → Q (act_of p recording rows message)
  at_frame fits (Err c) e b test = rw (act_stop recording p fits rows message c e) (stopped c)
  at_frame fits (Ok tt) e true test =
      let above : p.receiver.due < slot_in (frame_at recording p) = ltb-true p.receiver.due (slot_in (frame_at recording p)) test in
      rw (act_loss recording p fits rows message e above) (lost e above)
  at_frame fits (Ok tt) e false test =
      let reached : slot_in (frame_at recording p) ≤ p.receiver.due = ltb-false p.receiver.due (slot_in (frame_at recording p)) test in
      rw (act_heard recording p fits rows message e reached) (heard fits)

  -- by what stands at the offset
  at_offset : Standing recording p.offset (frame_len p.receiver.settings) → Q (act_of p recording rows message)
  at_offset (Standing.ended past is) = rw (act_end recording p rows message past) ended
  at_offset (Standing.short before few is) = rw (act_part recording p rows message is) (stopped BadLength)
  at_offset (Standing.whole some fits is) =
      at_frame fits (frame_stop p.receiver (frame_at recording p)) refl (ltb p.receiver.due (slot_in (frame_at recording p))) refl

  -- a step ends, stops, reports a loss, or reports a frame
  pub every-act : Q (act_of p recording rows message)
  every-act = at_offset (standing recording p.offset (frame_len p.receiver.settings))
