-- Each way out is one case of what stands at the player's offset.
use mathlib.Core.Path.{◌≡◌, sym, ap, ◌∙◌}
use mathlib.Core.List.{List}
use native.Mathlib.Omega.{arith}
use Prim.Native.Nat.{ℕ, ◌+◌, ◌-◌, ◌≤◌, ◌<◌}
use lib.ListN.{length, take, drop, length-take, length-drop}
use Rattle.protocol.specs.Lengths.{frame_len}
use Rattle.protocol.specs.declared.Cause.TheVariants.{BadLength}
use Rattle.recording.specs.declared.Found.{Found}
use Rattle.recording.specs.declared.Found.TheVariants.{Frame}
use Rattle.recording.specs.Found.{found_at}
use Rattle.recording.proofs.FoundLaws.{frame_says}
use Rattle.reporting.specs.Outcomes.{printed_on}
use Rattle.reporting.proofs.FrameOutcomes.{stop_line_lem}
use Rattle.progress.specs.declared.Player.{Player}
use Rattle.steps.proofs.StepOutcomes.{ends, parts, stands, end_line}
use Rattle.steps.proofs.step.Goals as goal

-- what the code found stands at the offset
module _ (recording : List ℕ) (p : Player) (r : Found) (size : ℕ) (found : r ≡ found_at recording p.offset size)
    (sized : size ≡ frame_len p.receiver.settings) where
  stands_there : (f : Found) → r ≡ f → found_at recording p.offset (frame_len p.receiver.settings) ≡ f
  stands_there f is = sym (found ∙ ap (found_at recording p.offset) sized) ∙ is

  -- a frame lies within the recording
  framed : (start end : ℕ) → r ≡ Frame start end
      → (start ≡ p.offset) × (end ≡ p.offset + frame_len p.receiver.settings)
      × (p.offset + frame_len p.receiver.settings ≤ length recording) × (0 < frame_len p.receiver.settings)
  framed start end is =
      frame_says recording p.offset (frame_len p.receiver.settings) start end (stands_there (Frame start end) is)

  -- and has the bytes of a header
  headed : (start end : ℕ) → r ≡ Frame start end → 14 ≤ length (take (end - start) (drop start recording))
  unfolding frame_len
  headed start end is =
      omega (arith, framed start end is, length-take (end - start) (drop start recording), length-drop start recording)

pub stopped-requires : goal.stopped-requires
stopped-requires c =
    omega (arith, c.requires)

pub slice_bounds-at_frame-start : goal.slice_bounds-at_frame-start
slice_bounds-at_frame-start c =
    omega (arith, framed _ c.args.p _ _ c.next_frame.ensures c.frame_len.ensures _ _ c.in-Frame.is)

pub slice_bounds-at_frame-count : goal.slice_bounds-at_frame-count
slice_bounds-at_frame-count c =
    omega (arith, framed _ c.args.p _ _ c.next_frame.ensures c.frame_len.ensures _ _ c.in-Frame.is)

pub slice_bounds-at_frame-end : goal.slice_bounds-at_frame-end
slice_bounds-at_frame-end c =
    omega (arith, framed _ c.args.p _ _ c.next_frame.ensures c.frame_len.ensures _ _ c.in-Frame.is)

pub at_frame-requires : goal.at_frame-requires
at_frame-requires c =
    let f = c.in-Frame in
    (headed _ c.args.p _ _ c.next_frame.ensures c.frame_len.ensures f.start f.end f.is, c.requires)

pub returns-in-End : goal.returns-in-End
returns-in-End c =
    let a = c.args in
    end_line a.line.now a.p a.rows.now a.message.now
    ∙ ap (printed_on a.line.now)
    (ends a.p _ a.rows.now a.message.now (stands_there _ a.p _ _ c.next_frame.ensures c.frame_len.ensures _ c.in-End.is))

pub returns-in-Part : goal.returns-in-Part
returns-in-Part c =
    let a = c.args in
    let f = c.stopped.ensures in
    stop_line_lem a.line.now _ _ _ _ a.p a.rows.now a.message.now BadLength f.player f.len f.over f.line
    ∙ ap (printed_on a.line.now)
    (parts a.p _ a.rows.now a.message.now (stands_there _ a.p _ _ c.next_frame.ensures c.frame_len.ensures _ c.in-Part.is))

pub returns-in-Frame : goal.returns-in-Frame
returns-in-Frame c =
    let a = c.args in
    let f = c.in-Frame in
    c.at_frame.ensures
    ∙ ap (printed_on a.line.now)
    (stands a.p _ a.rows.now a.message.now f.start f.end (stands_there _ a.p _ _ c.next_frame.ensures c.frame_len.ensures _ f.is))
