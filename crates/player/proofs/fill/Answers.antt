-- While there is room a step prints behind what is printed so far; each leaves fewer steps.
use borrow.Author.Tests.{leb-true, leb-false}
use mathlib.Core.Path.{◌≡◌, refl, sym, ap, ◌∙◌, subst}
use mathlib.Core.Bool.{Bool, true, false}
use mathlib.Core.List.{List}
use native.Mathlib.Omega.{arith}
use Prim.Native.Nat.{ℕ, ◌+◌, ◌*◌, ◌≤◌, ◌<◌}
use lib.Dec.{leb}
use lib.ListN.{length}
use Rattle.lines.specs.Lent.{longest}
use Rattle.progress.specs.declared.Player.{Player}
use Rattle.steps.specs.Steps.{act_of}
use Rattle.reporting.specs.Outcomes.{Outcome, outcome, printed_on}
use Rattle.player.proofs.FillLaws.{part_length, goes, full, fitting, onward, ended}
use Rattle.player.proofs.StepsLeft.{steps_left, fewer}
use Rattle.player.proofs.fill.Goals as goal

-- what the test of the room says
module _ (message : List ℕ) (left : ℕ) (test : Bool) (is : test ≡ leb (18 + 2 * length message) left) where
  roomy : test ≡ true → longest message ≤ left
  unfolding longest
  roomy e = leb-true (18 + 2 * length message) left (sym is ∙ e)

  narrow : test ≡ false → left < longest message
  unfolding longest
  narrow e = leb-false (18 + 2 * length message) left (sym is ∙ e)

-- a step that is not the last leaves fewer
falls : (p : Player) (recording rows message line : List ℕ) (o : Outcome) → o ≡ printed_on line (act_of p recording rows message)
    → o.over ≡ false → steps_left recording o.player < steps_left recording p
unfolding printed_on
falls p recording rows message line o stepped more =
    subst (λ (r : Outcome). steps_left recording r.player < steps_left recording p) (sym stepped)
    (fewer p recording rows message (sym (ap (λ (r : Outcome). r.over) stepped) ∙ more))

pub loop-rows-init : goal.loop-rows-init
loop-rows-init c =
    (goes c.args.recording.now c.args.p c.args.rows.now c.args.message.now c.args.out.now, refl, refl)

pub slice_bounds-step-count : goal.slice_bounds-step-count
slice_bounds-step-count c =
    omega (arith, c.loop-rows.invariant.0.within)

pub slice_bounds-step-start : goal.slice_bounds-step-start
slice_bounds-step-start c =
    omega (arith, c.loop-rows.invariant.0.within)

pub slice_bounds-step-end : goal.slice_bounds-step-end
slice_bounds-step-end c =
    omega (arith, c.loop-rows.invariant.0.within)

pub step-stepped-requires : goal.step-stepped-requires
unfolding longest
step-stepped-requires c =
    let l = c.loop-rows in
    omega (arith, roomy l.message _ _ c.has_room.ensures c.loop-rows-test.true, part_length l.out l.at)

pub overflow_add-at : goal.overflow_add-at
overflow_add-at c =
    let l = c.loop-rows in
    let f = c.step-stepped in
    let room = roomy l.message _ _ c.has_room.ensures c.loop-rows-test.true in
    let wrote = fitting _ _ _ _ _ l.q l.at l.rows l.message l.out l.invariant.0 room (outcome f.result f.new.rows f.new.message f.new.line)
    f.ensures f.auto.line in
    record { fits = omega (arith, wrote, l.invariant.0.within, l.invariant.0.long) }

pub returns-then-stepped : goal.returns-then-stepped
returns-then-stepped c =
    let l = c.loop-rows in
    let f = c.step-stepped in
    let room = roomy l.message _ _ c.has_room.ensures c.loop-rows-test.true in
    ended _ _ _ _ _ l.q l.at l.rows l.message l.out l.invariant.0 room (outcome f.result f.new.rows f.new.message f.new.line) f.ensures
    f.auto.line c.if-stepped.true

pub loop-rows-smaller : goal.loop-rows-smaller
loop-rows-smaller c =
    let l = c.loop-rows in
    let f = c.step-stepped in
    falls l.q c.args.recording.now l.rows l.message _ (outcome f.result f.new.rows f.new.message f.new.line) f.ensures c.if-stepped.false

pub loop-rows-preserved : goal.loop-rows-preserved
loop-rows-preserved c =
    let l = c.loop-rows in
    let f = c.step-stepped in
    let room = roomy l.message _ _ c.has_room.ensures c.loop-rows-test.true in (
      onward _ _ _ _ _ l.q l.at l.rows l.message l.out l.invariant.0 room (outcome f.result f.new.rows f.new.message f.new.line) f.ensures
          f.auto.line c.if-stepped.false,
      f.auto.rows ∙ l.invariant.1,
      f.auto.message ∙ l.invariant.2,
    )

pub returns : goal.returns
returns c =
    let l = c.loop-rows in
    full _ _ _ _ _ l.q l.at l.rows l.message l.out l.invariant.0 (narrow l.message _ _ c.has_room.ensures c.loop-rows-test.false)

pub overflow_sub-out : goal.overflow_sub-out
overflow_sub-out c =
    omega (arith, c.loop-rows.invariant.0.within)
