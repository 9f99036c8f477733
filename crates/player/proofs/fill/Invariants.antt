-- While there is room a step prints behind what is printed so far; each leaves fewer steps.
use mathlib.Core.Path.{◌≡◌}
use lib.ListN.{length}
use Rattle.player.proofs.FillLaws.{Going}
use Rattle.player.proofs.StepsLeft.{steps_left}
use Rattle.player.proofs.fill.Given as goal

abbrev pub invariant-loop-rows : goal.invariant-loop-rows
invariant-loop-rows l =
    Going l.recording l.initial.q l.initial.rows l.initial.message l.initial.out l.q l.at l.rows l.message l.out
    × (length l.rows ≡ length l.initial.rows) × (length l.message ≡ length l.initial.message)

abbrev pub decreases-loop-rows : goal.decreases-loop-rows
decreases-loop-rows l =
    steps_left l.recording l.q
