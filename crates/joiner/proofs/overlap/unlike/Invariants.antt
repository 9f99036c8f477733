-- Each turn passes a frame, or two that stand for one slot and are alike.
use Prim.Native.Nat.{◌+◌, ◌-◌, ◌≤◌}
use Rattle.joiner.proofs.Overlaps.{Passed}
use Rattle.joiner.proofs.overlap.unlike.Given as goal

abbrev pub invariant-loop-i : goal.invariant-loop-i
invariant-loop-i l =
    (l.i ≤ l.m) × (l.j ≤ l.n) × Passed l.a.settings l.a.bytes.now l.b.bytes.now l.i l.j

abbrev pub decreases-loop-i : goal.decreases-loop-i
decreases-loop-i l = (l.m - l.i) + (l.n - l.j)
