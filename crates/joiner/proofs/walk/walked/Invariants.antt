-- Each turn looks at one frame.
use mathlib.Core.Path.{◌≡◌}
use Rattle.protocol.specs.Frame.{header}
use Rattle.aerials.specs.Pair.{frames_in}
use Rattle.joiner.proofs.Walking.{Walked}
use Rattle.joiner.proofs.walk.walked.Given as goal

abbrev pub invariant-loop-n : goal.invariant-loop-n
invariant-loop-n l =
    (l.n-end ≡ frames_in l.recorded.settings l.recorded.bytes.now) × (l.head ≡ header 1 l.recorded.settings 0)
    × Walked l.recorded.settings l.recorded.bytes.now l.n l.mark l.settings l.falling l.least
