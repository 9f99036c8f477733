-- Each turn halves what lies between.
use Prim.Native.Nat.{◌-◌}
use Rattle.joiner.specs.Halving.{Bracket}
use Rattle.joiner.proofs.search.Ordered.halve.Given as goal

abbrev pub invariant-loop-bottom : goal.invariant-loop-bottom
invariant-loop-bottom l = Bracket l.self.recorded.settings l.self.recorded.bytes.now l.slot l.bottom l.top

abbrev pub decreases-loop-bottom : goal.decreases-loop-bottom
decreases-loop-bottom l = l.top - l.bottom
