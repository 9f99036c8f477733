-- Both sums stay below 65521.
use Rattle.std.proofs.Common.{◌<◌}
use Rattle.trace.proofs.print.sum.Given as goal

abbrev pub invariant-loop-byte : goal.invariant-loop-byte
invariant-loop-byte g l =
    (l.tail < 65521) × (l.total < 65521)
