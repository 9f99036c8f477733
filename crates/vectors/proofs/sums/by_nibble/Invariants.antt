-- Before bit t - 1 is taken, the sum is that by the halves without their lowest t bits.
use mathlib.Core.Path.{◌≡◌}
use Rattle.galois.specs.Table.{table}
use Rattle.halves.proofs.Planes.{upper_sum}
use Rattle.vectors.proofs.sums.by_nibble.Given as goal

abbrev pub invariant-loop-t : goal.invariant-loop-t
invariant-loop-t l =
    l.total ≡ table 64 (upper_sum l.halves l.pairs.table.now l.pairs.count l.t)
