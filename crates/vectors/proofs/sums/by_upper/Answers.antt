-- Where no half is above 1 it is its bit 0, so one plane is the sum; else all four bits are taken.
use Rattle.halves.proofs.Planes.{halves_small, one_plane}
use Rattle.vectors.proofs.sums.by_upper.Goals as goal

pub returns-then-bits_used-eq0 : goal.returns-then-bits_used-eq0
returns-then-bits_used-eq0 c =
    one_plane c.args.halves.now c.args.pairs.table.now c.args.pairs.count _
    (halves_small c.args.halves.now c.args.pairs.count c.bits_used.result c.bits_used.ensures.under c.if-bits_used-eq0.true)
    c.add_plane.ensures
