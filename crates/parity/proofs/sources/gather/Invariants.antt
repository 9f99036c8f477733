-- The loop puts two source symbols of every lane into their pair a turn; row is the one that holds source symbol 2j.
use mathlib.Core.Path.{◌≡◌}
use Prim.Native.Nat.{◌*◌}
use Rattle.gathering.specs.Pairs.{gathered_of}
use Rattle.parity.specs.Sources.{row_of, source_of}
use Rattle.parity.proofs.sources.gather.Given as goal

abbrev pub invariant-loop-j : goal.invariant-loop-j
invariant-loop-j l =
    (l.row ≡ row_of l.s l.due l.p (l.j * 2))
    × (l.pairs ≡ gathered_of l.rows l.s.lanes (source_of l.s l.due l.p) l.j l.initial.pairs)
