-- A turn puts one pair of rows' vectors.
use mathlib.Core.Path.{◌≡◌}
use Rattle.gathering.specs.Pairs.{gathered_of}
use Rattle.shares.specs.Shares.{source_of}
use Rattle.shares.proofs.gather.Given as goal

abbrev pub invariant-loop-j : goal.invariant-loop-j
invariant-loop-j l =
    l.pairs ≡ gathered_of l.words.bytes.now l.words.s.lanes (source_of l.words.s l.roles l.words.places.now) l.j l.initial.pairs
