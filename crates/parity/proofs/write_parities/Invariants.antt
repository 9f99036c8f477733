-- A turn gathers the source symbols of one position; their sum by its column of the systematic form is the parity symbol of each lane.
use mathlib.Core.Path.{◌≡◌}
use mathlib.Core.List.{◌++◌}
use Prim.Native.Nat.{◌*◌}
use lib.ListN.{drop}
use Rattle.gathering.specs.Pairs.{pairs_of, Wide, Paired}
use Rattle.code.specs.Settings.{k_of}
use Rattle.parity.specs.Parities.{parities_of}
use Rattle.parity.proofs.write_parities.Given as goal

abbrev pub invariant-loop-e : goal.invariant-loop-e
invariant-loop-e l =
    (l.out ≡ parities_of l.s l.rows l.due l.e ++ drop (l.e * l.s.lanes) l.initial.out) × Wide l.pairs × Paired (pairs_of (k_of l.s)) l.pairs
