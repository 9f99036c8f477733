-- The loop adds the entry that two bits pick, pair by pair.
use mathlib.Core.Path.{◌≡◌}
use Prim.Native.Nat.{ℕ, ◌*◌, ◌<◌}
use lib.ListN.{length, get_or}
use Rattle.galois.specs.Byte.{◌⊕◌}
use Rattle.galois.specs.Sum.{sum}
use Rattle.halves.proofs.Planes.{term_at}
use Rattle.vectors.proofs.sums.add_plane.Given as goal

abbrev pub invariant-loop-j : goal.invariant-loop-j
invariant-loop-j l =
    (length l.total ≡ 64)
    × ((v : ℕ) → v < 64 → get_or l.total v 0 ≡ get_or l.initial.total v 0 ⊕ sum (l.j * 2) (term_at l.halves l.t l.pairs.table.now v))
