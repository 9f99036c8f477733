-- The loop doubles the lanes from the front; what stands from the index on is as it came.
use mathlib.Core.Path.{◌≡◌}
use Prim.Native.Nat.{ℕ, ◌<◌, ◌≤◌}
use lib.ListN.{length, get_or}
use Rattle.galois.specs.Byte.{◌⊗◌}
use Rattle.vectors.proofs.sums.double.Given as goal

abbrev pub invariant-loop-lane : goal.invariant-loop-lane
invariant-loop-lane l =
    (length l.sum ≡ 64) × ((i : ℕ) → i < l.lane-index → get_or l.sum i 0 ≡ 2 ⊗ get_or l.initial.sum i 0)
    × ((i : ℕ) → l.lane-index ≤ i → get_or l.sum i 0 ≡ get_or l.initial.sum i 0)
