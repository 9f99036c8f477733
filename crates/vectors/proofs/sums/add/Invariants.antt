-- The loop adds the lanes from the front; what stands from v on is as it came.
use mathlib.Core.Path.{◌≡◌}
use Prim.Native.Nat.{ℕ, ◌<◌, ◌≤◌}
use lib.ListN.{length, get_or}
use Rattle.galois.specs.Byte.{◌⊕◌}
use Rattle.vectors.proofs.sums.add.Given as goal

abbrev pub invariant-loop-v : goal.invariant-loop-v
invariant-loop-v l =
    (length l.sum ≡ 64) × ((i : ℕ) → i < l.v → get_or l.sum i 0 ≡ get_or l.initial.sum i 0 ⊕ get_or l.vector i 0)
    × ((i : ℕ) → l.v ≤ i → get_or l.sum i 0 ≡ get_or l.initial.sum i 0)
