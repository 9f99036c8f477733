-- The loop fills the lanes from the front with the sum by the low halves and α times that by the high halves.
use mathlib.Core.Path.{◌≡◌}
use Prim.Native.Nat.{ℕ, ◌<◌}
use lib.ListN.{length, get_or}
use Rattle.galois.specs.Byte.{◌⊕◌, ◌⊗◌, alpha}
use Rattle.vectors.proofs.sums.weighted.Given as goal

abbrev pub invariant-loop-v : goal.invariant-loop-v
invariant-loop-v l =
    (length l.out ≡ 64) × ((i : ℕ) → i < l.v → get_or l.out i 0 ≡ get_or l.low i 0 ⊕ alpha ⊗ get_or l.high i 0)
