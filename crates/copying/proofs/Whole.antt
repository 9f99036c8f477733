-- Bytes written over all of a slice are what is left.
use mathlib.Core.Path.{◌≡◌}
use mathlib.Core.List.{List, ◌++◌}
use native.Mathlib.Omega.{arith}
use Prim.Native.Nat.{ℕ, ◌+◌}
use lib.ListN.{length, take, drop}
use Rattle.std.proofs.lemmas.Grind.{common_steps}

pub whole : (slice bytes : List ℕ) → length slice ≡ length bytes → take 0 slice ++ bytes ++ drop (0 + length bytes) slice ≡ bytes
whole slice bytes same = grind (arith, common_steps)
