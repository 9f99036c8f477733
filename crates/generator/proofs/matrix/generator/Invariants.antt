-- The loop fills the matrix row by row; the rows behind are zeros.
use mathlib.Core.List.{[]}
use mathlib.Core.Path.{◌≡◌}
use Prim.Native.Nat.{ℕ, ◌<◌, ◌≤◌}
use lib.ListN.{length, get_or}
use Rattle.code.specs.Matrix.{entry}
use Rattle.galois.specs.Table.{table}
use Rattle.generator.proofs.matrix.generator.Given as goal

abbrev pub invariant-loop-i : goal.invariant-loop-i
invariant-loop-i l =
    (l.i ≤ 16) × (length l.rows ≡ 16) × ((r : ℕ) → r < l.i → get_or l.rows r [] ≡ table 16 (λ j. entry l.s r j))
    × ((r : ℕ) → l.i ≤ r → r < 16 → get_or l.rows r [] ≡ table 16 (λ j. 0))
