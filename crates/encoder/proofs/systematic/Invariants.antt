-- The rows are done from the last source symbol down: at i, rows i and up are the systematic form's.
use mathlib.Core.List.{[]}
use mathlib.Core.Path.{◌≡◌}
use Prim.Native.Nat.{ℕ, ◌<◌, ◌≤◌}
use lib.ListN.{length, get_or}
use Rattle.galois.specs.Table.{table}
use Rattle.code.specs.Word.{symbol, unit}
use Rattle.code.proofs.Shape.{Shape}
use Rattle.encoder.proofs.systematic.Given as goal

abbrev pub invariant-loop-i : goal.invariant-loop-i
invariant-loop-i l =
    Shape l.s × (length l.rows ≡ 16) × ((r : ℕ) → l.i ≤ r → r < 16 → get_or l.rows r [] ≡ table 16 (symbol l.s (unit r)))
