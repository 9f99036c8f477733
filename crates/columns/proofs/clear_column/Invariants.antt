-- The loop sweeps the first k rows, from the first on; those from there on are as they came. The pivot's row is set at the end.
use mathlib.Core.List.{[]}
use mathlib.Core.Path.{◌≡◌}
use Prim.Native.Nat.{ℕ, ◌<◌, ◌≤◌}
use lib.ListN.{get_or}
use Rattle.columns.proofs.Rewritten.{swept_row}
use Rattle.columns.proofs.clear_column.Given as goal

abbrev pub invariant-loop-row : goal.invariant-loop-row
invariant-loop-row l =
    ((i : ℕ) → i < l.row-index → get_or l.row-items i [] ≡ swept_row l.fn.rows l.r l.p i)
    × ((i : ℕ) → l.row-index ≤ i → get_or l.row-items i [] ≡ get_or l.initial.row-items i [])
