-- The loop fills the row from the front.
use mathlib.Core.Path.{◌≡◌}
use Prim.Native.Nat.{ℕ, ◌<◌}
use lib.ListN.{length, get_or}
use Rattle.galois.specs.Byte.{◌⊗◌}
use Rattle.multiples.proofs.rows.row_times.Given as goal

abbrev pub invariant-loop-j : goal.invariant-loop-j
invariant-loop-j l =
    (length l.out ≡ 16) × ((i : ℕ) → i < l.j → get_or l.out i 0 ≡ l.c ⊗ get_or l.row i 0)
