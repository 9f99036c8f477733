-- The loop fills the row from the front; the four entries added are those of the digits of c.
use mathlib.Core.Path.{◌≡◌}
use Prim.Native.Nat.{ℕ, ◌<◌}
use lib.ListN.{length, get_or}
use Rattle.galois.specs.Byte.{◌⊕◌}
use Rattle.multiples.specs.Quarters.{digits_at}
use Rattle.multiples.proofs.rows.row_by.Given as goal

abbrev pub invariant-loop-j : goal.invariant-loop-j
invariant-loop-j l =
    (length l.out ≡ 16) × ((i : ℕ) → i < l.j → get_or l.out i 0 ≡ get_or l.row i 0 ⊕ digits_at l.parts l.c i)
