-- The loop adds one multiple a turn: before m it has cancelled the source symbols i + 1 to m - 1.
use mathlib.Core.Path.{◌≡◌}
use mathlib.Core.List.{[], List}
use Prim.Native.Nat.{ℕ, ◌+◌, ◌-◌}
use lib.ListN.{get_or}
use Rattle.galois.specs.Byte.{◌⊕◌, ◌⊗◌}
use Rattle.galois.specs.Sum.{sum}
use Rattle.galois.specs.Table.{table}
use Rattle.encoder.proofs.cancelled.Given as goal

abbrev pub reached : List ℕ → List (List ℕ) → ℕ → ℕ → ℕ → ℕ
reached row done i m p = get_or row p 0 ⊕ sum (m - (i + 1)) (λ e. get_or row (i + 1 + e) 0 ⊗ get_or (get_or done (i + 1 + e) []) p 0)

abbrev pub invariant-loop-m : goal.invariant-loop-m
invariant-loop-m l = l.out ≡ table 16 (reached l.row l.done l.i l.m)
