-- The loop does one parity position a turn, and clears its flag where it becomes a pivot.
use mathlib.Core.Path.{◌≡◌}
use Prim.Native.Nat.{◌-◌}
use Rattle.code.specs.Settings.{k_of}
use Rattle.code.proofs.Shape.{Shape}
use Rattle.elimination.specs.Elimination.{columns, known_in, left_after}
use Rattle.reduction.proofs.eliminate.Given as goal

abbrev pub invariant-loop-p : goal.invariant-loop-p
invariant-loop-p l = record {
  shaped : Shape l.s;
  reduced : l.reduced ≡ columns l.s (known_in l.s l.initial.flags) l.initial.reduced (l.p - k_of l.s);
  left : l.flags ≡ left_after l.s l.initial.reduced l.initial.flags (l.p - k_of l.s);
}
