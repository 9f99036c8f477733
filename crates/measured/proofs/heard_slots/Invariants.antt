-- Each turn asks for one slot.
use mathlib.Core.Path.{◌≡◌}
use Prim.Native.Nat.{◌≤◌}
use Rattle.measured.specs.Timed.{heard_slots}
use Rattle.measured.proofs.heard_slots.Given as goal

abbrev pub invariant-loop-slot : goal.invariant-loop-slot
invariant-loop-slot l = (l.heard ≤ l.slot) × (l.heard ≡ heard_slots l.settings l.first l.second l.slot)
