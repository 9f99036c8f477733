-- The loop pastes the two digits of a byte a turn.
use mathlib.Core.Path.{◌≡◌}
use Prim.Native.Nat.{◌*◌}
use lib.Seq.{paste}
use Rattle.numbers.specs.Digits.{hex}
use Rattle.numbers.proofs.write_hex.Given as goal

abbrev pub invariant-loop-i : goal.invariant-loop-i
invariant-loop-i l = l.line ≡ paste l.initial.line l.start (hex l.bytes) (2 * l.i)
