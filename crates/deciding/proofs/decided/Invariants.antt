-- One source symbol a turn: the grade is that of the symbols before i, and while it is whole the message is done up to symbol i.
use mathlib.Core.Path.{◌≡◌}
use Prim.Native.Nat.{ℕ, ◌*◌, ◌<◌}
use lib.ListN.{length, get_or}
use Rattle.code.proofs.Shape.{Shape}
use Rattle.elimination.specs.declared.grade.Grade.TheVariants.{Whole}
use Rattle.protocol.specs.Lengths.{message_len}
use Rattle.symbols.specs.Decision.{symbols_grade, shared_byte}
use Rattle.deciding.proofs.decided.Given as goal

abbrev pub invariant-loop-i : goal.invariant-loop-i
invariant-loop-i l = record {
  shaped : Shape l.s;
  long : length l.message ≡ message_len l.s;
  graded : l.worst ≡ symbols_grade l.s l.rows l.due l.t l.i;
  done : l.worst ≡ Whole → (q : ℕ) → q < l.i * l.s.lanes → get_or l.message q 0 ≡ shared_byte l.s l.rows l.due l.t q;
}
