-- The test is that of the definition.
use borrow.Author.Tests.{lt-ltb, le-ltb}
use mathlib.Core.Path.{ap}
use Prim.Native.Nat.{ℕ, ◌+◌}
use native.Mathlib.Omega.{arith}
use Rattle.code.proofs.Shape.{shape}
use Rattle.protocol.specs.Lengths.{row_len, receiver_len}
use Rattle.places.proofs.Places.{rows_few}
use Rattle.places.proofs.starts.next_start.Goals as goal

pub overflow_add-next : goal.overflow_add-next
overflow_add-next c =
    omega (arith, rows_few c.args.s (shape c.args.s c.requires.0))

pub returns-then-next-receiver_len : goal.returns-then-next-receiver_len
returns-then-next-receiver_len c =
    rw (lt-ltb (c.args.start + row_len c.args.s) (receiver_len c.args.s) (omega arith)) (ap (λ (m : ℕ). c.args.start + m) c.row_len.ensures)

pub returns-else-next-receiver_len : goal.returns-else-next-receiver_len
returns-else-next-receiver_len c =
    rw (le-ltb (c.args.start + row_len c.args.s) (receiver_len c.args.s) (omega arith))
