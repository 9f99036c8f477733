-- A row below k + T, which lies within the rows.
use borrow.Author.Rules.{rules}
use native.Mathlib.Omega.{arith}
use Rattle.protocol.specs.Lengths.{receiver_len}
use mathlib.Core.Path.{refl}
use Rattle.protocol.proofs.LengthBounds.{receiver_small}
use Rattle.ring.proofs.RowEnds.{some_row, due_ends}
use Rattle.ring.proofs.row_start.Goals as goal

pub nonzero_rem-result : goal.nonzero_rem-result
nonzero_rem-result c =
    rw c.row_count.ensures (some_row c.args.s)

pub overflow_mul-result : goal.overflow_mul-result
unfolding receiver_len
overflow_mul-result c =
    rw (c.row_count.ensures, c.row_len.ensures)
    (omega (arith, due_ends c.args.s c.args.due, receiver_small c.args.s (search rules) (search rules) (search rules)))

pub returns : goal.returns
returns c = record {
  start = rw (c.row_count.ensures, c.row_len.ensures) refl;
  within = rw (c.row_count.ensures, c.row_len.ensures) (due_ends c.args.s c.args.due);
}
