-- The loop fills the rows from the front.
use Rattle.std.proofs.Common.{length, arith}
use Rattle.galois.proofs.ByIndex.{is_table}
use Rattle.ring.specs.Bytes.{opened_byte}
use Rattle.ring.proofs.write_opened.Goals as goal

pub returns : goal.returns
returns c =
    is_table (length c.args.rows.now) (opened_byte c.args.size c.args.lost) 0 c.loop-q.rows c.loop-q.auto.rows
    (λ j h. c.loop-q.invariant j (omega arith))
