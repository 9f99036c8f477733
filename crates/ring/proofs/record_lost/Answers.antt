-- Zeros are put over the row.
use mathlib.Core.Path.{◌≡◌}
use mathlib.Core.List.{List}
use Rattle.std.proofs.Common.{ℕ, ◌+◌, ◌-◌, ◌*◌, ◌≤◌, length, take, drop, replicate, arith}
use Rattle.std.proofs.lemmas.Grind.{common_steps}
use Rattle.std.proofs.lemmas.Slice.{overwrites}
use borrow.Rule.Slice.PartMut.{put_mid}
use Rattle.protocol.specs.Rows.{put_row}
use Rattle.ring.proofs.record_lost.Goals as goal

written : (rows filled : List ℕ) (r size n start : ℕ) → n ≡ size → start ≡ r * size → start + size ≤ length rows
    → filled ≡ replicate (length (take (start + n - start) (drop start rows))) 0
    → put_mid start (start + n - start) rows filled ≡ put_row size r (replicate size 0) rows
unfolding put_row
written rows filled r size n start same place fits zeros = grind (arith, common_steps, overwrites)

pub returns : goal.returns
returns c =
    written c.args.rows.now c.fill.new.self _ _ c.row_len.result c.row_start-start.result
    c.row_len.ensures c.row_start-start.ensures.start (omega arith) (c.fill.ensures.after (λ y e. e))
