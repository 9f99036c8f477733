-- The word, the number and the line's end, one after the other.
use mathlib.Core.Path.{◌≡◌, ap, ◌∙◌}
use mathlib.Core.List.{List}
use native.Mathlib.Omega.{arith}
use Prim.Native.Nat.{ℕ, ◌+◌, ◌≤◌}
use lib.ListN.{length, length-set}
use Rattle.numbers.specs.Digits.{decimal}
use Rattle.numbers.proofs.Decimals.{decimal_length}
use Rattle.lines.specs.Text.{stop_word, written}
use Rattle.lines.specs.Lent.{stop_room}
use Rattle.lines.proofs.TextLaws.{written_length}
use Rattle.lines.proofs.WrittenLines.{number_length, stop_written}
use Rattle.lines.proofs.text.put_stop.Goals as goal

-- the word leaves the line's length
kept : (line part : List ℕ) → stop_room ≤ length line → part ≡ written stop_word line → length part ≡ length line
kept line part room begun = ap length begun ∙ written_length stop_word line (omega (arith, room))

-- the number ends within 15 bytes
short : (n at : ℕ) → at ≡ 5 + length (decimal n) → at ≤ 15
short n at ended = omega (arith, ended, decimal_length n)

pub write_decimal-at-requires : goal.write_decimal-at-requires
unfolding written
write_decimal-at-requires c =
    omega (arith, c.requires, decimal_length c.args.n, kept c.args.line.now _ c.requires c.write_at.ensures)

pub bounds-line-at : goal.bounds-line-at
unfolding written
bounds-line-at c =
    let d = c.write_decimal-at.ensures in
    omega (arith, c.requires, short _ _ d.0, number_length c.args.line.now c.requires _ _ _ _ d.0 c.write_at.ensures d.1)

pub overflow_add-result : goal.overflow_add-result
overflow_add-result c =
    omega (arith, short _ _ c.write_decimal-at.ensures.0)

pub shape_of-line : goal.shape_of-line
unfolding written
shape_of-line c =
    let d = c.write_decimal-at in
    length-set d.new.line d.result 10
    ∙ number_length c.args.line.now c.requires _ _ _ _ d.ensures.0 c.write_at.ensures d.ensures.1

pub returns : goal.returns
unfolding written
returns c =
    let d = c.write_decimal-at.ensures in
    stop_written c.args.line.now c.requires _ _ _ _ d.0 c.write_at.ensures d.1
