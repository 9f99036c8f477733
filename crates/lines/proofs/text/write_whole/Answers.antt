-- The number and the word, the message's digits from their end, and the line's end.
use mathlib.Core.Path.{◌≡◌, ap, ◌∙◌}
use mathlib.Core.List.{List, ◌++◌}
use native.Mathlib.Omega.{arith}
use Prim.Native.Nat.{ℕ, ◌+◌, ◌*◌, ◌≤◌}
use lib.ListN.{length, length-set}
use Rattle.numbers.specs.Digits.{decimal, hex}
use Rattle.numbers.proofs.HexDigits.{hex_length}
use Rattle.lines.specs.Text.{whole_word, written}
use Rattle.lines.proofs.TextLaws.{written_length}
use Rattle.lines.proofs.WrittenLines.{word_fits, digits_length, whole_written}
use Rattle.lines.proofs.text.write_whole.Goals as goal

-- the number and the word leave the line's length
kept : (n : ℕ) (line part : List ℕ) → 17 ≤ length line → part ≡ written (decimal n ++ whole_word) line → length part ≡ length line
kept n line part room begun =
    ap length begun ∙ written_length (decimal n ++ whole_word) line (omega (arith, word_fits n))

-- the digits end within 17 bytes and two for each byte of the message
short : (n at end : ℕ) (message : List ℕ) → at ≡ length (decimal n ++ whole_word) → end ≡ at + length (hex message)
    → end ≤ 17 + 2 * length message
short n at end message begun ended = omega (arith, begun, ended, word_fits n, hex_length message)

pub write_hex-end-requires : goal.write_hex-end-requires
write_hex-end-requires c =
    let w = c.write_word-start.ensures in
    omega (arith, w.0, word_fits c.args.about, kept c.args.about c.args.line.now _ (omega arith) w.1)

pub bounds-line-end : goal.bounds-line-end
bounds-line-end c =
    let w = c.write_word-start.ensures in
    let d = c.write_hex-end.ensures in
    omega (arith, c.requires, short _ _ _ _ w.0 d.0, digits_length _ _ c.args.line.now c.requires _ _ _ _ w.0 d.0 w.1 d.1)

pub overflow_add-result : goal.overflow_add-result
overflow_add-result c =
    omega (arith, c.requires, short _ _ _ _ c.write_word-start.ensures.0 c.write_hex-end.ensures.0)

pub shape_of-line : goal.shape_of-line
shape_of-line c =
    let w = c.write_word-start.ensures in
    let d = c.write_hex-end in
    length-set d.new.line d.result 10 ∙ digits_length _ _ c.args.line.now c.requires _ _ _ _ w.0 d.ensures.0 w.1 d.ensures.1

pub returns : goal.returns
returns c =
    let w = c.write_word-start.ensures in
    let d = c.write_hex-end.ensures in
    whole_written _ _ c.args.line.now c.requires _ _ _ _ w.0 d.0 w.1 d.1
