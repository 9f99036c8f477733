-- The digits, and the word from their end.
use mathlib.Core.Path.{◌≡◌, ap, ◌∙◌}
use mathlib.Core.List.{List, ◌++◌}
use native.Mathlib.Nat.{zero-add}
use native.Mathlib.Omega.{arith}
use Prim.Native.Nat.{ℕ, ◌+◌, ◌≤◌}
use lib.ListN.{length}
use Rattle.numbers.specs.Digits.{decimal, put}
use Rattle.numbers.proofs.Decimals.{decimal_length}
use Rattle.lines.specs.Text.{written}
use Rattle.lines.proofs.TextLaws.{written_length, put_written}
use Rattle.lines.proofs.WrittenLines.{joined, joined_end, joined_length}
use Rattle.lines.proofs.text.write_word.Goals as goal

-- the digits stand at the line's start
module _ (n at : ℕ) (line part : List ℕ) (is_at : at ≡ 0 + length (decimal n)) (is-part : part ≡ put 0 (decimal n) line) where
  ended : at ≡ length (decimal n)
  ended = is_at ∙ zero-add (length (decimal n))

  begun : part ≡ written (decimal n) line
  begun = is-part ∙ put_written (decimal n) line

  short : at ≤ 10
  short = omega (arith, ended, decimal_length n)

  kept : 10 ≤ length line → length part ≡ length line
  kept room = ap length begun ∙ written_length (decimal n) line (omega (arith, decimal_length n))

  -- and the word behind them
  module _ (word whole : List ℕ) (is_whole : whole ≡ put at word part) where
    both_kept : at + length word ≤ length line → length whole ≡ length line
    both_kept = joined_length (decimal n) word line at part whole ended begun is_whole

    both_written : (at + length word ≡ length (decimal n ++ word)) × (whole ≡ written (decimal n ++ word) line)
    both_written =
        let text : List ℕ = decimal n in
        (joined_end text word line at part whole ended begun is_whole, joined text word line at part whole ended begun is_whole)

pub write_decimal-at-requires : goal.write_decimal-at-requires
write_decimal-at-requires c =
    omega (arith, decimal_length c.args.about)

pub write_at-requires : goal.write_at-requires
write_at-requires c =
    let d = c.write_decimal-at.ensures in
    omega (arith, short _ _ _ _ d.0 d.1, kept _ _ _ _ d.0 d.1 (omega arith))

pub overflow_add-result : goal.overflow_add-result
overflow_add-result c =
    omega (arith, short _ _ _ _ c.write_decimal-at.ensures.0 c.write_decimal-at.ensures.1)

pub shape_of-line : goal.shape_of-line
unfolding put
shape_of-line c =
    let d = c.write_decimal-at.ensures in
    both_kept c.args.about _ c.args.line.now _ d.0 d.1 c.args.word.now _ c.write_at.ensures
    (omega (arith, short c.args.about _ c.args.line.now _ d.0 d.1))

pub returns : goal.returns
unfolding put
returns c =
    let d = c.write_decimal-at.ensures in
    both_written c.args.about _ c.args.line.now _ d.0 d.1 c.args.word.now _ c.write_at.ensures
