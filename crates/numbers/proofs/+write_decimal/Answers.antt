-- The digits of the tenth, if it has any, and then the last one.
use Rattle.std.proofs.Common.{ℕ, ◌/◌, length, ap, ◌∙◌, ◌∷◌, [], ◌%◌, arith, length-append}
use Rattle.numbers.specs.Digits.{decimal, glyph}
use Rattle.numbers.proofs.Decimals.{one_digit, last_digit, decimal_length}
use Rattle.numbers.proofs.DecimalsPut.{Begun, none_before, tenth_before, last_place, last_within, last_put}
use Rattle.numbers.proofs.+write_decimal.Goals as goal
use Rattle.numbers.proofs.+write_decimal.Goals.{then-n-lt10, else-n-lt10}

pub write_decimal-at-requires : goal.write_decimal-at-requires
write_decimal-at-requires t c =
    let n : ℕ = c.args.n in
    let one_more = ap length (last_digit n (omega arith) (omega arith)) ∙ length-append (decimal (n / 10)) (glyph (n % 10) ∷ []) in
    (omega arith, omega (arith, one_more))

pub bounds-line-at : goal.bounds-line-at
bounds-line-at t c =
    let begun : Begun c.args.n c.args.line.now c.args.start c.if-n-lt10.at c.if-n-lt10.line =
    elim c.if-n-lt10.branch [
      | then-n-lt10 w ↦ none_before _ _ _ _ _ w.if-n-lt10.true (omega arith) w.at-is w.line-is
      | else-n-lt10 w ↦
          let tenth = w.write_decimal-at.ensures in
          tenth_before _ _ _ _ _ (omega arith) w.if-n-lt10.false (w.at-is ∙ tenth.0) (w.line-is ∙ tenth.1)
    ] in
    last_within _ _ _ _ _ begun c.requires

pub overflow_add-result : goal.overflow_add-result
overflow_add-result t c =
    elim c.if-n-lt10.branch [
      | then-n-lt10 w ↦ omega (arith, ap length (one_digit c.args.n w.if-n-lt10.true))
      | else-n-lt10 w ↦ omega (arith, decimal_length (c.args.n / 10))
    ]

pub returns : goal.returns
returns t c =
    let begun : Begun c.args.n c.args.line.now c.args.start c.if-n-lt10.at c.if-n-lt10.line =
    elim c.if-n-lt10.branch [
      | then-n-lt10 w ↦ none_before _ _ _ _ _ w.if-n-lt10.true (omega arith) w.at-is w.line-is
      | else-n-lt10 w ↦
          let tenth = w.write_decimal-at.ensures in
          tenth_before _ _ _ _ _ (omega arith) w.if-n-lt10.false (w.at-is ∙ tenth.0) (w.line-is ∙ tenth.1)
    ] in
    (last_place _ _ _ _ _ begun, last_put _ _ _ _ _ begun c.requires c.digit.result c.digit.ensures)
