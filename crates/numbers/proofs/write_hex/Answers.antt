-- The loop pastes the two digits of a byte a turn.
use Rattle.std.proofs.Common.{◌≡◌, ◌∙◌, ap, List, ◌++◌, ℕ, ◌+◌, ◌*◌, length, take, drop, set, arith}
use lib.Seq.{paste, take-length}
use Rattle.numbers.specs.Digits.{hex, put}
use Rattle.numbers.proofs.HexDigits.{hex_length, byte_pasted}
use Rattle.numbers.proofs.write_hex.Goals as goal

pub loop-i-preserved : goal.loop-i-preserved
loop-i-preserved c =
    let at : ℕ = c.args.start + 2 * c.loop-i.i in
    ap (λ (l : List ℕ). set (set l at c.digit.result) (at + 1) c.digit-in-loop-i.result)
    c.loop-i.invariant
    ∙ byte_pasted c.args.bytes.now c.args.line.now c.args.start c.loop-i.i c.digit.result c.digit-in-loop-i.result
    (omega arith) (omega arith) c.digit.ensures c.digit-in-loop-i.ensures

pub returns : goal.returns
unfolding put
returns c =
    let text : List ℕ = hex c.args.bytes.now in
    let size : length text ≡ 2 * length c.args.bytes.now = hex_length c.args.bytes.now in
    let all : 2 * c.loop-i.i ≡ length text = omega arith in (
      omega arith,
      c.loop-i.invariant ∙ ap (λ (k : ℕ). paste c.args.line.now c.args.start text k) all
          ∙ ap (λ (l : List ℕ). take c.args.start c.args.line.now ++ l ++ drop (c.args.start + length text) c.args.line.now)
          (take-length text),
    )
