-- Widening keeps a narrow number, and gives 0 for a number above 15.
use mathlib.Core.Path.{sym}
use native.Mathlib.Omega.{arith}
use Rattle.galois.proofs.Extension.{widen_narrow, widen_above}
use Rattle.gf256.proofs.Gf256.widened.Goals as goal

pub returns-then-number-gt15 : goal.returns-then-number-gt15
returns-then-number-gt15 c =
    sym (widen_above c.args.number.0 (omega arith))

pub returns-else-number-gt15 : goal.returns-else-number-gt15
returns-else-number-gt15 c =
    sym (widen_narrow c.args.number.0 (omega arith))
