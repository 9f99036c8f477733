-- A line without room stays; else the line of `stop` is written.
use mathlib.Core.Path.{ap₂, ◌∙◌}
use mathlib.Core.List.{List}
use native.Mathlib.Omega.{arith}
use Prim.Native.Nat.{ℕ}
use Rattle.lines.specs.Lent.{Line}
use Rattle.lines.proofs.LentLines.{stop_stays, stop_lent}
use Rattle.lines.proofs.write_stop_number.Goals as goal

abbrev lent : List ℕ → ℕ → Line
lent line len = record { line = line; len = len }

pub returns-then-line-ge16 : goal.returns-then-line-ge16
returns-then-line-ge16 c =
    ap₂ lent c.put_stop.ensures.1 c.put_stop.ensures.0 ∙ stop_lent c.args.n c.args.line.now (omega arith)

pub returns-else-line-ge16 : goal.returns-else-line-ge16
returns-else-line-ge16 c =
    stop_stays c.args.n c.args.line.now (omega arith)
