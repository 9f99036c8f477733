-- The line of the cause's number.
use mathlib.Core.Path.{ap, ◌∙◌}
use Prim.Native.Nat.{ℕ}
use Rattle.lines.specs.Lent.{stop_text_on}
use Rattle.lines.proofs.write_stop.Goals as goal

pub returns : goal.returns
returns c =
    c.write_stop_number.ensures ∙ ap (λ (n : ℕ). stop_text_on n c.args.line.now) c.from.ensures
