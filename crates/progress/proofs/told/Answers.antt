-- There is room, so the line is that of the report.
use mathlib.Core.Path.{refl, ap, ◌∙◌}
use Prim.Native.Nat.{ℕ}
use lib.ListN.{length}
use Rattle.lines.specs.Text.{line_of, written}
use Rattle.lines.specs.Lent.{longest}
use Rattle.lines.proofs.LentLines.{line_parts}
use Rattle.progress.proofs.told.Goals as goal

pub returns : goal.returns
unfolding longest
returns c =
    let wrote = line_parts c.about.result c.args.r.answer c.args.message.now c.args.line.now _ _ c.write_line-len.ensures c.requires in
    let len = wrote.0 ∙ ap (λ (t : ℕ). length (line_of t c.args.r.answer c.args.message.now)) c.about.ensures in
    let line = wrote.1 ∙ ap (λ (t : ℕ). written (line_of t c.args.r.answer c.args.message.now) c.args.line.now) c.about.ensures in
    record { player = refl; len = len; over = c.is_err.ensures.value; line = line }
