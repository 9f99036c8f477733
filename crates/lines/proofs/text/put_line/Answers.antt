-- A refusal has the line of its cause's number.
use Rattle.lines.specs.Text.{line_of}
use Rattle.lines.proofs.text.put_line.Goals as goal

pub returns-in-Err : goal.returns-in-Err
unfolding line_of
returns-in-Err c =
    rw (c.in-Err.is, ← c.from.ensures) c.put_stop.ensures
