-- There is room, so the line of `stop` is written.
use mathlib.Core.Path.{refl}
use native.Mathlib.Omega.{arith}
use Rattle.protocol.specs.Causes.{number_of}
use Rattle.lines.proofs.LentLines.{stop_parts}
use Rattle.progress.proofs.stopped.Goals as goal

pub returns : goal.returns
returns c =
    let wrote = stop_parts (number_of c.args.c) c.args.line.now _ _ c.write_stop-len.ensures (omega arith) in
    record { player = refl; len = wrote.0; over = refl; line = wrote.1 }
