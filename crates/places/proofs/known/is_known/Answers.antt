-- The test is that of the definition.
use borrow.Author.Tests.{lt-ltb, le-ltb}
use native.Mathlib.Omega.{arith}
use Rattle.places.specs.Places.{known_flag}
use Rattle.places.proofs.known.is_known.Goals as goal

pub returns-then-slot-end : goal.returns-then-slot-end
unfolding known_flag
returns-then-slot-end c = rw (lt-ltb c.args.slot c.args.end (omega arith))

pub returns-else-slot-end : goal.returns-else-slot-end
unfolding known_flag
returns-else-slot-end c = rw (le-ltb c.args.slot c.args.end (omega arith))
