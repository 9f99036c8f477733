-- The opening's rows and receiver, and a message buffer that is cleared.
use mathlib.Core.Path.{ap₂}
use mathlib.Core.List.{List}
use Prim.Native.Nat.{ℕ}
use Rattle.protocol.specs.Calls.{OpenedReceiver}
use Rattle.steps.specs.Steps.{Begun, begin_of}
use Rattle.steps.proofs.begin.Goals as goal

abbrev begun : List ℕ → OpenedReceiver → Begun
begun message o = record { player = record { receiver = o.receiver; offset = 0 }; rows = o.rows; message = message }

pub returns : goal.returns
unfolding begin_of
returns c =
    ap₂ begun c.clear.ensures c.open-opened.ensures
