-- What is known where the slot due or a frame's slot was read.
use Rattle.std.specs.Prelude.{Ok}
use mathlib.Core.Path.{◌≡◌}
use mathlib.Core.List.{List}
use Prim.Native.Nat.{ℕ, ◌≤◌}
use lib.Dec.{eqb, eqb→eq}
use lib.ListN.{length}
use borrow.Author.Tests.{ltb-false}
use Rattle.protocol.specs.declared.Cause.TheVariants.{BadLength}
use Rattle.protocol.proofs.CauseTables.{none_holds, passes}
use Rattle.frames.specs.Fields.{slot_read_table, slot_read_cause}
use Rattle.state.specs.State.{state_len, due_read_table, due_read_cause}

-- a state that gives no cause has its length
pub due_sized : (state : List ℕ) → due_read_cause state ≡ Ok tt → length state ≡ state_len
unfolding due_read_cause
due_sized state none =
    eqb→eq (length state) state_len (passes (eqb (length state) state_len) (none_holds (due_read_table state) none BadLength))

-- a frame that gives none has a header's length or more
pub frame_sized : (frame : List ℕ) → slot_read_cause frame ≡ Ok tt → 14 ≤ length frame
unfolding slot_read_cause
frame_sized frame none = ltb-false (length frame) 14 (none_holds (slot_read_table frame) none BadLength)
