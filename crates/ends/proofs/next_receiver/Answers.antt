-- The slot after the last one fits its 32 bits.
use borrow.Author.Rules.{rules}
use Rattle.protocol.specs.Lengths.{last_slot}
use Rattle.ends.proofs.next_receiver.Goals as goal

pub overflow_add-x : goal.overflow_add-x
unfolding last_slot
overflow_add-x c = search rules
