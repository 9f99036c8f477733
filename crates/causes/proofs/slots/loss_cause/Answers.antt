-- The table of a call in a slot, with the lengths of this one.
use Rattle.protocol.specs.Causes.{slot_cause, loss_cause}
use Rattle.causes.proofs.slots.loss_cause.Goals as goal

pub returns : goal.returns
unfolding slot_cause loss_cause
returns c = cc
