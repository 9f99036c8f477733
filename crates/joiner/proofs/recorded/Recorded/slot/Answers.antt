-- The slot is read of the frame.
use mathlib.Core.Path.{◌∙◌, ap}
use Rattle.frames.specs.Fields.{slot_in}
use Rattle.aerials.specs.Pair.{slot_of}
use Rattle.joiner.proofs.recorded.Recorded.slot.Goals as goal

pub returns : goal.returns
unfolding slot_of
returns c = c.slot_of.ensures ∙ ap slot_in c.frame.ensures.bytes
