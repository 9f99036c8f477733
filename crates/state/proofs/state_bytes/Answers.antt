-- The parts stand one after the other, and then what they leave of the zeros.
use Rattle.std.proofs.Common.{refl, ◌∙◌, arith}
use Rattle.protocol.specs.Frame.{five, slot_bytes}
use Rattle.state.specs.State.{state_bytes}
use Rattle.state.proofs.state_bytes.Goals as goal

pub slice_bounds-bytes-end-4 : goal.slice_bounds-bytes-end-4
unfolding five
slice_bounds-bytes-end-4 c =
    rw (
      c.copy_from_slice.ensures.after ∙ c.mark_of.ensures,
      c.copy_from_slice-2.ensures.after ∙ c.settings_bytes.ensures,
      c.copy_from_slice-3.ensures.after ∙ c.to_be_bytes.ensures,
    ) (omega arith)

pub returns : goal.returns
unfolding five slot_bytes state_bytes
returns c =
    rw (
      c.copy_from_slice.ensures.after ∙ c.mark_of.ensures,
      c.copy_from_slice-2.ensures.after ∙ c.settings_bytes.ensures,
      c.copy_from_slice-3.ensures.after ∙ c.to_be_bytes.ensures,
      c.copy_from_slice-4.ensures.after ∙ c.to_be_bytes-2.ensures,
    ) refl
