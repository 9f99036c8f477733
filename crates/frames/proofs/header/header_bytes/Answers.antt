-- The parts stand one after the other.
use Rattle.std.proofs.Common.{refl, ◌∙◌}
use Rattle.protocol.specs.Frame.{mark, five, slot_bytes, header}
use Rattle.frames.proofs.header.header_bytes.Goals as goal

pub returns : goal.returns
unfolding mark five slot_bytes header
returns c =
    rw (
      c.copy_from_slice.ensures.after,
      c.copy_from_slice-2.ensures.after ∙ c.to_be_bytes.ensures,
      c.copy_from_slice-3.ensures.after ∙ c.settings_bytes.ensures,
      c.copy_from_slice-4.ensures.after ∙ c.to_be_bytes-2.ensures,
    ) refl
