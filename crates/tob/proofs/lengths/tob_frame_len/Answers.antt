-- The length that the lent settings give.
use Rattle.protocol.specs.Lengths.{frame_len}
use Rattle.library.proofs.Outcomes.{length_for_lem}
use Rattle.tob.proofs.lengths.tob_frame_len.Goals as goal

pub returns : goal.returns
returns c =
    length_for_lem frame_len _ c.settings_at-s.ensures c.frame_len.ensures c.or_zero.ensures
