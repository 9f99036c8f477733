-- The length that the lent settings give.
use Rattle.protocol.specs.Lengths.{message_len}
use Rattle.library.proofs.Outcomes.{length_for_lem}
use Rattle.tob.proofs.lengths.tob_message_len.Goals as goal

pub returns : goal.returns
returns c =
    length_for_lem message_len _ c.settings_at-s.ensures c.message_len.ensures c.or_zero.ensures
