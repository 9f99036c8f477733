-- The length that the lent settings give.
use Rattle.protocol.specs.Lengths.{receiver_len}
use Rattle.library.proofs.Outcomes.{length_for_lem}
use Rattle.tob.proofs.lengths.tob_receiver_len.Goals as goal

pub returns : goal.returns
returns c =
    length_for_lem receiver_len _ c.settings_at-s.ensures c.receiver_len.ensures c.or_zero.ensures
