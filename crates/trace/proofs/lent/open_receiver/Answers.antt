-- The opening of the receiver in cut rows.
use Rattle.cuts.proofs.Cutting.{receiver_opened}
use Rattle.trace.proofs.lent.open_receiver.Goals as goal

pub returns : goal.returns
returns g c =
    receiver_opened _ _ _ _ c.end-rows_end.ensures _ _ c.open-opened.ensures
