-- The opening of the sender in cut rows.
use Rattle.cuts.proofs.Cutting.{sender_opened}
use Rattle.trace.proofs.lent.open_sender.Goals as goal

pub returns : goal.returns
returns g c =
    sender_opened _ _ _ _ c.end-rows_end.ensures _ c.open-opened.ensures
