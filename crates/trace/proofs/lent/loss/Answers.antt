-- The report of a loss in cut buffers.
use Rattle.cuts.proofs.Cutting.{lost}
use Rattle.trace.proofs.lent.loss.Goals as goal

pub returns : goal.returns
returns g c =
    lost _ _ _ _ _ _ _ c.receiver_at-x.ensures c.end-rows_end.ensures c.end-buffer_end.ensures c.loss-reported.ensures
