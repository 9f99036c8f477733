-- The report of a frame in cut buffers.
use Rattle.cuts.proofs.Cutting.{heard}
use Rattle.trace.proofs.lent.heard.Goals as goal

pub returns : goal.returns
returns g c =
    heard _ _ _ _ _ _ _ _ _ c.receiver_at-x.ensures c.end-rows_end.ensures c.end-frame_end.ensures c.end-buffer_end.ensures
    c.heard-reported.ensures
