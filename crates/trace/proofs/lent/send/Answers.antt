-- The send in cut buffers.
use Rattle.cuts.proofs.Cutting.{sent}
use Rattle.trace.proofs.lent.send.Goals as goal

pub returns : goal.returns
returns g c =
    sent _ _ _ _ _ _ _ _ _ c.sender_at-x.ensures c.end-rows_end.ensures c.end-message_end.ensures c.end-frame_end.ensures
    c.send-sent.ensures
