-- One division.
use native.Mathlib.Omega.{arith}
use Rattle.aerials.specs.Pair.{frames_in}
use Rattle.aerials.proofs.FrameLaws.{frame_long}
use Rattle.joiner.proofs.recorded.Recorded.len.Goals as goal

pub nonzero_div-result : goal.nonzero_div-result
nonzero_div-result c =
    omega (arith, c.frame_len.ensures, frame_long c.args.self.settings)

pub returns : goal.returns
unfolding frames_in
returns c =
    rw c.frame_len.ensures
