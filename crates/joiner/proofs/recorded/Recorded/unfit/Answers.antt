-- Two tests.
use borrow.Author.Tests.{lt-ltb, le-ltb}
use native.Mathlib.Omega.{arith}
use lib.ListN.{length}
use Rattle.aerials.specs.Pair.{unfit}
use Rattle.aerials.proofs.FrameLaws.{frame_long}
use Rattle.joiner.proofs.recorded.Recorded.unfit.Goals as goal

pub nonzero_rem-result : goal.nonzero_rem-result
nonzero_rem-result c =
    omega (arith, c.frame_len.ensures, frame_long c.args.self.settings)

pub returns-then-self-gt-LONGEST : goal.returns-then-self-gt-LONGEST
unfolding unfit
returns-then-self-gt-LONGEST c =
    rw (lt-ltb 65536 (length c.args.self.bytes.now) c.if-self-gt-LONGEST.true)

pub returns-else-self-gt-LONGEST : goal.returns-else-self-gt-LONGEST
unfolding unfit
returns-else-self-gt-LONGEST c =
    rw (le-ltb 65536 (length c.args.self.bytes.now) c.if-self-gt-LONGEST.false, c.frame_len.ensures)
