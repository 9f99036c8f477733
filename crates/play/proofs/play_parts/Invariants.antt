-- Each part that is not the last leaves less to play, and the buffers keep their lengths.
use Rattle.std.proofs.Common.{◌≡◌, ◌+◌, ◌*◌, ◌≤◌, length}
use Rattle.play.proofs.play_parts.Given as goal

abbrev pub invariant-loop-p : goal.invariant-loop-p
invariant-loop-p g l =
    g.R.Recorded.accepts l.recorded l.p.receiver.settings × (18 + 2 * length l.message ≤ length l.out)
    × (length l.rows ≡ length l.initial.rows) × (length l.message ≡ length l.initial.message) × (length l.out ≡ length l.initial.out)

abbrev pub decreases-loop-p : goal.decreases-loop-p
decreases-loop-p g l = g.R.Recorded.left l.recorded l.p
