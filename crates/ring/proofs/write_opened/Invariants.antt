-- The loop fills the rows from the front.
use Rattle.std.proofs.Common.{◌≡◌, ℕ, ◌<◌, get_or}
use Rattle.ring.specs.Bytes.{opened_byte}
use Rattle.ring.proofs.write_opened.Given as goal

abbrev pub invariant-loop-q : goal.invariant-loop-q
invariant-loop-q l = (j : ℕ) → j < l.q → get_or l.rows j 0 ≡ opened_byte l.size l.lost j
