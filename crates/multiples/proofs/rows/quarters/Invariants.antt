-- The loop fills the 16 rows place by place; each byte is a multiple of the row's byte, made from those before it.
use Rattle.multiples.proofs.Multiples.{Filled}
use Rattle.multiples.proofs.rows.quarters.Given as goal

abbrev pub invariant-loop-j : goal.invariant-loop-j
invariant-loop-j l =
    Filled l.row l.j 0 l.out
