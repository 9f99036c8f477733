-- The sources, which have no flags, and what the loop has passed are no known positions at which a lane clashes.
use mathlib.Core.Bool.{◌&&◌}
use Prim.Native.Nat.{ℕ, ◌<◌}
use lib.Dec.{T}
use Rattle.elimination.specs.Elimination.{known_in}
use Rattle.clashes.specs.Clashes.{sum_clash}
use Rattle.clashes.proofs.clashing.Given as goal

abbrev pub invariant-loop-q : goal.invariant-loop-q
invariant-loop-q l =
    let words = l.vectors.words in
    (p : ℕ) → p < l.q
    → T (known_in words.s l.flags p && sum_clash words.s l.rows l.vectors.table.now words.places.now words.bytes.now p) → ⊥
