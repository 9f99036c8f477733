-- The bits at each turn are those of the bytes passed, so no half of such a byte is above theirs.
use mathlib.Core.Path.{◌≡◌}
use Rattle.halves.specs.Halves.{bits_of}
use Rattle.halves.proofs.bits_used.Given as goal

abbrev pub invariant-loop-half : goal.invariant-loop-half
invariant-loop-half l =
    l.bits ≡ bits_of l.halves l.half-index
