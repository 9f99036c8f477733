-- What the code answers for the reciprocal of a byte, in the words of the definition.
use Rattle.std.specs.Prelude.{Option}
use Rattle.galois.specs.Reciprocal.{Reciprocal}
use Rattle.galois.specs.Reciprocal as definition
use Rattle.gf256.specs.declared.Gf256.{Gf256}

-- none, or the number of the element
abbrev pub answered : Option Gf256 → Reciprocal
answered = definition.answered (λ x. x.0)
