-- What the code answers for the reciprocal of a narrow number, in the words of the definition.
use Rattle.std.specs.Prelude.{Option}
use Rattle.galois.specs.Reciprocal.{Reciprocal}
use Rattle.galois.specs.Reciprocal as definition
use Rattle.gf16.specs.declared.Gf16.{Gf16}

-- none, or the number of the element
abbrev pub answered : Option Gf16 → Reciprocal
answered = definition.answered (λ x. x.0)
