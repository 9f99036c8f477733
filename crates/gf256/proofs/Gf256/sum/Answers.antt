-- `sum` is exclusive or.
use mathlib.Core.Path.{refl}
use Rattle.galois.specs.Byte.{◌⊕◌}
use Rattle.gf256.proofs.Gf256.sum.Goals as goal

pub returns : goal.returns
unfolding ◌⊕◌
returns c =
    refl
