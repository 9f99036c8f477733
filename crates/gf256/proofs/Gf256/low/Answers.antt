-- `low` is the remainder by 16.
use mathlib.Core.Path.{refl}
use Rattle.galois.specs.Byte.{low}
use Rattle.gf256.proofs.Gf256.low.Goals as goal

pub returns : goal.returns
unfolding low
returns c =
    refl
