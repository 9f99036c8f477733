-- `high` is the quotient by 16, which is below 16 for a byte.
use native.Mathlib.Omega.{arith}
use Rattle.galois.specs.Byte.{high}
use Rattle.gf256.proofs.Gf256.high.Goals as goal

pub returns : goal.returns
unfolding high
returns c =
    omega arith
