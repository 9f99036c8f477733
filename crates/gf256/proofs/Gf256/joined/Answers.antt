-- `joined` fits a byte, since each half is below 16 once it is widened.
use mathlib.Core.Path.{ap₂}
use Prim.Native.Nat.{ℕ, ◌+◌, ◌*◌}
use native.Mathlib.Omega.{arith}
use Rattle.galois.specs.Byte.{byte}
use Rattle.galois.proofs.Extension.{widen_below}
use Rattle.gf256.proofs.Gf256.joined.Goals as goal

pub returns : goal.returns
unfolding byte
returns c =
    ap₂ (λ (h l : ℕ). h * 16 + l) c.widened.ensures c.widened-2.ensures

pub overflow_mul-result : goal.overflow_mul-result
overflow_mul-result c = omega (arith, c.widened.ensures, widen_below c.args.h.0)

pub overflow_add-result : goal.overflow_add-result
overflow_add-result c =
    omega (arith, c.widened.ensures, c.widened-2.ensures, widen_below c.args.h.0, widen_below c.args.l.0)
