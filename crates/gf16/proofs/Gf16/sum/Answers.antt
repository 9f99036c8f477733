-- `sum` is exclusive or of two narrow numbers, and 0 where either is above 15.
use Prim.Native.Nat.{◌<◌}
use native.Mathlib.Omega.{arith}
use Rattle.galois.specs.Narrow.{◌⊞◌}
use Rattle.galois.proofs.NarrowField.{above_either, both_narrow}
use Rattle.gf16.proofs.Gf16.sum.Goals as goal

pub returns-then-a-gt15 : goal.returns-then-a-gt15
unfolding ◌⊞◌
returns-then-a-gt15 c =
    above_either _ _ _ c.then-a-gt15.either

pub returns : goal.returns
unfolding ◌⊞◌
returns c =
    let a : c.args.self.0 < 16 = omega arith in
    let b : c.args.other.0 < 16 = omega arith in
    rw both_narrow
