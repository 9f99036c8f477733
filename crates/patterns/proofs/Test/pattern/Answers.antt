-- k is above 0, and n at most 16.
use native.Mathlib.Omega.{arith}
use Rattle.code.specs.Settings.{k_of}
use Rattle.code.proofs.Shape.{Shape, shape}
use Rattle.patterns.proofs.Test.pattern.Goals as goal

pub below-i-requires : goal.below-i-requires
unfolding k_of
below-i-requires g c =
    omega arith

pub arrived-bytes-requires : goal.arrived-bytes-requires
arrived-bytes-requires g c =
    let shaped : Shape c.args.s = shape c.args.s c.requires.0 in
    shaped.symbols_few
