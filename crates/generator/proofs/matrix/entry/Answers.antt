-- The row is below k, and the delay a byte.
use native.Mathlib.Omega.{arith}
use Rattle.code.specs.Settings.{delay_of, k_of}
use Rattle.generator.proofs.matrix.entry.Goals as goal

pub overflow_add-delay : goal.overflow_add-delay
unfolding delay_of k_of
overflow_add-delay c = omega arith
