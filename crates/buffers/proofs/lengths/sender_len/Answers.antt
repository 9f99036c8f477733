-- A codeword has a symbol.
use native.Mathlib.Omega.{arith}
use Rattle.code.specs.Settings.{k_of, n_of}
use Rattle.buffers.proofs.lengths.sender_len.Goals as goal

pub overflow_sub-result : goal.overflow_sub-result
unfolding n_of k_of
overflow_sub-result c =
    omega arith
