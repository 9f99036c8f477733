-- A turn puts one lane over the three vectors; what stands after it is as it came.
use Prim.Native.Nat.{◌*◌}
use Rattle.galois.specs.Byte.{◌⊕◌}
use Rattle.gathering.specs.Pairs.{byte_of}
use Rattle.gathering.proofs.PairLaws.{Put}
use Rattle.gathering.proofs.pair_up.Given as goal

abbrev pub invariant-loop-v : goal.invariant-loop-v
invariant-loop-v l =
    let x = byte_of l.bytes l.first in
    let y = byte_of l.bytes l.second in
    Put l.initial.pairs (l.j * 2) l.v x y (λ v. x v ⊕ y v) l.pairs
