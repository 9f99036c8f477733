-- A turn puts one lane over the three vectors; what stands after it is as it came.
use mathlib.Core.Path.{◌≡◌, refl, subst}
use native.Mathlib.Omega.{arith}
use Prim.Native.Nat.{ℕ, ◌*◌}
use Rattle.galois.specs.Byte.{◌⊕◌}
use Rattle.gathering.specs.Pairs.{byte_of, paired_up}
use Rattle.gathering.proofs.PairLaws.{Put, none_put, put_more, put_all}
use Rattle.gathering.proofs.pair_up.Goals as goal

pub loop-v-init : goal.loop-v-init
loop-v-init c =
    let x = byte_of c.args.bytes.now c.args.first in
    let y = byte_of c.args.bytes.now c.args.second in
    none_put c.args.pairs.now (c.args.j * 2) x y (λ v. x v ⊕ y v) c.requires.4 (omega arith)

pub loop-v-preserved : goal.loop-v-preserved
unfolding byte_of
loop-v-preserved c =
    let x = byte_of c.args.bytes.now c.args.first in
    let y = byte_of c.args.bytes.now c.args.second in
    put_more c.loop-v.pairs (c.args.j * 2) c.loop-v.v (x c.loop-v.v) (y c.loop-v.v) c.sum.result.0 c.args.pairs.now x y
    (λ v. x v ⊕ y v) (omega (arith, c.requires.4.entries)) (omega arith) refl refl c.sum.ensures c.loop-v.invariant

pub returns : goal.returns
unfolding paired_up
returns c =
    let x = byte_of c.args.bytes.now c.args.first in
    let y = byte_of c.args.bytes.now c.args.second in
    let all : c.loop-v.v ≡ c.args.lanes = omega arith in
    put_all c.args.pairs.now (c.args.j * 2) c.args.lanes x y (λ v. x v ⊕ y v) c.loop-v.pairs (omega (arith, c.requires.4.entries))
    (subst (λ (m : ℕ). Put c.args.pairs.now (c.args.j * 2) m x y (λ v. x v ⊕ y v) c.loop-v.pairs) all c.loop-v.invariant)
