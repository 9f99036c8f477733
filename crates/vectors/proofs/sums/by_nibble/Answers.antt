-- Before bit t - 1 is taken, the sum is that by the halves without their lowest t bits.
use mathlib.Core.Path.{◌≡◌, refl, sym, ap, ◌∙◌}
use native.Mathlib.Omega.{arith}
use Prim.Native.Nat.{ℕ, ◌+◌, ◌-◌, ◌*◌}
use lib.ListN.{get_or, replicate}
use Rattle.galois.specs.Byte.{◌⊕◌, ◌⊗◌}
use Rattle.galois.specs.Sum.{sum}
use Rattle.galois.proofs.ByIndex.{is_table, table_equal}
use Rattle.gathering.specs.Pairs.{vector_of}
use Rattle.halves.specs.Halves.{half_of, halves_sum}
use Rattle.halves.proofs.Planes.{zeros, lane_of, term_at, upper_sum, none_upper, next_upper, all_upper}
use Rattle.vectors.proofs.sums.by_nibble.Goals as goal

pub loop-t-init : goal.loop-t-init
loop-t-init c =
    is_table 64 (upper_sum c.args.halves.now c.args.pairs.table.now c.args.pairs.count 4) 0 (replicate 64 0) refl
    (λ v h. zeros 64 v ∙ sym (none_upper c.args.halves.now c.args.pairs.table.now c.args.pairs.count v))

pub loop-t-preserved : goal.loop-t-preserved
loop-t-preserved c =
    let t = c.loop-t.t - 1 in
    let upper = upper_sum c.args.halves.now c.args.pairs.table.now c.args.pairs.count in
    let next : c.loop-t.t ≡ t + 1 = omega arith in
    let plane : ℕ → ℕ = λ v. sum (c.args.pairs.count * 2) (term_at c.args.halves.now t c.args.pairs.table.now v) in
    c.add_plane.ensures
    ∙ table_equal 64 (λ v. get_or c.double.new.sum v 0 ⊕ plane v) (upper t)
    (λ v h.
    ap (λ (x : ℕ). x ⊕ plane v)
    (lane_of c.double.new.sum (λ v. 2 ⊗ get_or c.loop-t.total v 0) c.double.ensures v h
    ∙ ap (λ (x : ℕ). 2 ⊗ x) (lane_of c.loop-t.total (upper c.loop-t.t) c.loop-t.invariant v h ∙ ap (λ (u : ℕ). upper u v) next))
    ∙ next_upper c.args.halves.now c.args.pairs.table.now c.args.pairs.count v t (omega arith))

pub returns : goal.returns
unfolding halves_sum
returns c =
    let upper = upper_sum c.args.halves.now c.args.pairs.table.now c.args.pairs.count in
    let none_left : c.loop-t.t ≡ 0 = omega arith in
    c.loop-t.invariant
    ∙ table_equal 64 (upper c.loop-t.t)
    (λ v. sum (c.args.pairs.count * 2) (λ i. half_of c.args.halves.now i ⊗ get_or (vector_of c.args.pairs.table.now i) v 0))
    (λ v h. ap (λ (u : ℕ). upper u v) none_left ∙ all_upper c.args.halves.now c.args.pairs.table.now c.args.pairs.count v)
