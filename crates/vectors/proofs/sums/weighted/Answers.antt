-- The loop fills the lanes from the front with the sum by the low halves and α times that by the high halves.
use mathlib.Core.List.{[]}
use mathlib.Core.Path.{ap, ap₂, ◌∙◌}
use native.Mathlib.Nat.{div-one}
use native.Mathlib.Omega.{arith}
use Prim.Native.Nat.{ℕ, ◌*◌, ◌%◌}
use lib.ListN.{get_or, length-set}
use Rattle.galois.specs.Byte.{◌⊕◌, ◌⊗◌, alpha}
use Rattle.galois.specs.Sum.{sum}
use Rattle.galois.proofs.ByIndex.{is_table, filled_more}
use Rattle.gathering.specs.Pairs.{vector_of}
use Rattle.vectors.specs.Weighted.{weighted_of}
use Rattle.halves.specs.Halves.{half_of, halves_sum}
use Rattle.halves.proofs.Planes.{lane_of, by_both_halves}
use Rattle.vectors.proofs.sums.weighted.Goals as goal

pub loop-v-preserved : goal.loop-v-preserved
loop-v-preserved c = (
  simp length-set c.loop-v.invariant.0,
  filled_more (λ i. get_or c.by_nibble-low.result i 0 ⊕ alpha ⊗ get_or c.by_upper-high.result i 0) 0 c.loop-v.out c.loop-v.v _ (omega arith)
      (c.sum.ensures ∙ ap (λ (x : ℕ). get_or c.by_nibble-low.result c.loop-v.v 0 ⊕ x) c.times_alpha.ensures) c.loop-v.invariant.1,
)

pub returns : goal.returns
unfolding halves_sum weighted_of
returns c =
    let coefficient : ℕ → ℕ = λ i. get_or (get_or c.args.rows.now i []) c.args.q 0 in
    let byte : ℕ → ℕ → ℕ = λ v i. get_or (vector_of c.args.pairs.now i) v 0 in
    let lows : ℕ → ℕ = half_of c.pack_halves-lower.result in
    let highs : ℕ → ℕ = half_of c.pack_halves-upper.result in
    is_table 64 (λ v. sum (c.args.count * 2) (λ i. coefficient i ⊗ byte v i)) 0 c.loop-v.out c.loop-v.invariant.0
    (λ v h.
    c.loop-v.invariant.1 v (omega arith)
    ∙ ap₂ (λ (l h : ℕ). l ⊕ alpha ⊗ h)
    (lane_of c.by_nibble-low.result (λ v. sum (c.args.count * 2) (λ i. lows i ⊗ byte v i)) c.by_nibble-low.ensures v h)
    (lane_of c.by_upper-high.result (λ v. sum (c.args.count * 2) (λ i. highs i ⊗ byte v i)) c.by_upper-high.ensures v h)
    ∙ by_both_halves (c.args.count * 2) lows highs coefficient (byte v)
    (λ i h. c.pack_halves-lower.ensures.halves i h ∙ ap (λ (x : ℕ). x % 16) (div-one (coefficient i)))
    c.pack_halves-upper.ensures.halves)
