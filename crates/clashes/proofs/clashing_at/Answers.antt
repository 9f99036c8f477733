-- The weighted sums are held against the L bytes of the position.
use borrow.Author.Rules.{rules}
use mathlib.Core.Path.{◌≡◌, sym, ap, ◌∙◌}
use mathlib.Core.List.{List}
use Prim.Native.Nat.{ℕ, ◌≤◌}
use native.Mathlib.Omega.{arith}
use lib.ListN.{length, get_or}
use lib.Seq.{length-take-le}
use Rattle.galois.proofs.ByIndex.{length-table, get_or-table}
use Rattle.code.proofs.Shape.{shape}
use Rattle.shares.specs.Shares.{lane_byte}
use Rattle.clashes.proofs.Unlike.{sum_compared}
use Rattle.clashes.proofs.clashing_at.Goals as goal

pub overflow_cast-lanes : goal.overflow_cast-lanes
overflow_cast-lanes c = omega (arith, (shape c.args.vectors.now.words.s c.args.vectors.now.words.settings).lanes_few)

pub slice_bounds-sum-end : goal.slice_bounds-sum-end
slice_bounds-sum-end c =
    let long : length c.sum_at-sum.result ≡ 64 = search rules in
    omega (arith, (shape c.args.vectors.now.words.s c.args.vectors.now.words.settings).lanes_few)

pub slice_bounds-ne-end : goal.slice_bounds-ne-end
slice_bounds-ne-end c =
    let words = c.args.vectors.now.words in
    let long : length c.sum_at-sum.result ≡ 64 = search rules in
    let inside : words.s.lanes ≤ length c.sum_at-sum.result = omega (arith, (shape words.s words.settings).lanes_few) in
    sym (length-take-le words.s.lanes c.sum_at-sum.result inside)

pub returns : goal.returns
returns c =
    let vectors = c.args.vectors.now in
    let words = vectors.words in
    let long : length c.sum_at-sum.result ≡ 64 = search rules in
    let inside : words.s.lanes ≤ length c.sum_at-sum.result = omega (arith, (shape words.s words.settings).lanes_few) in
    let lane : ℕ → ℕ = λ v. lane_byte words.s words.places.now words.bytes.now v c.args.q in
    c.ne.ensures
    ∙ sum_compared words.s c.args.rows.now c.args.q vectors.table.now words.places.now words.bytes.now c.sum_at-sum.result
    c.symbol-arrived.result.now inside (ap length c.symbol-arrived.ensures ∙ length-table words.s.lanes lane) c.sum_at-sum.ensures
    (λ v h. ap (λ (l : List ℕ). get_or l v 0) c.symbol-arrived.ensures ∙ get_or-table words.s.lanes lane v 0 h)
