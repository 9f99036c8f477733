-- The front of the weighted sum.
use borrow.Author.Rules.{rules}
use mathlib.Core.Path.{◌≡◌, sym, ap, ◌∙◌}
use mathlib.Core.List.{List}
use Prim.Native.Nat.{ℕ}
use native.Mathlib.Omega.{arith}
use lib.ListN.{length, get_or, take}
use lib.Seq.{length-take-le, get_or-take}
use Rattle.galois.proofs.ByIndex.{is_table}
use Rattle.gathering.specs.Pairs.{pairs_of}
use Rattle.vectors.specs.Weighted.{weighted_of}
use Rattle.code.specs.Settings.{k_of}
use Rattle.code.proofs.Shape.{shape}
use Rattle.copying.proofs.Whole.{whole}
use Rattle.lanes.proofs.symbol.write_sum.Goals as goal

pub slice_bounds-sum-end : goal.slice_bounds-sum-end
slice_bounds-sum-end c =
    let words = c.args.vectors.now.words in
    let long : length c.sum_at-sum.result ≡ 64 = search rules in
    omega (arith, (shape words.s words.settings).lanes_few)

pub slice_bounds-write_at-end : goal.slice_bounds-write_at-end
slice_bounds-write_at-end c =
    let words = c.args.vectors.now.words in
    let long : length c.sum_at-sum.result ≡ 64 = search rules in
    sym (length-take-le words.s.lanes c.sum_at-sum.result (omega (arith, (shape words.s words.settings).lanes_few)))

pub write_at-requires : goal.write_at-requires
write_at-requires c =
    let words = c.args.vectors.now.words in
    let long : length c.sum_at-sum.result ≡ 64 = search rules in
    omega (arith, length-take-le words.s.lanes c.sum_at-sum.result (omega (arith, (shape words.s words.settings).lanes_few)))

pub returns : goal.returns
returns c =
    let vectors = c.args.vectors.now in
    let s = vectors.words.s in
    let long : length c.sum_at-sum.result ≡ 64 = search rules in
    let front = length-take-le s.lanes c.sum_at-sum.result (omega (arith, (shape s vectors.words.settings).lanes_few)) in
    c.write_at.ensures ∙ whole _ _ (c.requires.1 ∙ sym front)
    ∙ is_table s.lanes (λ v. get_or (weighted_of c.args.rows.now c.args.i vectors.table.now (pairs_of (k_of s))) v 0) 0
    (take s.lanes c.sum_at-sum.result) front
    (λ v lane. get_or-take s.lanes c.sum_at-sum.result v 0 lane ∙ ap (λ (l : List ℕ). get_or l v 0) c.sum_at-sum.ensures)
