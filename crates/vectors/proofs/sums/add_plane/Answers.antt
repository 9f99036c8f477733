-- The loop adds the entry that two bits pick, pair by pair.
use mathlib.Core.Path.{◌≡◌, sym, ap, ◌∙◌}
use mathlib.Core.List.{List}
use native.Mathlib.Omega.{arith}
use Prim.Native.Nat.{ℕ, ◌+◌, ◌*◌, ◌/◌, ◌^◌}
use lib.Bits.{bit_and}
use lib.ListN.{length, get_or}
use Rattle.galois.specs.Byte.{◌⊕◌}
use Rattle.galois.specs.Sum.{sum}
use Rattle.galois.proofs.ByIndex.{is_table, get_or-table, length-table}
use Rattle.galois.proofs.Xor.{plus_assoc, plus_zero}
use Rattle.halves.proofs.Planes.{lane, term_at, next_pair}
use Rattle.vectors.proofs.sums.add_plane.Goals as goal

pub loop-j-init : goal.loop-j-init
unfolding sum
loop-j-init c =
    (c.told-total, λ v h. sym (plus_zero (get_or c.args.total.now v 0)))

pub loop-j-preserved : goal.loop-j-preserved
loop-j-preserved c =
    let e = 2 * c.loop-j.j + bit_and (get_or c.args.halves.now c.loop-j.j 0 / 2 ^ c.args.t) 17 in
    let added : ℕ → ℕ = λ v. get_or c.loop-j.total v 0 ⊕ lane c.args.pairs.table.now e v in
    let term = term_at c.args.halves.now c.args.t c.args.pairs.table.now in (
      ap length c.add.ensures.sum ∙ length-table 64 added,
      λ v h.
          ap (λ (l : List ℕ). get_or l v 0) c.add.ensures.sum ∙ get_or-table 64 added v 0 h
          ∙ ap (λ (x : ℕ). x ⊕ lane c.args.pairs.table.now e v) (c.loop-j.invariant.1 v h)
          ∙ plus_assoc (get_or c.args.total.now v 0) (sum (c.loop-j.j * 2) (term v)) (lane c.args.pairs.table.now e v)
          ∙ ap (λ (s : ℕ). get_or c.args.total.now v 0 ⊕ s)
          (next_pair c.args.pairs.count c.args.pairs.table.now c.args.pairs.paired c.loop-j.j v (omega arith) h c.args.halves.now
          c.args.t c.requires (c.add.ensures.bytes v)),
    )

pub returns : goal.returns
returns c =
    let term = term_at c.args.halves.now c.args.t c.args.pairs.table.now in
    let all : c.loop-j.j ≡ c.args.pairs.count = omega arith in
    is_table 64 (λ v. get_or c.args.total.now v 0 ⊕ sum (c.args.pairs.count * 2) (term v)) 0 c.loop-j.total c.loop-j.invariant.0
    (λ v h. c.loop-j.invariant.1 v h ∙ ap (λ (j : ℕ). get_or c.args.total.now v 0 ⊕ sum (j * 2) (term v)) all)
