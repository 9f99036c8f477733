-- The loop fills the 16 rows place by place; each byte is a multiple of the row's byte, made from those before it.
use mathlib.Core.Path.{◌≡◌, refl, sym, ◌∙◌}
use native.Mathlib.Omega.{arith}
use Prim.Native.Nat.{◌<◌}
use lib.Dec.{lit<}
use lib.ListN.{get_or}
use Rattle.galois.specs.Byte.{◌⊕◌, ◌⊗◌, alpha}
use Rattle.galois.specs.Table.{table}
use Rattle.galois.proofs.ArrayBytes.{array_below}
use Rattle.galois.proofs.ByteProduct.{one_times}
use Rattle.multiples.proofs.Digits.{weight}
use Rattle.multiples.proofs.Multiples.{twice_low, twice_high, next_multiple, both_multiples}
use Rattle.multiples.proofs.Multiples.{none_filled, fill, leave, next_place, all-filled}
use Rattle.multiples.proofs.rows.quarters.Goals as goal

pub loop-j-init : goal.loop-j-init
unfolding table
loop-j-init c =
    none_filled c.args.row

pub loop-j-preserved : goal.loop-j-preserved
unfolding ◌⊕◌ alpha weight
loop-j-preserved c =
    let x = get_or c.args.row c.loop-j.j 0 in
    let here : c.loop-j.j < 16 = omega arith in
    let e1 : x ≡ 1 ⊗ x = sym (one_times x (array_below 16 c.args.row _ c.well_formed.0 c.loop-j.j)) in
    let e4 = next_multiple 2 4 x _ _ (twice_low 2 (lit< tt)) c.times_z-x2.ensures c.times_z-x4.ensures in
    let e8 = next_multiple 4 8 x _ _ (twice_low 4 (lit< tt)) e4 c.times_z-x8.ensures in
    let e32 = next_multiple 16 32 x _ _ (twice_high 1 (lit< tt)) c.times_alpha-a.ensures c.times_z-a2.ensures in
    let e64 = next_multiple 32 64 x _ _ (twice_high 2 (lit< tt)) e32 c.times_z-a4.ensures in
    let e128 = next_multiple 64 128 x _ _ (twice_high 4 (lit< tt)) e64 c.times_z-a8.ensures in
    let s3 = c.sum.ensures ∙ both_multiples 1 2 x _ _ e1 c.times_z-x2.ensures in
    let s12 = c.sum-in-loop-j.ensures ∙ both_multiples 4 8 x _ _ e4 e8 in
    let s48 = c.sum-in-loop-j-2.ensures ∙ both_multiples 16 32 x _ _ c.times_alpha-a.ensures e32 in
    let s192 = c.sum-in-loop-j-3.ensures ∙ both_multiples 64 128 x _ _ e64 e128 in
    let f1 = leave c.args.row c.loop-j.j 0 _ here (lit< tt) c.loop-j.invariant refl in
    let f2 = fill c.args.row c.loop-j.j 1 _ here (lit< tt) f1 _ (lit< tt) e1 in
    let f3 = fill c.args.row c.loop-j.j 2 _ here (lit< tt) f2 _ (lit< tt) c.times_z-x2.ensures in
    let f4 = fill c.args.row c.loop-j.j 3 _ here (lit< tt) f3 _ (lit< tt) s3 in
    let f5 = leave c.args.row c.loop-j.j 4 _ here (lit< tt) f4 refl in
    let f6 = fill c.args.row c.loop-j.j 5 _ here (lit< tt) f5 _ (lit< tt) e4 in
    let f7 = fill c.args.row c.loop-j.j 6 _ here (lit< tt) f6 _ (lit< tt) e8 in
    let f8 = fill c.args.row c.loop-j.j 7 _ here (lit< tt) f7 _ (lit< tt) s12 in
    let f9 = leave c.args.row c.loop-j.j 8 _ here (lit< tt) f8 refl in
    let f10 = fill c.args.row c.loop-j.j 9 _ here (lit< tt) f9 _ (lit< tt) c.times_alpha-a.ensures in
    let f11 = fill c.args.row c.loop-j.j 10 _ here (lit< tt) f10 _ (lit< tt) e32 in
    let f12 = fill c.args.row c.loop-j.j 11 _ here (lit< tt) f11 _ (lit< tt) s48 in
    let f13 = leave c.args.row c.loop-j.j 12 _ here (lit< tt) f12 refl in
    let f14 = fill c.args.row c.loop-j.j 13 _ here (lit< tt) f13 _ (lit< tt) e64 in
    let f15 = fill c.args.row c.loop-j.j 14 _ here (lit< tt) f14 _ (lit< tt) e128 in
    let f16 = fill c.args.row c.loop-j.j 15 _ here (lit< tt) f15 _ (lit< tt) s192 in
    next_place c.args.row c.loop-j.j _ f16

pub returns : goal.returns
returns c =
    all-filled c.args.row c.loop-j.j c.loop-j.out (omega arith) c.loop-j.invariant
