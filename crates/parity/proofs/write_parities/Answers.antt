-- A turn gathers the source symbols of one position; their sum by its column of the systematic form is the parity symbol of each lane.
use borrow.Author.Rules.{rules}
use mathlib.Core.Path.{◌≡◌, sym, ap, ap₂, ◌∙◌, subst⁻¹}
use mathlib.Core.List.{List, ◌++◌}
use native.Mathlib.Nat.{zero-mul}
use native.Mathlib.Omega.{arith}
use Prim.Native.Nat.{ℕ, ◌+◌, ◌*◌, ◌≤◌, ◌<◌}
use lib.Dec.{T}
use lib.ListN.{length, get_or, take, drop}
use lib.Seq.{length-take-le}
use Rattle.galois.proofs.Cases.{is_true}
use Rattle.gathering.specs.Pairs.{pairs_of, Wide, Paired, gathered_of}
use Rattle.gathering.proofs.PairLaws.{blank_wide, blank_paired}
use Rattle.gathering.proofs.Gathered.{gathered_wide, gathered_paired}
use Rattle.vectors.specs.Weighted.{weighted_of}
use Rattle.code.specs.declared.settings.Settings.{Settings}
use Rattle.code.specs.Settings.{accepted, k_of, n_of}
use Rattle.code.specs.Word.{systematic_of}
use Rattle.code.proofs.Shape.{Shape, shape}
use Rattle.parity.specs.Sources.{source_of}
use Rattle.parity.specs.Parities.{parity_of, parities_of}
use Rattle.parity.proofs.Gathered.{parity_symbols}
use Rattle.parity.proofs.Parities.{parities_more, parities_all}
use Rattle.parity.proofs.write_parities.Goals as goal

module _ (s : Settings) (passed : T (accepted s)) where
  shaped : Shape s
  shaped = shape s passed

  count_few : pairs_of (k_of s) ≤ 8
  count_few = let h = shaped in omega arith

  -- a position with a parity symbol
  within : (k e : ℕ) → k ≡ k_of s → e < s.burst → k + e < n_of s
  within k e is below = let h = shaped in omega arith

  -- a sum has 64 lanes, of which the first are written
  lanes_long : (sum : List ℕ) → length sum ≡ 64 → length (take s.lanes sum) ≡ s.lanes
  lanes_long sum long = let h = shaped in length-take-le s.lanes sum (omega arith)

  module _ (rows : List ℕ) (t p : ℕ) (pairs gathered : List (List ℕ)) (wide : Wide pairs)
      (is : gathered ≡ gathered_of rows s.lanes (source_of s t p) (pairs_of (k_of s)) pairs) where
    -- the table with the source symbols has as many vectors and lanes
    still_wide : Wide gathered
    still_wide =
        subst⁻¹ Wide is (gathered_wide rows s.lanes (source_of s t p) pairs shaped.lanes_few wide (pairs_of (k_of s)) count_few)

    -- and is a table of pairs
    still_paired : Paired (pairs_of (k_of s)) pairs → Paired (pairs_of (k_of s)) gathered
    still_paired paired =
        let count : ℕ = pairs_of (k_of s) in
        subst⁻¹ (Paired count) is
        (gathered_paired rows s.lanes (source_of s t p) pairs shaped.lanes_few wide count count count_few paired)

    -- its sum by the position's column of the systematic form begins with the parity symbol of each lane
    is_parity : (e count : ℕ) (sum : List ℕ) (form : List (List ℕ)) → p ≡ k_of s + e → p < n_of s → count ≡ pairs_of (k_of s)
        → form ≡ systematic_of s → sum ≡ weighted_of form p gathered count → ((q : ℕ) → get_or rows q 0 < 256)
        → take s.lanes sum ≡ parity_of s rows t (k_of s + e)
    is_parity e count sum form is-p below counted formed summed bytes =
        let all : List (List ℕ) = gathered_of rows s.lanes (source_of s t p) (pairs_of (k_of s)) pairs in
        ap (take s.lanes)
        (summed
        ∙ ap₂ (λ (l : List (List ℕ)) (m : ℕ). weighted_of form p l m) is counted
        ∙ ap (λ (f : List (List ℕ)). weighted_of f p all (pairs_of (k_of s))) formed)
        ∙ parity_symbols s rows t p pairs shaped wide bytes (omega arith) below (is_true _ passed)
        ∙ ap (parity_of s rows t) is-p

pub loop-e-init : goal.loop-e-init
unfolding parities_of
loop-e-init c =
    let s = c.args.s in (
      sym (ap (λ (n : ℕ). drop n c.args.out.now) (zero-mul s.lanes)),
      blank_wide,
      blank_paired (pairs_of (k_of s)) (count_few s c.requires.0),
    )

pub gather-requires : goal.gather-requires
gather-requires c = (
  c.requires.0,
  c.requires.1,
  omega arith,
  within c.args.s c.requires.0 _ c.loop-e.e c.sources.ensures c.loop-e-test.true,
  c.loop-e.invariant.1,
)

pub weighted-sum-requires : goal.weighted-sum-requires
weighted-sum-requires c =
    let a = c.args in
    let h = shape a.s c.requires.0 in (
      omega (arith, within a.s c.requires.0 _ c.loop-e.e c.sources.ensures c.loop-e-test.true),
      omega (arith, count_few a.s c.requires.0),
      subst⁻¹ (λ (m : ℕ). Paired m c.gather.new.pairs) c.pairs-count.ensures
          (still_paired a.s c.requires.0 a.rows.now a.due _ c.loop-e.pairs c.gather.new.pairs c.loop-e.invariant.1
          c.gather.ensures c.loop-e.invariant.2),
    )

pub slice_bounds-write_at-end : goal.slice_bounds-write_at-end
slice_bounds-write_at-end c = sym (lanes_long c.args.s c.requires.0 c.weighted-sum.result (search rules))

pub loop-e-preserved : goal.loop-e-preserved
loop-e-preserved c =
    let a = c.args in
    let e : ℕ = c.loop-e.e in
    let k : ℕ = c.sources.result in
    let sum : List ℕ = c.weighted-sum.result in
    let before : List (List ℕ) = c.loop-e.pairs in
    let after : List (List ℕ) = c.gather.new.pairs in
    let wide = c.loop-e.invariant.1 in
    let written : take a.s.lanes sum ≡ parity_of a.s a.rows.now a.due (k_of a.s + e) =
    is_parity a.s c.requires.0 a.rows.now a.due (k + e) before after wide c.gather.ensures
    e c.pairs-count.result sum c.systematic-form.result
    (ap (λ (n : ℕ). n + e) c.sources.ensures)
    (within a.s c.requires.0 k e c.sources.ensures c.loop-e-test.true)
    c.pairs-count.ensures c.systematic-form.ensures c.weighted-sum.ensures
    (λ q. (c.type_inv.rows q).fits) in (
      c.write_at.ensures
          ∙ parities_more a.s a.rows.now a.due e a.out.now c.loop-e.out (take a.s.lanes sum) c.loop-e.invariant.0 written,
      still_wide a.s c.requires.0 a.rows.now a.due (k + e) before after wide c.gather.ensures,
      still_paired a.s c.requires.0 a.rows.now a.due (k + e) before after wide c.gather.ensures c.loop-e.invariant.2,
    )

pub returns : goal.returns
returns c =
    let a = c.args in
    let all : c.loop-e.e ≡ a.s.burst = omega arith in
    parities_all a.s a.rows.now a.due a.s.burst a.out.now c.loop-e.out c.requires.2
    (c.loop-e.invariant.0 ∙ ap (λ (m : ℕ). parities_of a.s a.rows.now a.due m ++ drop (m * a.s.lanes) a.out.now) all)
