-- A turn puts one pair of rows' vectors.
use mathlib.Core.Path.{◌≡◌, refl, ap, ◌∙◌, subst⁻¹}
use native.Mathlib.Omega.{arith}
use Prim.Native.Nat.{ℕ, ◌+◌, ◌≤◌}
use lib.ListN.{length}
use Rattle.gathering.specs.Pairs.{pairs_of, Wide, gathered_of}
use Rattle.gathering.specs.declared.Source.{Source}
use Rattle.gathering.proofs.Gathered.{gathered_more, gathered_wide}
use Rattle.code.specs.Settings.{k_of}
use Rattle.code.proofs.Shape.{shape}
use Rattle.shares.specs.Shares.{role_of, source_of}
use Rattle.shares.proofs.Shares.{source_held}
use Rattle.shares.proofs.gather.Goals as goal

pub loop-j-init : goal.loop-j-init
unfolding gathered_of
loop-j-init c = refl

pub overflow_mul-j : goal.overflow_mul-j
overflow_mul-j c = omega (arith, shape c.args.words.now.s c.args.words.now.settings)

pub overflow_mul-j-in-loop-j : goal.overflow_mul-j-in-loop-j
overflow_mul-j-in-loop-j c = omega (arith, shape c.args.words.now.s c.args.words.now.settings)

pub overflow_add-j : goal.overflow_add-j
overflow_add-j c = omega (arith, shape c.args.words.now.s c.args.words.now.settings)

pub pair_up-requires : goal.pair_up-requires
pair_up-requires c =
    let words = c.args.words.now in
    let h = shape words.s words.settings in
    let within : (x : Source) (r : ℕ) → x ≡ source_of words.s c.args.roles.now words.places.now r
    → x.start + words.s.lanes ≤ length words.bytes.now = λ x r is.
    subst⁻¹ (λ (x : Source). x.start + words.s.lanes ≤ length words.bytes.now) is
    (source_held words.s words.places.now (role_of words.s c.args.roles.now r) words.bytes.now h words.inside) in
    let wide : Wide c.loop-j.pairs =
    subst⁻¹ Wide c.loop-j.invariant
    (gathered_wide words.bytes.now words.s.lanes (source_of words.s c.args.roles.now words.places.now) c.args.pairs.now h.lanes_few
    c.requires c.loop-j.j (omega arith)) in (
      omega arith,
      h.lanes_few,
      within c.source-first.result _ c.source-first.ensures,
      within c.source-second.result _ c.source-second.ensures,
      wide,
    )

pub loop-j-preserved : goal.loop-j-preserved
loop-j-preserved c =
    let words = c.args.words.now in
    c.pair_up.ensures
    ∙ gathered_more words.bytes.now words.s.lanes (source_of words.s c.args.roles.now words.places.now) c.args.pairs.now c.loop-j.j
    c.loop-j.pairs c.source-first.result c.source-second.result c.loop-j.invariant c.source-first.ensures c.source-second.ensures

pub returns : goal.returns
returns c =
    let words = c.args.words.now in
    let all : c.loop-j.j ≡ pairs_of (k_of words.s) = omega arith in
    c.loop-j.invariant
    ∙ ap (λ (m : ℕ). gathered_of words.bytes.now words.s.lanes (source_of words.s c.args.roles.now words.places.now) m c.args.pairs.now) all
