-- The sources, which have no flags, and what the loop has passed are no known positions at which a lane clashes.
use borrow.Author.Count.{below_more}
use mathlib.Core.Path.{sym, ◌∙◌, subst, subst⁻¹}
use mathlib.Core.Bool.{Bool, ◌&&◌}
use native.Mathlib.Omega.{arith}
use Prim.Native.Nat.{ℕ}
use lib.Dec.{T}
use Rattle.galois.proofs.Cases.{and_left, and_right, both_pass, any-one, any_none}
use Rattle.code.specs.Settings.{n_of}
use Rattle.code.proofs.Shape.{shape}
use Rattle.elimination.specs.Elimination.{known_in}
use Rattle.elimination.proofs.Terms.{known_on, known_off}
use Rattle.clashes.specs.Clashes.{ParityOnly, sum_clash, sums_clash}
use Rattle.clashes.proofs.clashing.Goals as goal
use Rattle.clashes.proofs.clashing.Goals.{else-flags-q-eq1-via-then-flags-q-eq1+else-clashing_at}
use Rattle.clashes.proofs.clashing.Goals.{else-flags-q-eq1-via-else-flags-q-eq1}

pub loop-q-init : goal.loop-q-init
unfolding ParityOnly
loop-q-init c =
    let words = c.args.vectors.now.words in
    λ p source t.
    let nought = c.requires p (omega arith) in
    subst T (known_off words.s c.args.flags.now p (λ on. omega arith))
    (and_left (known_in words.s c.args.flags.now p)
    (sum_clash words.s c.args.rows.now c.args.vectors.now.table.now words.places.now words.bytes.now p) t)

pub bounds-flags-q : goal.bounds-flags-q
bounds-flags-q c = omega (arith, shape c.args.vectors.now.words.s c.args.vectors.now.words.settings)

pub clashing_at-requires : goal.clashing_at-requires
clashing_at-requires c = omega arith

pub returns-then-clashing_at : goal.returns-then-clashing_at
unfolding sums_clash
returns-then-clashing_at c =
    let words = c.args.vectors.now.words in
    let q : ℕ = c.loop-q.q in
    let known : ℕ → Bool = known_in words.s c.args.flags.now in
    let clash : ℕ → Bool = sum_clash words.s c.args.rows.now c.args.vectors.now.table.now words.places.now words.bytes.now in
    sym
    (any-one (n_of words.s) (λ q. known q && clash q) q (omega arith)
    (both_pass (known q) (clash q) (subst⁻¹ T (known_on words.s c.args.flags.now q (omega arith) (omega arith)) tt)
    (subst⁻¹ T (sym c.clashing_at.ensures ∙ c.if-clashing_at.true) tt)))

pub loop-q-preserved : goal.loop-q-preserved
loop-q-preserved c =
    let words = c.args.vectors.now.words in
    let q : ℕ = c.loop-q.q in
    let known : ℕ → Bool = known_in words.s c.args.flags.now in
    let clash : ℕ → Bool = sum_clash words.s c.args.rows.now c.args.vectors.now.table.now words.places.now words.bytes.now in
    below_more (λ p. T (known p && clash p) → ⊥) q c.loop-q.invariant
    (elim c.else-flags-q-eq1.branch [
      | else-flags-q-eq1-via-then-flags-q-eq1+else-clashing_at w ↦ λ t.
          subst T (sym w.clashing_at.ensures ∙ w.if-clashing_at.false) (and_right (known q) (clash q) t)
      | else-flags-q-eq1-via-else-flags-q-eq1 w ↦ λ t.
          subst T (known_off words.s c.args.flags.now q (λ on. omega arith)) (and_left (known q) (clash q) t)
    ])

pub returns : goal.returns
unfolding sums_clash
returns c =
    let words = c.args.vectors.now.words in
    sym
    (any_none (n_of words.s)
    (λ q. known_in words.s c.args.flags.now q
    && sum_clash words.s c.args.rows.now c.args.vectors.now.table.now words.places.now words.bytes.now q)
    (λ p h. c.loop-q.invariant p (omega arith)))
