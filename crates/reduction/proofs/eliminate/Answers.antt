-- The loop does one parity position a turn, and clears its flag where it becomes a pivot.
use mathlib.Core.Path.{◌≡◌, refl, sym, ap, ap₂, ◌∙◌, subst⁻¹}
use mathlib.Core.Bool.{true, false}
use mathlib.Core.List.{List}
use native.Mathlib.Omega.{arith}
use Prim.Native.Nat.{ℕ, ◌-◌, ◌≤◌}
use lib.Dec.{T, eqb}
use lib.ListN.{get_or, set}
use Rattle.code.specs.Settings.{accepted, k_of}
use Rattle.code.proofs.Shape.{shape}
use Rattle.elimination.specs.declared.reduced.Reduced.{Reduced}
use Rattle.elimination.specs.Elimination.{column_step, columns, known_in, left_flag, left_after}
use Rattle.elimination.proofs.Reductions.{reduced_accepted}
use Rattle.elimination.proofs.LeftFlags.{left_accepted, left_kept}
use Rattle.reduction.proofs.Parities.{reduced_refused, left_refused, columns_more, left_more}
use Rattle.reduction.proofs.eliminate.Goals as goal

pub returns-else-accepted : goal.returns-else-accepted
returns-else-accepted c =
    let refused : accepted c.args.s ≡ false = sym c.accepted.ensures ∙ c.if-accepted.false in
    record {
      reduced = reduced_refused c.args.s (record { rows = c.args.matrix; roles = c.args.roles }) c.args.flags.now refused;
      left = left_refused c.args.s (record { rows = c.args.matrix; roles = c.args.roles }) c.args.flags.now refused;
    }

pub loop-p-init : goal.loop-p-init
unfolding columns left_after
loop-p-init c =
    let passed : accepted c.args.s ≡ true = sym c.accepted.ensures ∙ c.if-accepted.true in
    let none : c.sources-p.result - k_of c.args.s ≡ 0 = omega arith in
    record { shaped = shape c.args.s (subst⁻¹ T passed tt); reduced = rw none refl; left = rw none refl }

pub column_step-requires : goal.column_step-requires
column_step-requires c =
    (omega (arith, c.loop-p.invariant.shaped), omega (arith, c.loop-p.invariant.shaped))

pub loop-p-preserved : goal.loop-p-preserved
loop-p-preserved c =
    let p : ℕ = c.loop-p.p in
    let x : Reduced = (record { rows = c.args.matrix; roles = c.args.roles }) in
    let flag : ℕ = get_or c.loop-p.flags p 0 in
    let past : k_of c.args.s ≤ p = omega arith in
    let same : flag ≡ get_or c.args.flags.now p 0 =
    ap (λ (l : List ℕ). get_or l p 0) c.loop-p.invariant.left
    ∙ left_kept c.args.s x c.args.flags.now (p - k_of c.args.s) p (λ j h here. omega arith) in
    record {
      shaped = c.loop-p.invariant.shaped;
      reduced = c.column_step.ensures.step
          ∙ ap₂ (λ (k : ℕ) (y : Reduced). column_step k (eqb flag 1) p y) c.sources.ensures c.loop-p.invariant.reduced
          ∙ columns_more c.args.s x c.args.flags.now p flag past (omega arith) same;
      left = ap₂ (λ (l : List ℕ) (f : ℕ). set l p f) c.loop-p.invariant.left
          (c.column_step.ensures.left
          ∙ ap₂ (λ (k : ℕ) (y : Reduced). left_flag k (eqb flag 1) p y flag) c.sources.ensures c.loop-p.invariant.reduced)
          ∙ left_more c.args.s x c.args.flags.now p flag past (omega arith) same;
    }

pub returns-after-loop-p : goal.returns-after-loop-p
returns-after-loop-p c =
    let x : Reduced = (record { rows = c.args.matrix; roles = c.args.roles }) in
    let passed : accepted c.args.s ≡ true = sym c.accepted.ensures ∙ c.if-accepted.true in
    let all : c.loop-p.p - k_of c.args.s ≡ c.args.s.burst = omega (arith, c.loop-p.invariant.shaped) in
    record {
      reduced = c.loop-p.invariant.reduced ∙ ap (columns c.args.s (known_in c.args.s c.args.flags.now) x) all
          ∙ reduced_accepted c.args.s x c.args.flags.now passed;
      left = c.loop-p.invariant.left ∙ ap (left_after c.args.s x c.args.flags.now) all
          ∙ left_accepted c.args.s x c.args.flags.now passed;
    }
