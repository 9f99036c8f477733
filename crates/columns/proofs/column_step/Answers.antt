-- Each way out is one case of the step, and of what it leaves of the flag.
use borrow.Author.Tests.{eq-eqb, ne_eqb}
use mathlib.Core.Path.{◌≡◌, sym, ap, ◌∙◌}
use mathlib.Core.Bool.{true, false}
use mathlib.Core.List.{List}
use native.Mathlib.Omega.{arith}
use Prim.Native.Nat.{ℕ, ◌<◌}
use lib.Dec.{eqb}
use lib.ListN.{set}
use Rattle.elimination.specs.declared.reduced.Reduced.{Reduced}
use Rattle.elimination.specs.Elimination.{pivot_from, cleared}
use Rattle.elimination.proofs.Pivots.{pivot_step}
use Rattle.elimination.proofs.LeftFlags.{unknown_left, no_pivot_left, pivot_left}
use Rattle.elimination.proofs.Terms.{both}
use Rattle.columns.proofs.Rewritten.{unknown_step, no_pivot_step}
use Rattle.columns.proofs.column_step.Goals as goal

pub returns-then-flag-ne1 : goal.returns-then-flag-ne1
returns-then-flag-ne1 c =
    let x : Reduced = c.args.reduced.now in
    let off : eqb c.args.flag 1 ≡ false = ne_eqb c.args.flag 1 (λ on. omega arith) in
    record {
      step = unknown_step c.args.k c.args.p x (eqb c.args.flag 1) off;
      left = unknown_left c.args.k c.args.p x (eqb c.args.flag 1) c.args.flag off;
    }

pub returns-in-None : goal.returns-in-None
returns-in-None c =
    let x : Reduced = c.args.reduced.now in
    let on : eqb c.args.flag 1 ≡ true = eq-eqb c.args.flag 1 (omega arith) in
    let none : 15 < pivot_from x c.args.p 0 c.args.k = omega (arith, c.in-None.ensures) in
    record {
      step = no_pivot_step c.args.k c.args.p x (eqb c.args.flag 1) on none;
      left = no_pivot_left c.args.k c.args.p x (eqb c.args.flag 1) c.args.flag on none;
    }

pub returns-in-Some : goal.returns-in-Some
returns-in-Some c =
    let x : Reduced = c.args.reduced.now in
    let on : eqb c.args.flag 1 ≡ true = eq-eqb c.args.flag 1 (omega arith) in
    let some : pivot_from x c.args.p 0 c.args.k < 16 = omega (arith, c.in-Some.ensures) in
    record {
      step = ap (λ (rows : List (List ℕ)). both rows (set x.roles c.in-Some.r c.args.p)) c.clear_column.ensures
          ∙ ap (λ (r : ℕ). both (cleared c.args.k x.rows r c.args.p) (set x.roles r c.args.p)) (sym c.in-Some.ensures.1)
          ∙ pivot_step c.args.k c.args.p x (eqb c.args.flag 1) on some;
      left = pivot_left c.args.k c.args.p x (eqb c.args.flag 1) c.args.flag on some;
    }
