-- Division by the entry at p is multiplication by its reciprocal; by 1 it changes nothing, and without a reciprocal it leaves zeros.
use borrow.Author.Rules.{rules}
use mathlib.Core.Path.{◌∙◌, sym, ap}
use Prim.Native.Nat.{ℕ, ◌<◌}
use lib.ListN.{get_or}
use Rattle.galois.proofs.ArrayBytes.{array_below}
use Rattle.gf256.specs.Answer.{answered}
use Rattle.columns.proofs.Rewritten.{row_divided, row_zeros, row_by_one}
use Rattle.columns.proofs.scaled.Goals as goal

pub returns-then-row-p-eq1 : goal.returns-then-row-p-eq1
returns-then-row-p-eq1 c =
    let bytes : (j : ℕ) → get_or c.args.row j 0 < 256 = array_below 16 c.args.row _ c.well_formed.0 in
    row_by_one c.args.row (get_or c.args.row c.args.p 0) (search rules) (bytes) c.if-row-p-eq1.true

pub returns-in-None : goal.returns-in-None
returns-in-None c =
    row_zeros c.args.row _ (sym c.reciprocal.ensures ∙ ap answered c.in-None.is)

pub returns-in-Some : goal.returns-in-Some
returns-in-Some c =
    c.row_times.ensures
    ∙ row_divided c.args.row _ _ (sym c.reciprocal.ensures ∙ ap answered c.in-Some.is)
