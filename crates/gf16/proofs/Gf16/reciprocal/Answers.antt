-- `reciprocal` is the entry of the table at the number, and none where it has none.
use mathlib.Core.Path.{sym, ap, ◌∙◌}
use mathlib.Core.Logic.{⊎_elim}
use native.Mathlib.Omega.{arith}
use Rattle.galois.specs.Reciprocal.{Listed}
use Rattle.galois.specs.Narrow.{narrow_reciprocal}
use Rattle.galois.proofs.NarrowField.{narrows, reciprocal_above}
use Rattle.gf16.proofs.Gf16.reciprocal.Goals as goal

pub returns-then-number-eq0 : goal.returns-then-number-eq0
returns-then-number-eq0 c =
    ⊎_elim
    (λ zero. sym (ap narrow_reciprocal zero ∙ narrows.none_of_zero))
    (λ above. sym (reciprocal_above c.args.self.0 above.1))
    c.then-number-eq0.either

pub returns : goal.returns
unfolding Listed
returns c =
    sym (c.reciprocals.ensures c.args.self.0 (omega arith) (omega arith))
