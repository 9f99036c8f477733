-- `reciprocal_in` is the entry of the table at the byte, and none where it has none.
use mathlib.Core.Path.{◌≡◌, sym, ap, ◌∙◌}
use native.Mathlib.Omega.{arith}
use Rattle.galois.specs.Reciprocal.{Listed}
use Rattle.galois.specs.Byte.{reciprocal}
use Rattle.galois.proofs.ByteField.{bytes}
use Rattle.gf256.proofs.Gf256.reciprocal_in.Goals as goal

pub returns-then-self-eq0 : goal.returns-then-self-eq0
returns-then-self-eq0 c =
    let zero : c.args.self.0 ≡ 0 = omega arith in
    sym (ap reciprocal zero ∙ bytes.none_of_zero)

pub returns-else-self-eq0 : goal.returns-else-self-eq0
unfolding Listed
returns-else-self-eq0 c =
    sym (c.requires c.args.self.0 (omega arith) (omega arith))
