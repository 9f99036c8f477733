-- `narrow_product` adds the shifted terms and replaces the powers from z^4 on.
use Rattle.galois.proofs.NarrowField.{shifts_product}
use Rattle.gf16.proofs.Gf16.narrow_product.Goals as goal

pub returns : goal.returns
returns c =
    shifts_product c.args.self.0 c.args.other.0 _ _ _ _ _ c.requires.0 c.requires.1
    c.where_odd.ensures
    c.where_odd-2.ensures
    c.where_odd-3.ensures
    c.where_odd-4.ensures
    c.replaced.ensures
