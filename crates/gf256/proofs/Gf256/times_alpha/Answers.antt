-- `times_alpha` is the product with α.
use Rattle.galois.specs.Byte.{alpha}
use Rattle.gf256.proofs.Gf256.times_alpha.Goals as goal

pub returns : goal.returns
unfolding alpha
returns c =
    c.product.ensures
