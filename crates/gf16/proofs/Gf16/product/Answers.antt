-- `product` is the product of narrow numbers, and 0 where a number is above 15.
use Rattle.galois.specs.Narrow.{◌⊠◌}
use Rattle.galois.proofs.NarrowField.{above_either}
use Rattle.gf16.proofs.Gf16.product.Goals as goal

pub returns-then-self-gt15 : goal.returns-then-self-gt15
unfolding ◌⊠◌
returns-then-self-gt15 c =
    above_either _ _ _ c.then-self-gt15.either
