-- `product` is 01's two-line rule, half by half.
use Rattle.galois.specs.Byte.{eight}
use Rattle.galois.proofs.Extension.{times_widened}
use Rattle.gf256.proofs.Gf256.product.Goals as goal

pub returns : goal.returns
unfolding eight
returns c =
    rw (
      c.joined.ensures,
      c.sum-rest.ensures,
      c.product-4.ensures,
      c.product-3.ensures,
      c.sum-top.ensures,
      c.sum.ensures,
      c.product-2.ensures,
      c.product.ensures,
      c.product-hg.ensures,
      c.low-m.ensures,
      c.high-g.ensures,
      c.low-l.ensures,
      c.high-h.ensures,
    )
    (times_widened c.args.self.0 c.args.other.0)
