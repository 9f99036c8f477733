-- `quotient` is the product with the reciprocal, and 0 where there is none.
use Rattle.std.proofs.Common.{rules, ap}
use Prim.Native.Nat.{ℕ}
use Rattle.galois.proofs.Field.{by_answer}
use Rattle.galois.proofs.ByteField.{bytes}
use Rattle.gf256.specs.declared.Gf256.{Gf256}
use Rattle.gf256.proofs.Gf256.quotient.Goals as goal

number : Gf256 → ℕ
number x = x.0

pub returns : goal.returns
unfolding number
returns c =
    by_answer bytes number c.reciprocal.result c.args.self.0 c.args.other.0 c.map_or.result.0 _ _ c.reciprocal.ensures c.map_or.ensures
    (λ zero. ap number zero) (λ inverse product. search rules)
