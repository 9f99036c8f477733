-- The arithmetic of both fields, so that a case of it computes: an `unfolding` line that names `arithmetic` opens all of these.
use Rattle.galois.specs.Bounded.{every, any}
use Rattle.galois.specs.Reciprocal.{divided_by}
use Rattle.galois.specs.Byte.{◌⊕◌, high, low, byte, alpha, eight, ◌⊗◌, first, reciprocal, quotient, widen}
use Rattle.galois.specs.Narrow.{narrow, ◌⊞◌, times_z, times_bits, ◌⊠◌, narrow_reciprocals, narrow_reciprocal, narrow_quotient}
use Rattle.galois.specs.Sum.{sum}

unfoldable pub arithmetic : Unit {0}
unfolding every any divided_by narrow ◌⊞◌ times_z times_bits ◌⊠◌ narrow_reciprocals narrow_reciprocal narrow_quotient
    ◌⊕◌ high low byte alpha eight ◌⊗◌ first reciprocal quotient widen sum
arithmetic = tt
