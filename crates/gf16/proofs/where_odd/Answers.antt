-- A byte by a bit is a byte.
use borrow.Author.Rules.{rules}
use native.Mathlib.Nat.{mod-lt, zero-lt-suc}
use Prim.Native.Nat.{◌*◌, ◌%◌, ◌<◌}
use Rattle.galois.proofs.Xor.{by_bit}
use Rattle.gf16.proofs.where_odd.Goals as goal

pub overflow_mul-result : goal.overflow_mul-result
overflow_mul-result c =
    let bound : c.args.number * (c.args.other % 2) < 256 =
    by_bit 256 c.args.number (c.args.other % 2) (search rules) (mod-lt c.args.other (zero-lt-suc 1)) in
    search (rules, bound)
