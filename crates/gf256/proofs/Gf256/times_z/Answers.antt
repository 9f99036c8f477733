-- The formula is z times the byte, in all 256 cases.
use borrow.Author.Rules.{rules}
use mathlib.Core.Path.{◌≡◌}
use Prim.Native.Nat.{ℕ, ◌*◌, ◌/◌, ◌<◌}
use lib.Bits.{bit_and}
use lib.Dec.{T, ltb, ltb→lt}
use Rattle.galois.specs.Bounded.{every}
use Rattle.galois.specs.Byte.{◌⊕◌, ◌⊗◌}
use Rattle.galois.proofs.Arithmetic.{arithmetic}
use Rattle.galois.proofs.Cases.{at, equal}
use Rattle.gf256.proofs.Gf256.times_z.Goals as goal

fits : (f : ℕ → ℕ) → T (every 256 (λ x. ltb (f x) 256)) → (x : ℕ) → x < 256 → f x < 256
fits f all x h = ltb→lt (f x) 256 (at 256 (λ x. ltb (f x) 256) all x h)

shifted_halves : (x : ℕ) → x < 256 → bit_and x 0x77 * 2 ⊕ bit_and (x / 8) 0x11 * 3 ≡ 2 ⊗ x
unfolding arithmetic
shifted_halves = equal 256 (λ x. bit_and x 0x77 * 2 ⊕ bit_and (x / 8) 0x11 * 3) (λ x. 2 ⊗ x) tt

pub returns : goal.returns
unfolding ◌⊕◌
returns c =
    shifted_halves c.args.self.0 (search rules)
