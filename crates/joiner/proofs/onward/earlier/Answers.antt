-- Both have a slot, or at most one has.
use borrow.Author.Tests.{ltb-true, ltb-false}
use mathlib.Core.Path.{◌≡◌, refl}
use mathlib.Core.Bool.{Bool, true, false}
use native.Mathlib.Omega.{arith}
use Prim.Native.Nat.{ℕ, min}
use lib.Dec.{ltb}
use Rattle.std.specs.Prelude.{Option, Some}
use Rattle.aerials.specs.Next.{earlier}
use Rattle.joiner.proofs.onward.earlier.Goals as goal
use Rattle.joiner.proofs.onward.earlier.Goals.{in_default-via-in-Some+in_default, in_default-via-in_default}

both : (a b : Option ℕ) (x y : ℕ) → a ≡ Some x → b ≡ Some y → Some (min x y) ≡ earlier a b
unfolding earlier
both a b x y e f = go (ltb y x) refl
  where
    go : (t : Bool) → ltb y x ≡ t → Some (min x y) ≡ earlier a b
    go true is = let least : min x y ≡ y = omega (arith, ltb-true y x is) in rw (e, f, earlier, is, least)
    go false is = let least : min x y ≡ x = omega (arith, ltb-false y x is) in rw (e, f, earlier, is, least)

pub returns-in-Some-Some : goal.returns-in-Some-Some
returns-in-Some-Some c = rw c.min.ensures (both c.args.a c.args.b _ _ c.in-Some-Some.is-0 c.in-Some-Some.is-1)

pub returns-in_default : goal.returns-in_default
unfolding earlier
returns-in_default c =
    elim c.in_default.branch [
      | in_default-via-in-Some+in_default w ↦ rw (c.or.ensures, w.in_default.is-0, w.in_default.is-1)
      | in_default-via-in_default w ↦ rw (c.or.ensures, w.in_default.is-0)
    ]
