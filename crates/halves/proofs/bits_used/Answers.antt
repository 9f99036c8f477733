-- The bits at each turn are those of the bytes passed, so no half of such a byte is above theirs.
use mathlib.Core.Path.{◌≡◌, refl, sym, ap, ap₂, ◌∙◌, subst⁻¹}
use native.Mathlib.Numerals.{add-one}
use native.Mathlib.Omega.{arith}
use Prim.Native.Nat.{◌<◌}
use lib.Bits.{bit_or}
use lib.ListN.{get_or}
use Rattle.std.proofs.lemmas.List.{get_or-take, length-take}
use Rattle.halves.specs.Halves.{Under, bits_of}
use Rattle.halves.proofs.Planes.{under_bits}
use Rattle.halves.proofs.bits_used.Goals as goal

pub loop-half-init : goal.loop-half-init
unfolding bits_of
loop-half-init c =
    refl

pub loop-half-preserved : goal.loop-half-preserved
unfolding bits_of
loop-half-preserved c =
    let here : c.loop-half.half-index < c.args.count = omega (arith, length-take c.args.count c.args.halves.now) in
    ap₂ bit_or c.loop-half.invariant (get_or-take c.args.count c.args.halves.now c.loop-half.half-index 0 here)
    ∙ sym (ap (bits_of c.args.halves.now) (add-one c.loop-half.half-index))

pub returns : goal.returns
returns c =
    let passed : c.loop-half.half-index ≡ c.args.count = omega (arith, length-take c.args.count c.args.halves.now) in
    let all : c.loop-half.bits ≡ bits_of c.args.halves.now c.args.count = c.loop-half.invariant ∙ ap (bits_of c.args.halves.now) passed in
    record {
      under = λ j h. subst⁻¹ (Under (get_or c.args.halves.now j 0)) all (under_bits c.args.halves.now c.args.count j h);
      bits = all;
    }
