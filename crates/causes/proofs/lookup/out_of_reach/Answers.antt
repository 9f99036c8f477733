-- The three tests are those of the definition, on numbers that the machine reads back from their bits as they are.
use mathlib.Core.Path.{◌≡◌, sym, ap, ap₂, ◌∙◌}
use mathlib.Core.Bool.{Bool, true, false, cond, ◌||◌}
use mathlib.Core.Logic.{◌⊎◌, inl, inr, ⊎_elim}
use native.Mathlib.Omega.{arith}
use Prim.Native.Nat.{ℕ, zero, suc, ◌-◌, ◌<◌, ◌^◌}
use lib.Dec.{ltb}
use lib.IntN.{ℤ, pos, negsuc, ◌-ℤ◌}
use lib.Signed.{mag, lt_z, le_z}
use mir.Syntax.{w64}
use mir.Val.{SFits, to_z, of_z}
use mir.ValLaws.{to_z-of_z, to_z_pos}
use Rattle.protocol.specs.Causes.{out_of_reach}
use Rattle.causes.proofs.lookup.out_of_reach.Goals as goal
use Rattle.causes.proofs.lookup.out_of_reach.Goals.{then-number-slot, else-number-slot}

-- a difference is no larger than what it is made of
mag_less : (a b : ℕ) → a < 2 ^ 63 → b < 2 ^ 63 → mag (pos a -ℤ pos b) < 2 ^ 63
mag_less a zero ha hb = omega arith
mag_less a (suc b) ha hb = go (ltb a (suc b))
  where
    go : (below : Bool) → mag (cond below (negsuc (suc b - suc a)) (pos (a - suc b))) < 2 ^ 63
    go true = omega arith
    go false = omega arith

fits_less : (a b : ℕ) → a < 2 ^ 63 → b < 2 ^ 63 → SFits w64 (to_z w64 a -ℤ to_z w64 b)
fits_less a b ha hb = rw (to_z_pos w64 a ha, to_z_pos w64 b hb) record { sfits = mag_less a b ha hb }

-- the first two tests together
first_two : (a b f : Bool) → ((a ≡ true) × (f ≡ true)) ⊎ ((a ≡ false) × (f ≡ b)) → f ≡ a || b
first_two a b f (inl (e, g)) = rw (e, g)
first_two a b f (inr (e, g)) = rw (e, g)

-- what each test compares, as numbers
module _ (number : ℤ) (fits : SFits w64 number) (due : ℕ) (small : due < 2 ^ 63) where
  -- the number is read back as it is, and so is the slot due
  read : to_z w64 (of_z w64 number) ≡ number
  read = to_z-of_z w64 number fits

  slot : to_z w64 due ≡ pos due
  slot = to_z_pos w64 due small

  third : le_z (to_z w64 due) (to_z w64 (of_z w64 number)) ≡ le_z (pos due) number
  third = ap₂ le_z slot read

  module _ (delay d : ℕ) (short : delay < 2 ^ 63) (is : delay ≡ d) where
    -- and the slot due less the delay
    less : to_z w64 (of_z w64 (to_z w64 due -ℤ to_z w64 delay)) ≡ pos due -ℤ pos d
    less =
        to_z-of_z w64 (to_z w64 due -ℤ to_z w64 delay) (fits_less due delay small short)
        ∙ ap₂ (λ (a b : ℤ). a -ℤ b) slot (to_z_pos w64 delay short ∙ ap pos is)

    abbrev old : Bool
    old = lt_z (to_z w64 (of_z w64 number)) (to_z w64 (of_z w64 (to_z w64 due -ℤ to_z w64 delay)))

    abbrev negative : Bool
    negative = lt_z (to_z w64 (of_z w64 number)) (pos 0)

    -- the first two tests of the definition, by the flag that the code makes of its own
    flagged : (f : Bool) → ((old ≡ true) × (f ≡ old)) ⊎ ((old ≡ false) × (f ≡ negative))
        → f ≡ lt_z number (pos due -ℤ pos d) || lt_z number (pos 0)
    flagged f tested =
        let first : old ≡ lt_z number (pos due -ℤ pos d) = ap₂ lt_z read less in
        let second : negative ≡ lt_z number (pos 0) = ap (λ (z : ℤ). lt_z z (pos 0)) read in
        first_two (lt_z number (pos due -ℤ pos d)) (lt_z number (pos 0)) f
        (⊎_elim (λ w. inl (sym first ∙ w.0, w.1 ∙ w.0)) (λ w. inr (sym first ∙ w.0, w.1 ∙ second)) tested)

pub returns-then-number-lt0 : goal.returns-then-number-lt0
unfolding out_of_reach
returns-then-number-lt0 c =
    let both = flagged c.args.number c.ranges.number c.args.due (omega arith) c.effective_delay-delay.result _ (omega arith)
    c.effective_delay-delay.ensures c.if-number-slot.value
    (elim c.if-number-slot.branch [
      | then-number-slot w ↦ inl (w.if-number-slot.true, w.value-is)
      | else-number-slot w ↦ inr (w.if-number-slot.false, w.value-is)
    ]) in
    rw (sym both, c.if-number-lt0.true)

pub returns-else-number-lt0 : goal.returns-else-number-lt0
unfolding out_of_reach
returns-else-number-lt0 c =
    let both = flagged c.args.number c.ranges.number c.args.due (omega arith) c.effective_delay-delay.result _ (omega arith)
    c.effective_delay-delay.ensures c.if-number-slot.value
    (elim c.if-number-slot.branch [
      | then-number-slot w ↦ inl (w.if-number-slot.true, w.value-is)
      | else-number-slot w ↦ inr (w.if-number-slot.false, w.value-is)
    ]) in
    rw (sym both, c.if-number-lt0.false, third c.args.number c.ranges.number c.args.due (omega arith))
