-- What a fair stretch is, for those who use it: at most N losses, or any two of its losses at most B - 1 slots apart.
use mathlib.Core.Path.{subst, subst⁻¹}
use mathlib.Core.Bool.{Bool, true, false, cond, not}
use mathlib.Core.Logic.{◌⊎◌, inl, inr, ⊎_elim, ◌↔◌}
use Prim.Native.Nat.{ℕ, zero, suc, ◌+◌, ◌-◌, ◌≤◌, ◌<◌}
use native.Mathlib.Nat.{eq-or-lt_of_le, le_refl}
use native.Mathlib.Omega.{arith}
use lib.Dec.{T, T_not, leb, leb→le, le→leb}
use Rattle.galois.proofs.Cases.{or_cases, or_left, or_right}
use Rattle.code.specs.declared.settings.Settings.{Settings}
use Rattle.repair.specs.Fair.{losses, first_loss, last_loss, distance, fair_stretch}

-- slot y is lost, and is one of the m slots from a on
abbrev pub LostIn : (ℕ → Bool) → ℕ → ℕ → ℕ → Type 0
LostIn lost a m y = (a ≤ y) × (y < a + m) × T (lost y)

-- of the m slots from a on, any two that are lost are at most c slots apart
abbrev pub Close : ℕ → (ℕ → Bool) → ℕ → ℕ → Type 0
Close c lost a m = (y z : ℕ) → LostIn lost a m y → LostIn lost a m z → z ≤ y + c

-- ---- the first and the last loss

-- what is chosen is at most y, and at least y, where it is so of either choice
chosen_le : (b : Bool) (p q y : ℕ) → (T b → p ≤ y) → (T (not b) → q ≤ y) → cond b p q ≤ y
chosen_le true p q y first second = first tt
chosen_le false p q y first second = second tt

le_chosen : (b : Bool) (p q y : ℕ) → (T b → y ≤ p) → (T (not b) → y ≤ q) → y ≤ cond b p q
le_chosen true p q y first second = first tt
le_chosen false p q y first second = second tt

module _ (lost : ℕ → Bool) where
  -- no loss comes before the first
  first_le : (a m y : ℕ) → LostIn lost a m y → first_loss lost a m ≤ y
  unfolding first_loss
  first_le a zero y l = absurd (omega (arith, l.0, l.1))
  first_le a (suc m) y l =
      chosen_le (lost a) a (first_loss lost (suc a) m) y (λ t. l.0)
      (λ heard.
      ⊎_elim (λ same. absurd (T_not (lost a) heard (subst⁻¹ (λ (z : ℕ). T (lost z)) same l.2)))
      (λ after. first_le (suc a) m y (after, omega (arith, l.1), l.2)) (eq-or-lt_of_le l.0))

  -- and what comes before every loss, and not after the stretch, does not come after the first
  le_first : (a m y : ℕ) → y ≤ a + m → ((z : ℕ) → LostIn lost a m z → y ≤ z) → y ≤ first_loss lost a m
  unfolding first_loss
  le_first a zero y end before = omega arith
  le_first a (suc m) y end before =
      le_chosen (lost a) a (first_loss lost (suc a) m) y (λ t. before a (le_refl a, omega arith, t))
      (λ heard. le_first (suc a) m y (omega arith) (λ z l. before z (omega (arith, l.0), omega (arith, l.1), l.2)))

  -- no loss comes after the last
  le_last : (a m y : ℕ) → LostIn lost a m y → y ≤ last_loss lost a m
  unfolding last_loss
  le_last a zero y l = absurd (omega (arith, l.0, l.1))
  le_last a (suc m) y l =
      le_chosen (lost (a + m)) (a + m) (last_loss lost a m) y (λ t. omega (arith, l.1))
      (λ heard.
      ⊎_elim (λ same. absurd (T_not (lost (a + m)) heard (subst (λ (z : ℕ). T (lost z)) same l.2)))
      (λ before. le_last a m y (l.0, before, l.2)) (eq-or-lt_of_le (omega (arith, l.1))))

  -- and what comes after every loss, and not before the stretch, does not come before the last
  last_le : (a m y : ℕ) → a ≤ y → ((z : ℕ) → LostIn lost a m z → z ≤ y) → last_loss lost a m ≤ y
  unfolding last_loss
  last_le a zero y start after = start
  last_le a (suc m) y start after =
      chosen_le (lost (a + m)) (a + m) (last_loss lost a m) y (λ t. after (a + m) (omega arith, omega arith, t))
      (λ heard. last_le a m y start (λ z l. after z (l.0, omega (arith, l.1), l.2)))

  -- the first and the last loss are at most c slots apart exactly if any two losses are
  pub distance_close : (a m c : ℕ) → (distance lost a m ≤ c) ↔ Close c lost a m
  unfolding distance
  distance_close a m c = (
    λ short y z ly lz. omega (arith, first_le a m y ly, le_last a m z lz),
    λ close.
        let start : a ≤ first_loss lost a m = le_first a m a (omega arith) (λ z l. l.0) in
        let end : last_loss lost a m ≤ first_loss lost a m + c =
        last_le a m (first_loss lost a m + c) (omega arith)
        (λ z lz.
        let from : z - c ≤ first_loss lost a m =
        le_first a m (z - c) (omega (arith, lz.1)) (λ y ly. omega (arith, close y z ly lz)) in
        omega arith) in
        omega arith,
  )

-- ---- the stretch

-- a stretch is fair exactly if it has at most N losses, or any two of them are at most B - 1 slots apart
pub fair_stretch_lem : (s : Settings) (lost : ℕ → Bool) (a m : ℕ)
    → T (fair_stretch s lost a m) ↔ ((losses lost a m ≤ s.scattered) ⊎ Close (s.burst - 1) lost a m)
unfolding fair_stretch
fair_stretch_lem s lost a m =
    let c : ℕ = s.burst - 1 in
    let few : Bool = leb (losses lost a m) s.scattered in
    let near : Bool = leb (distance lost a m) c in (
      λ t.
          ⊎_elim (λ sparse. inl (leb→le (losses lost a m) s.scattered sparse))
          (λ short. inr ((distance_close lost a m c).0 (leb→le (distance lost a m) c short))) (or_cases few near t),
      ⊎_elim (λ sparse. or_left few near (le→leb (losses lost a m) s.scattered sparse))
          (λ close. or_right few near (le→leb (distance lost a m) c ((distance_close lost a m c).1 close))),
    )
