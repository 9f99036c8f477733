-- Document 01's rule of a fair stretch, in place of which document 02 §1 has a wider one: for the law that what was fair is fair.
use Rattle.std.specs.Prelude.{Bool, ◌&&◌, ◌||◌, ℕ, ◌+◌, ◌≤◌, T, leb, ltb}
use Rattle.std.specs.Bool.{beq}
use Rattle.galois.specs.Bounded.{every, any}
use Rattle.code.specs.declared.settings.Settings.{Settings}
use Rattle.repair.specs.Fair.{losses}

-- of the m slots from a on, those lost are the slots r to r + len - 1 of the stretch
unfoldable pub run_at : (ℕ → Bool) → ℕ → ℕ → ℕ → ℕ → Bool
run_at lost a m r len = every m (λ x. beq (lost (a + x)) (leb r x && ltb x (r + len)))

-- of the m slots from a on, those lost are one unbroken run of at most B
unfoldable pub one_run : ℕ → (ℕ → Bool) → ℕ → ℕ → Bool
one_run B lost a m = any (m + 1) (λ r. any (B + 1) (λ len. run_at lost a m r len))

-- at most N losses, or only one unbroken run of at most B
unfoldable pub stretch_before : Settings → (ℕ → Bool) → ℕ → ℕ → Bool
stretch_before s lost a m = leb (losses lost a m) s.scattered || one_run s.burst lost a m

-- that rule for every stretch of at most W consecutive slots among the slots low to high
abbrev pub FairBefore : Settings → (ℕ → Bool) → ℕ → ℕ → Type 0
FairBefore s lost low high =
    (a m : ℕ) → low ≤ a → a + m ≤ high + 1 → m ≤ s.window → T (stretch_before s lost a m)
