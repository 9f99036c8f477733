-- Document 01, demand 3 and "Two lists, one claim", and document 02 §1: which losses of slots are fair, and what they make of a codeword.
-- The test lost says of each slot, from 0 on, whether it is lost.
use Rattle.std.specs.Prelude.{Bool, cond, ◌&&◌, ◌||◌, ℕ, zero, suc, ◌+◌, ◌-◌, ◌≤◌, T, leb}
use Rattle.galois.specs.Bounded.{every, count}
use Rattle.code.specs.declared.settings.Settings.{Settings}

-- how many of the m slots from a on are lost
unfoldable pub losses : (ℕ → Bool) → ℕ → ℕ → ℕ
losses lost a m = count m (λ x. lost (a + x))

-- the first of the m slots from a on that is lost; the slot after them where none is
unfoldable pub first_loss : (ℕ → Bool) → ℕ → ℕ → ℕ
first_loss lost a zero = a
first_loss lost a (suc m) = cond (lost a) a (first_loss lost (suc a) m)

-- the last of the m slots from a on that is lost; slot a where none is
unfoldable pub last_loss : (ℕ → Bool) → ℕ → ℕ → ℕ
last_loss lost a zero = a
last_loss lost a (suc m) = cond (lost (a + m)) (a + m) (last_loss lost a m)

-- how many slots apart the first and the last loss among the m slots from a on are; 0 where none is lost
unfoldable pub distance : (ℕ → Bool) → ℕ → ℕ → ℕ
distance lost a m = last_loss lost a m - first_loss lost a m

-- a fair stretch: at most N losses, or its first and last loss at most B - 1 slots apart
unfoldable pub fair_stretch : Settings → (ℕ → Bool) → ℕ → ℕ → Bool
fair_stretch s lost a m = leb (losses lost a m) s.scattered || leb (distance lost a m) (s.burst - 1)

-- every stretch of at most W consecutive slots among the slots low to high is fair
abbrev pub Fair : Settings → (ℕ → Bool) → ℕ → ℕ → Type 0
Fair s lost low high =
    (a m : ℕ) → low ≤ a → a + m ≤ high + 1 → m ≤ s.window → T (fair_stretch s lost a m)

-- the same as a test: of each length up to W, each stretch among the slots low to high is fair
unfoldable pub fair_slots : Settings → (ℕ → Bool) → ℕ → ℕ → Bool
fair_slots s lost low high =
    every (s.window + 1) (λ m. every (high + 2 - low - m) (λ x. fair_stretch s lost (low + x) m))

-- position p of the codeword that starts at slot t - i was lost; a slot before 0 was not
unfoldable pub lost_position : (ℕ → Bool) → ℕ → ℕ → ℕ → Bool
lost_position lost t i p = leb i (t + p) && lost (t + p - i)
