-- The window matters: losses that are fair in every stretch of W slots, and are not fair over all the slots at once.
-- And so does the whole of a stretch: losses that follow each other closely, and are too far from the first to the last.
use mathlib.Core.Bool.{Bool, not, ◌||◌}
use Prim.Native.Nat.{ℕ}
use lib.Dec.{T, ltb, eqb}
use Rattle.galois.specs.Bounded.{every, count}
use Rattle.code.specs.declared.settings.Settings.{Settings}
use Rattle.repair.specs.Fair.{losses, first_loss, last_loss, distance, fair_stretch, Fair, fair_slots}
use Rattle.repair.proofs.FairTest.{fair_tested}

-- W = 4, T = 3, B = 2, N = 2, L = 1
unfoldable pub small : Settings
small = record { window = 4; delay = 3; burst = 2; scattered = 2; lanes = 1 }

-- slots 0, 1 and 4 are lost
unfoldable pub apart : ℕ → Bool
apart t = ltb t 2 || eqb t 4

-- slots 0 to 4 are fair
pub fair_apart : Fair small apart 0 4
unfolding fair_slots every count fair_stretch losses distance first_loss last_loss small apart
fair_apart = (fair_tested small apart 0 4).0 tt

-- though three losses that far apart would be too many for one stretch
pub not_at_once : T (not (fair_stretch small apart 0 5))
unfolding every count fair_stretch losses distance first_loss last_loss small apart
not_at_once = tt

-- four losses in a row: each is next to the one before it, but the first and the last are more than B - 1 = 1 slot apart
pub not_by_neighbours : T (not (fair_stretch small (λ t. ltb t 4) 0 4))
unfolding every count fair_stretch losses distance first_loss last_loss small
not_by_neighbours = tt
