-- What halving knows of a recording: every frame before `low` stands for a slot below the one looked for, and none from `high` on.
use Rattle.std.specs.Prelude.{List, ℕ, ◌≤◌, ◌<◌}
use Rattle.code.specs.declared.settings.Settings.{Settings}
use Rattle.aerials.specs.Pair.{frames_in, slot_of}

pub record Bracket (s : Settings) (recording : List ℕ) (slot low high : ℕ) : Type 0 where
  pub ordered : low ≤ high
  pub within : high ≤ frames_in s recording
  pub lower : (i : ℕ) → i < low → slot_of s recording i < slot
  pub upper : (i : ℕ) → high ≤ i → i < frames_in s recording → slot ≤ slot_of s recording i
