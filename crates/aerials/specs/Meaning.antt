-- Document 02 §7, demand 1 of the check of a pair, and what the joiner lends: as statements about their definitions.
use Rattle.std.specs.Prelude.{◌≡◌, Bool, true, false, ◌&&◌, ◌≢◌, ◌↔◌, List, [], ◌∷◌, ℕ, ◌*◌, ◌<◌, T, ltb}
use Rattle.code.specs.declared.settings.Settings.{Settings}
use Rattle.protocol.specs.Lengths.{frame_len}
use Rattle.aerials.specs.Tables.{Numbered, FirstHolds}
use Rattle.aerials.specs.Pair.{frames_in, frame_of, slot_of, has, pair_table, pair_cause}
use Rattle.aerials.specs.Sound.{Checked}
use Rattle.aerials.specs.Parts.{one, two, bytes_of, no_part, join_of}

-- a table stands in the order of its numbers, from above n on
abbrev pub in_order : ℕ → List Numbered → Bool
in_order n [] = true
in_order n (r ∷ rs) = ltb n r.number && in_order r.number rs

-- the check, of any pair: its number is a cause's exactly if that cause is the first that holds, and it is 0 exactly if nothing is wrong.
-- It changes nothing, being lent both recordings to read alone
pub record PairCauses : Type 0 where
  pub order : (s : Settings) (first second : List ℕ) → T (in_order 0 (pair_table s first second))
  pub first : (s : Settings) (first second : List ℕ) (n : ℕ) → n ≢ 0
      → (pair_cause s first second ≡ n) ↔ FirstHolds n (pair_table s first second)
  pub accepted : (s : Settings) (first second : List ℕ) → (pair_cause s first second ≡ 0) ↔ Checked s first second

-- the joiner, of any pair and any slot
pub record Joining : Type 0 where
  -- of an accepted pair the first's frame of the slot, whatever the second has
  pub of_first : (s : Settings) (first second : List ℕ) → pair_cause s first second ≡ 0 → (i : ℕ) → i < frames_in s first
      → let part = join_of s first second (slot_of s first i) in
      (part ≡ record { whose = one; start = i * frame_len s; len = frame_len s }) × (bytes_of first second part ≡ frame_of s first i)
  -- the second's where the first has none
  pub of_second : (s : Settings) (first second : List ℕ) → pair_cause s first second ≡ 0 → (i : ℕ) → i < frames_in s second
      → has s first (slot_of s second i) ≡ false
      → let part = join_of s first second (slot_of s second i) in
      (part ≡ record { whose = two; start = i * frame_len s; len = frame_len s }) × (bytes_of first second part ≡ frame_of s second i)
  -- an empty part where neither has one, and of a refused pair
  pub of_none : (s : Settings) (first second : List ℕ) (slot : ℕ) → has s first slot ≡ false → has s second slot ≡ false
      → join_of s first second slot ≡ no_part
  pub of_refused : (s : Settings) (first second : List ℕ) (slot : ℕ) → pair_cause s first second ≢ 0 → join_of s first second slot ≡ no_part
