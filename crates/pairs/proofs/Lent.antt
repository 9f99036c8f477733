-- What is lent for the next slot is a frame.
use mathlib.Core.Path.{◌≡◌, refl, sym}
use mathlib.Core.Bool.{Bool, true, false, true≢false, ◌||◌}
use mathlib.Core.List.{List}
use Prim.Native.Nat.{ℕ, ◌≤◌}
use lib.ListN.{length}
use Rattle.code.specs.declared.settings.Settings.{Settings}
use Rattle.std.specs.Prelude.{Some}
use Rattle.aerials.specs.Pair.{frame_of, has, pair_cause}
use Rattle.aerials.specs.Sound.{Rising, Checked}
use Rattle.aerials.specs.Parts.{below, bytes_of, part_of}
use Rattle.aerials.specs.Next.{next_of}
use Rattle.aerials.proofs.FrameLaws.{header_inside}
use Rattle.aerials.proofs.PairLaws.{checked}
use Rattle.aerials.proofs.PartLaws.{stands_below, part_first, part_second, first_bytes, second_bytes}
use Rattle.pairplay.proofs.Slots.{next_found}

module _ (s : Settings) (first second : List ℕ) (pair : Checked s first second) (slot : ℕ) where
  -- where one of them has the slot
  long_by : (a b : Bool) → has s first slot ≡ a → has s second slot ≡ b → a || b ≡ true
      → 14 ≤ length (bytes_of first second (part_of s first second slot))
  unfolding Rising
  long_by true b a-is b-is either =
      rw (part_first s first second slot a-is, first_bytes s first second slot)
      (header_inside s first (below s first slot) (stands_below s first pair.one.rising slot a-is).0
      (frame_of s first (below s first slot)) refl)
  long_by false true a-is b-is either =
      rw (part_second s first second slot a-is b-is, second_bytes s first second slot)
      (header_inside s second (below s second slot) (stands_below s second pair.two.rising slot b-is).0
      (frame_of s second (below s second slot)) refl)
  long_by false false a-is b-is either = absurd (true≢false (sym either))

-- the part that is lent for the next slot has a header
pub lent_long : (s : Settings) (first second : List ℕ) → pair_cause s first second ≡ 0 → (slot n : ℕ) → next_of s first second slot ≡ Some n
    → 14 ≤ length (bytes_of first second (part_of s first second n))
lent_long s first second accepted slot n e =
    let pair = checked s first second accepted in
    long_by s first second pair n (has s first n) (has s second n) refl refl
    (next_found s first second accepted slot n e).1
