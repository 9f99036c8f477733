-- Two recordings walked at once: which frames were seen to be alike.
use mathlib.Core.Path.{◌≡◌, ap}
use mathlib.Core.Bool.{Bool, true, false, not, ◌&&◌}
use mathlib.Core.Logic.{⊎_elim}
use mathlib.Core.List.{List}
use Prim.Native.Nat.{ℕ, suc, ◌<◌}
use native.Mathlib.Nat.{eq-or-lt_of_le, le_of_suc-le-suc}
use native.Mathlib.Omega.{arith}
use lib.Dec.{T, eqb, eqb→eq}
use borrow.Author.Tests.{eq-eqb}
use Rattle.galois.specs.Bounded.{any}
use Rattle.galois.proofs.Cases.{le_or_lt, and_left, and_right, is_true, any-one, any_at, any_none}
use Rattle.code.specs.declared.settings.Settings.{Settings}
use Rattle.protocol.specs.Lengths.{frame_len}
use Rattle.protocol.specs.Causes.{agree}
use Rattle.aerials.specs.Pair.{frames_in, frame_of, slot_of, unlike}
use Rattle.aerials.specs.Sound.{Rising}
use Rattle.aerials.proofs.NextLaws.{no_lower}

-- a later frame is of a later slot
rises : (s : Settings) (recording : List ℕ) → Rising s recording → (i j : ℕ) → i < j → j < frames_in s recording
    → slot_of s recording i < slot_of s recording j
unfolding Rising
rises s recording rising = rising

module _ (s : Settings) (first second : List ℕ) where
  -- frame a of the first and frame b of the second have the same bytes if they stand for the same slot
  abbrev pub Same : ℕ → ℕ → Type 0
  Same a b = slot_of s first a ≡ slot_of s second b → T (agree (frame_len s) (frame_of s first a) (frame_of s second b))

  -- by other names of their numbers
  carried : (i j a b : ℕ) → i ≡ a → j ≡ b → T (agree (frame_len s) (frame_of s first i) (frame_of s second j))
      → T (agree (frame_len s) (frame_of s first a) (frame_of s second b))
  carried i j a b e f t = rw (← e, ← f) t

  -- so have all those of which one was passed
  pub record Passed (i j : ℕ) : Type 0 where
    pub of_first : (a b : ℕ) → a < i → b < frames_in s second → Same a b
    pub of_second : (a b : ℕ) → a < frames_in s first → b < j → Same a b

  pub none_passed : Passed 0 0
  none_passed = record { of_first = λ a b h. absurd (omega arith); of_second = λ a b k h. absurd (omega arith) }

  module _ (up : Rising s first) (over : Rising s second) (i j : ℕ) (p : Passed i j)
      (hi : i < frames_in s first) (hj : j < frames_in s second) where
    -- the first's frame is behind: no frame of the second that is left stands for its slot
    pub first_behind : slot_of s first i < slot_of s second j → Passed (suc i) j
    first_behind less =
        record {
          of_first = λ a b h k same.
              ⊎_elim
              (λ here. let e = ap (slot_of s first) here in
              ⊎_elim (λ later. let more = no_lower s second over j b later k in absurd (omega arith))
              (λ before. p.of_second a b (omega arith) before same) (le_or_lt j b))
              (λ before. p.of_first a b before k same) (eq-or-lt_of_le (le_of_suc-le-suc h));
          of_second = p.of_second;
        }

    -- the second's is
    pub second_behind : slot_of s second j < slot_of s first i → Passed i (suc j)
    second_behind less =
        record {
          of_first = p.of_first;
          of_second = λ a b k h same.
              ⊎_elim
              (λ here. let e = ap (slot_of s second) here in
              ⊎_elim (λ later. let more = no_lower s first up i a later k in absurd (omega arith))
              (λ before. p.of_first a b before (omega arith) same) (le_or_lt i a))
              (λ before. p.of_second a b k before same) (eq-or-lt_of_le (le_of_suc-le-suc h));
        }

    -- both stand for one slot, and have the same bytes
    pub both_alike : slot_of s first i ≡ slot_of s second j → T (agree (frame_len s) (frame_of s first i) (frame_of s second j))
        → Passed (suc i) (suc j)
    both_alike one-slot equal =
        record {
          of_first = λ a b h k same.
              ⊎_elim
              (λ here. let e = ap (slot_of s first) here in
              ⊎_elim
              (λ later.
              ⊎_elim (λ there. carried i j a b (omega arith) (omega arith) equal)
              (λ behind. let more = rises s second over j b behind k in absurd (omega arith)) (eq-or-lt_of_le later))
              (λ before. p.of_second a b (omega arith) before same) (le_or_lt j b))
              (λ before. p.of_first a b before k same) (eq-or-lt_of_le (le_of_suc-le-suc h));
          of_second = λ a b k h same.
              ⊎_elim
              (λ there. let e = ap (slot_of s second) there in
              ⊎_elim
              (λ later.
              ⊎_elim (λ here. carried i j a b (omega arith) (omega arith) equal)
              (λ behind. let more = rises s first up i a behind k in absurd (omega arith)) (eq-or-lt_of_le later))
              (λ before. p.of_first a b before (omega arith) same) (le_or_lt i a))
              (λ before. p.of_second a b k before same) (eq-or-lt_of_le (le_of_suc-le-suc h));
        }

  abbrev unequal : ℕ → ℕ → Bool
  unequal a b = not (agree (frame_len s) (frame_of s first a) (frame_of s second b))

  abbrev test : ℕ → ℕ → Bool
  test a b = eqb (slot_of s first a) (slot_of s second b) && unequal a b

  -- all frames that stand for one slot are alike
  pub none_unlike : ((a b : ℕ) → a < frames_in s first → b < frames_in s second → Same a b) → unlike s first second ≡ false
  unfolding unlike
  none_unlike same =
      any_none (frames_in s first) (λ a. any (frames_in s second) (test a))
      (λ a h t.
      let found = any_at (frames_in s second) (test a) t in
      let b = found.0 in
      let tests = found.2 in
      let one-slot = eqb→eq (slot_of s first a) (slot_of s second b)
      (and_left (eqb (slot_of s first a) (slot_of s second b)) (unequal a b) tests) in
      let differ = and_right (eqb (slot_of s first a) (slot_of s second b)) (unequal a b) tests in
      rw (is_true (agree (frame_len s) (frame_of s first a) (frame_of s second b)) (same a b h found.1 one-slot)) at differ)

  -- two frames that differ
  pub one_unlike : (i j : ℕ) → i < frames_in s first → j < frames_in s second → slot_of s first i ≡ slot_of s second j
      → agree (frame_len s) (frame_of s first i) (frame_of s second j) ≡ false → unlike s first second ≡ true
  unfolding unlike
  one_unlike i j hi hj e differ =
      any-one (frames_in s first) (λ a. any (frames_in s second) (test a)) i hi
      (rw (any-one (frames_in s second) (test i) j hj
      (rw (eq-eqb (slot_of s first i) (slot_of s second j) e, differ) tt)) tt)
