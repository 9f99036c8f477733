-- The next slot, from a slot on, that a recording or an accepted pair has: it has that one, and none before it.
use mathlib.Core.Path.{◌≡◌, refl}
use mathlib.Core.Bool.{Bool, true, false, ◌||◌}
use mathlib.Core.Logic.{⊎_elim}
use mathlib.Core.List.{List}
use Prim.Native.Nat.{ℕ, zero, suc, ◌≤◌, ◌<◌, zero-le}
use native.Mathlib.Nat.{le_refl, le_step, not-suc-le-zero, eq-or-lt_of_le, le_of_suc-le-suc}
use native.Mathlib.Omega.{arith}
use lib.Dec.{ltb}
use borrow.Author.Tests.{lt-ltb, ltb-true, ltb-false}
use Rattle.galois.proofs.Cases.{is_true, is_false, le_or_lt}
use Rattle.code.specs.declared.settings.Settings.{Settings}
use Rattle.std.specs.Prelude.{Option, Some, None}
use Rattle.aerials.specs.Pair.{frames_in, slot_of, has}
use Rattle.aerials.specs.Parts.{below}
use Rattle.aerials.specs.Sound.{Rising, Checked}
use Rattle.aerials.specs.Next.{next_in, earlier, next_of}
use Rattle.aerials.proofs.PartLaws.{count_below, has_frame, frame_had}

-- ---- the frames of lower slots, and those after them

module _ (s : Settings) (recording : List ℕ) where
  -- of the first n frames, those before number m are of slots below this one, and the others are not
  record Split (slot n m : ℕ) : Type 0 where
    within : m ≤ n
    low : (i : ℕ) → i < m → slot_of s recording i < slot
    high : (i : ℕ) → m ≤ i → i < n → slot ≤ slot_of s recording i

  module _ (rising : Rising s recording) where
    -- no later frame is of a lower slot
    pub no_lower : (i j : ℕ) → i ≤ j → j < frames_in s recording → slot_of s recording i ≤ slot_of s recording j
    unfolding Rising
    no_lower i j h k =
        ⊎_elim (λ (same : i ≡ j). rw same (le_refl (slot_of s recording j)))
        (λ before. let less = rising i j before k in omega arith) (eq-or-lt_of_le h)

    module _ (slot : ℕ) where
      -- there is such a number: where the last frame is of a lower slot, so are all; else the frames before it split
      split : (n : ℕ) → n ≤ frames_in s recording → (m : ℕ) × Split slot n m
      split zero h = (0, record { within = zero-le; low = λ i l. absurd (not-suc-le-zero l); high = λ i l k. absurd (not-suc-le-zero k) })
      split (suc n) h =
          let before = split n (omega arith) in
          ⊎_elim
          (λ not_lower. (
            before.0,
            record {
              within = le_step before.1.within;
              low = before.1.low;
              high = λ i l k.
                  ⊎_elim (λ (same : i ≡ n). rw same not_lower) (λ less. before.1.high i l less) (eq-or-lt_of_le (le_of_suc-le-suc k));
            },
          ))
          (λ lower. (
            suc n,
            record {
              within = le_refl (suc n);
              low = λ i l. let most = no_lower i n (le_of_suc-le-suc l) h in omega arith;
              high = λ i l k. absurd (omega arith);
            },
          ))
          (le_or_lt slot (slot_of s recording n))

      -- it is the number of frames of lower slots
      splits : Split slot (frames_in s recording) (below s recording slot)
      unfolding below
      splits =
          let n : ℕ = frames_in s recording in
          let (m, found) = split n (le_refl n) in
          let test : ℕ → Bool = λ i. ltb (slot_of s recording i) slot in
          let place =
          count_below n m test found.within (λ i h. rw (lt-ltb (slot_of s recording i) slot (found.low i h)) tt)
          (λ i l h t.
          let less = ltb-true (slot_of s recording i) slot (is_true (test i) t) in
          let more = found.high i l h in
          omega arith) in
          rw place found

-- ---- the next slot

-- the first number, from a slot on, at which a test passes
pub data FirstFrom (test : ℕ → Bool) (slot : ℕ) : Option ℕ → Type 0 where
  none : ((k : ℕ) → slot ≤ k → test k ≡ false) → FirstFrom test slot None
  first_at : (n : ℕ) → slot ≤ n → test n ≡ true → ((k : ℕ) → slot ≤ k → k < n → test k ≡ false) → FirstFrom test slot (Some n)

-- where there is one: the test passes there, and not before
pub found_at : {test : ℕ → Bool} {slot n : ℕ} → FirstFrom test slot (Some n)
    → (slot ≤ n) × (test n ≡ true) × ((k : ℕ) → slot ≤ k → k < n → test k ≡ false)
found_at (first_at n h e before) = (h, e, before)

module _ (s : Settings) (recording : List ℕ) (rising : Rising s recording) (slot : ℕ) where
  -- it has none, from this one on, that is not of a frame behind those of lower slots
  has_none : (k : ℕ) → slot ≤ k → ((i : ℕ) → below s recording slot ≤ i → i < frames_in s recording → slot_of s recording i ≡ k → ⊥)
      → has s recording k ≡ false
  has_none k h never =
      is_false (has s recording k)
      (λ t.
      let (i, l, stands) = frame_had s recording k (is_true (has s recording k) t) in
      ⊎_elim (λ behind. never i behind l stands)
      (λ before. let lower = (splits s recording rising slot).low i before in omega arith)
      (le_or_lt (below s recording slot) i))

  -- a recording has the slot that is next in it, and none between
  next_in_lem : FirstFrom (has s recording) slot (next_in s recording slot)
  unfolding next_in
  next_in_lem = go (ltb (below s recording slot) (frames_in s recording)) refl
    where
      go : (b : Bool) → ltb (below s recording slot) (frames_in s recording) ≡ b
          → FirstFrom (has s recording) slot (next_in s recording slot)
      go true e =
          let at : ℕ = below s recording slot in
          let inside : at < frames_in s recording = ltb-true at (frames_in s recording) e in
          rw (e, next_in)
          (first_at (slot_of s recording at) ((splits s recording rising slot).high at (le_refl at) inside)
          (has_frame s recording at inside)
          (λ k h before. has_none k h (λ i l m same. let least = no_lower s recording rising at i l m in omega arith)))
      go false e =
          let out = ltb-false (below s recording slot) (frames_in s recording) e in
          rw (e, next_in) (none (λ k h. has_none k h (λ i l m same. omega arith)))

-- the earlier of two
earlier_first : (f g : ℕ → Bool) (slot : ℕ) {a b : Option ℕ} → FirstFrom f slot a → FirstFrom g slot b
    → FirstFrom (λ k. f k || g k) slot (earlier a b)
unfolding earlier
earlier_first f g slot (none p) (none q) = none (λ k h. rw (p k h, q k h))
earlier_first f g slot (none p) (first_at n h e q) = first_at n h (rw (p n h, e)) (λ k l b. rw (p k l, q k l b))
earlier_first f g slot (first_at n h e p) (none q) = first_at n h (rw e) (λ k l b. rw (p k l b, q k l))
earlier_first f g slot (first_at n h e p) (first_at m i d q) = go (ltb m n) refl
  where
    go : (b : Bool) → ltb m n ≡ b → FirstFrom (λ k. f k || g k) slot (earlier (Some n) (Some m))
    go true test =
        let less : m < n = ltb-true m n test in
        rw (test, earlier) (first_at m i (rw (p m i less, d)) (λ k l b. rw (p k l (omega arith), q k l b)))
    go false test =
        let more : n ≤ m = ltb-false m n test in
        rw (test, earlier) (first_at n h (rw e) (λ k l b. rw (p k l b, q k l (omega arith))))

-- and so does an accepted pair
pub next_of_lem : (s : Settings) (first second : List ℕ) → Checked s first second → (slot : ℕ)
    → FirstFrom (λ k. has s first k || has s second k) slot (next_of s first second slot)
unfolding next_of Rising
next_of_lem s first second pair slot =
    earlier_first (has s first) (has s second) slot (next_in_lem s first pair.one.rising slot) (next_in_lem s second pair.two.rising slot)
