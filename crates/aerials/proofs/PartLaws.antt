-- The part that is lent for a slot: the frame of that slot, or nothing.
use mathlib.Core.Path.{◌≡◌, refl, sym, ◌∙◌, ap}
use mathlib.Core.Bool.{Bool, true, false, true≢false}
use mathlib.Core.Logic.{⊎_elim}
use mathlib.Core.List.{List, []}
use Prim.Native.Nat.{ℕ, suc, ◌+◌, ◌-◌, ◌*◌, ◌≤◌, ◌<◌}
use native.Mathlib.Nat.{le_of_lt, eq-or-lt_of_le}
use native.Mathlib.Omega.{arith}
use lib.Dec.{T, eqb, ltb, eqb→eq}
use borrow.Author.Tests.{lt-ltb, ltb-true, eq-eqb, ne_eqb}
use Rattle.galois.specs.Bounded.{count}
use Rattle.galois.proofs.Counting.{count_split, count_all, count_none}
use Rattle.galois.proofs.Cases.{is_true, any-one, any_at}
use Rattle.code.specs.declared.settings.Settings.{Settings}
use Rattle.protocol.specs.Lengths.{frame_len}
use Rattle.aerials.specs.Pair.{frames_in, frame_of, slot_of, has, pair_cause}
use Rattle.aerials.specs.Parts.{one, two, bytes_of, no_part, below, frame_part, part_of, join_of}
use Rattle.aerials.specs.Sound.{Rising, Checked}

-- a test that holds exactly below m holds for m numbers
pub count_below : (n m : ℕ) (f : ℕ → Bool) → m ≤ n → ((i : ℕ) → i < m → T (f i)) → ((i : ℕ) → m ≤ i → i < n → T (f i) → ⊥)
    → count n f ≡ m
count_below n m f h low high =
    let all : n ≡ m + (n - m) = omega arith in
    let split = count_split m (n - m) f in
    let lows = count_all m f low in
    let highs = count_none (n - m) (λ i. f (m + i)) (λ i k. high (m + i) (omega arith) (omega arith)) in
    ap (λ (k : ℕ). count k f) all ∙ omega arith

module _ (s : Settings) (recording : List ℕ) where
  -- a frame of this slot, or none
  pub has_frame : (i : ℕ) → i < frames_in s recording → has s recording (slot_of s recording i) ≡ true
  unfolding has
  has_frame i h =
      any-one (frames_in s recording) (λ j. eqb (slot_of s recording j) (slot_of s recording i)) i h
      (rw (eq-eqb (slot_of s recording i) (slot_of s recording i) refl) tt)

  pub frame_had : (slot : ℕ) → has s recording slot ≡ true → (i : ℕ) × (i < frames_in s recording) × (slot_of s recording i ≡ slot)
  unfolding has
  frame_had slot e =
      let found = any_at (frames_in s recording) (λ j. eqb (slot_of s recording j) slot) (rw e tt) in
      (found.0, found.1, eqb→eq (slot_of s recording found.0) slot found.2)

  module _ (rising : Rising s recording) where
    -- no later frame is of a lower slot
    above : (i j : ℕ) → i ≤ j → j < frames_in s recording → T (ltb (slot_of s recording j) (slot_of s recording i)) → ⊥
    unfolding Rising
    above i j k l t =
        let less =
        ltb-true (slot_of s recording j) (slot_of s recording i) (is_true (ltb (slot_of s recording j) (slot_of s recording i)) t) in
        ⊎_elim (λ same. let e : slot_of s recording i ≡ slot_of s recording j = ap (slot_of s recording) same in absurd (omega arith))
        (λ before. let more = rising i j before l in absurd (omega arith)) (eq-or-lt_of_le k)

    -- behind the frames of earlier slots stands that of the slot itself
    pub below_at : (i : ℕ) → i < frames_in s recording → below s recording (slot_of s recording i) ≡ i
    unfolding below Rising
    below_at i h =
        let slot : ℕ → ℕ = slot_of s recording in
        count_below (frames_in s recording) i (λ j. ltb (slot j) (slot i)) (le_of_lt h)
        (λ j k. rw (lt-ltb (slot j) (slot i) (rising j i k h)) tt) (above i)

    module _ (slot : ℕ) where
      -- so a slot that it has is that of the frame there
      pub stands_below : has s recording slot ≡ true
          → (below s recording slot < frames_in s recording) × (slot_of s recording (below s recording slot) ≡ slot)
      stands_below e =
          let found = frame_had slot e in
          let place : below s recording slot ≡ found.0 = ap (below s recording) (sym found.2) ∙ below_at found.0 found.1 in
          rw place (found.1, found.2)

      -- and one that does not stand there it has not
      pub none_behind : frames_in s recording ≤ below s recording slot → has s recording slot ≡ false
      none_behind h = go (has s recording slot) refl
        where
          go : (b : Bool) → has s recording slot ≡ b → has s recording slot ≡ false
          go true e = let there = stands_below e in absurd (omega arith)
          go false e = e

      pub stands : below s recording slot < frames_in s recording
          → eqb (slot_of s recording (below s recording slot)) slot ≡ has s recording slot
      stands h = go (has s recording slot) refl
        where
          go : (b : Bool) → has s recording slot ≡ b → eqb (slot_of s recording (below s recording slot)) slot ≡ has s recording slot
          go true e = eq-eqb (slot_of s recording (below s recording slot)) slot (stands_below e).1 ∙ sym e
          go false e =
              ne_eqb (slot_of s recording (below s recording slot)) slot
              (λ same. true≢false (sym (rw same at (has_frame (below s recording slot) h)) ∙ e)) ∙ sym e

-- ---- whose part it is

module _ (s : Settings) (first second : List ℕ) (slot : ℕ) where
  pub part_first : has s first slot ≡ true → part_of s first second slot ≡ frame_part s one first slot
  unfolding part_of
  part_first a = rw (a, part_of)

  pub part_second : has s first slot ≡ false → has s second slot ≡ true → part_of s first second slot ≡ frame_part s two second slot
  unfolding part_of
  part_second a b = rw (a, part_of) (rw b)

  pub of_none : has s first slot ≡ false → has s second slot ≡ false → part_of s first second slot ≡ no_part
  unfolding part_of
  of_none a b = rw (a, part_of) (rw b)

  -- the bytes of a frame's part are the frame
  pub first_bytes : bytes_of first second (frame_part s one first slot) ≡ frame_of s first (below s first slot)
  unfolding bytes_of frame_of
  first_bytes = refl

  pub second_bytes : bytes_of first second (frame_part s two second slot) ≡ frame_of s second (below s second slot)
  unfolding bytes_of frame_of
  second_bytes = refl

-- an empty part has no bytes
pub no_bytes : (first second : List ℕ) → bytes_of first second no_part ≡ []
unfolding bytes_of
no_bytes first second = refl

-- ---- of an accepted pair

module _ (s : Settings) (first second : List ℕ) (pair : Checked s first second) where
  -- the first's frame of a slot is lent, whatever the second has
  pub of_first : (i : ℕ) → i < frames_in s first → part_of s first second (slot_of s first i)
      ≡ record { whose = one; start = i * frame_len s; len = frame_len s }
  unfolding Rising
  of_first i h = rw (part_first s first second (slot_of s first i) (has_frame s first i h), below_at s first pair.one.rising i h)

  -- the second's where the first has none
  pub of_second : (i : ℕ) → i < frames_in s second → has s first (slot_of s second i) ≡ false
      → part_of s first second (slot_of s second i) ≡ record { whose = two; start = i * frame_len s; len = frame_len s }
  unfolding Rising
  of_second i h none =
      rw (part_second s first second (slot_of s second i) none (has_frame s second i h), below_at s second pair.two.rising i h)

-- the joiner lends it where the pair is accepted
pub join_accepted : (s : Settings) (first second : List ℕ) (slot : ℕ) → pair_cause s first second ≡ 0
    → join_of s first second slot ≡ part_of s first second slot
unfolding join_of
join_accepted s first second slot e = rw (e, join_of)

-- and an empty part where it is refused
pub join_refused : (s : Settings) (first second : List ℕ) (slot n : ℕ) → pair_cause s first second ≡ suc n
    → join_of s first second slot ≡ no_part
unfolding join_of
join_refused s first second slot n e = rw (e, join_of)
