-- How many slots a pair has: one that either has is next from each slot below that number on, and none from there on. And whether too
-- many slots in a row are in neither.
use mathlib.Core.Path.{◌≡◌, refl, sym, ◌∙◌}
use mathlib.Core.Bool.{Bool, true, false, ◌||◌, true≢false}
use mathlib.Core.Logic.{⊎_elim}
use mathlib.Core.List.{List}
use Prim.Native.Nat.{ℕ, zero, suc, ◌+◌, ◌-◌, ◌≤◌, ◌<◌}
use native.Mathlib.Nat.{lt-suc_self, not-suc-le-zero}
use native.Mathlib.Omega.{arith}
use Rattle.galois.proofs.Cases.{is_true, is_false, or_cases, or_right, at, all-below, le_or_lt}
use Rattle.code.specs.declared.settings.Settings.{Settings}
use Rattle.std.specs.Prelude.{Option, Some, None}
use Rattle.aerials.specs.Pair.{frames_in, slot_of, has, pair_cause}
use Rattle.aerials.specs.Sound.{Rising}
use Rattle.aerials.specs.Next.{next_of}
use Rattle.aerials.proofs.PairLaws.{Checked, checked}
use Rattle.aerials.proofs.PartLaws.{has_frame, frame_had}
use Rattle.aerials.proofs.NextLaws.{no_lower, FirstFrom, found_at, next_of_lem}
use Rattle.feeding.specs.Fed.{neither}
use Rattle.pairplay.specs.Transcript.{slots_in, slots_of, silent}

-- ---- a recording

module _ (s : Settings) (recording : List ℕ) where
  -- each slot that it has is below the number of its slots
  pub has_within : Rising s recording → (slot : ℕ) → has s recording slot ≡ true → slot < slots_in s recording
  unfolding slots_in
  has_within rising slot e = go (frames_in s recording) refl
    where
      go : (n : ℕ) → frames_in s recording ≡ n → slot < slots_in s recording
      go zero empty = let (i, h, stands) = frame_had s recording slot e in absurd (omega arith)
      go (suc n) full =
          let (i, h, stands) = frame_had s recording slot e in
          let last = no_lower s recording rising i n (omega arith) (omega arith) in
          rw (full, slots_in) (omega arith)

  -- and from a slot below it on it has one, that of the last frame
  pub last_had : (slot : ℕ) → slot < slots_in s recording → (n : ℕ) × (slot ≤ n) × (has s recording n ≡ true)
  unfolding slots_in
  last_had slot h = go (frames_in s recording) refl
    where
      go : (n : ℕ) → frames_in s recording ≡ n → (k : ℕ) × (slot ≤ k) × (has s recording k ≡ true)
      go zero e = absurd (not-suc-le-zero (rw (e, slots_in) at h))
      go (suc n) e =
          let last : slot < slot_of s recording n + 1 = rw (e, slots_in) at h in
          (slot_of s recording n, omega arith, has_frame s recording n (rw e (lt-suc_self n)))

-- ---- a pair

-- either has the slot
abbrev pub either : Settings → List ℕ → List ℕ → ℕ → Bool
either s first second slot = has s first slot || has s second slot

module _ (s : Settings) (first second : List ℕ) (slot : ℕ) where
  -- each slot that either has is below the number of their slots
  either_within : Checked s first second → either s first second slot ≡ true → slot < slots_of s first second
  unfolding slots_of Rising
  either_within pair e =
      ⊎_elim
      (λ t. let low = has_within s first pair.one.rising slot (is_true (has s first slot) t) in omega arith)
      (λ t. let low = has_within s second pair.two.rising slot (is_true (has s second slot) t) in omega arith)
      (or_cases (has s first slot) (has s second slot) (rw e tt))

  -- and from a slot below it on either has one
  either_from : slot < slots_of s first second → (n : ℕ) × (slot ≤ n) × (either s first second n ≡ true)
  unfolding slots_of
  either_from h =
      ⊎_elim
      (λ out.
      let (n, l, e) = last_had s second slot (omega arith) in
      (n, l, is_true (either s first second n) (or_right (has s first n) (has s second n) (rw e tt))))
      (λ inside. let (n, l, e) = last_had s first slot inside in (n, l, rw e))
      (le_or_lt (slots_in s first) slot)

-- ---- the next slot of an accepted pair

module _ (s : Settings) (first second : List ℕ) (accepted : pair_cause s first second ≡ 0) (slot : ℕ) where
  -- it is the first from a slot on that either has
  pub next_found : (n : ℕ) → next_of s first second slot ≡ Some n
      → (slot ≤ n) × (either s first second n ≡ true) × ((k : ℕ) → slot ≤ k → k < n → either s first second k ≡ false)
  next_found n e = found_at (rw e at (next_of_lem s first second (checked s first second accepted) slot))

  -- so where there is one, the slot is not past the last
  pub next_within : (n : ℕ) → next_of s first second slot ≡ Some n → slot < slots_of s first second
  next_within n e =
      let found = next_found n e in
      omega (arith, either_within s first second n (checked s first second accepted) found.1)

  -- past the last there is none
  pub next_none : slots_of s first second ≤ slot → next_of s first second slot ≡ None
  next_none past = go (next_of s first second slot) refl
    where
      go : (x : Option ℕ) → next_of s first second slot ≡ x → next_of s first second slot ≡ None
      go None e = e
      go (Some n) e = let before = next_within n e in absurd (omega arith)

  -- and up to it there is one
  pub next_some : slot < slots_of s first second → (n : ℕ) × (next_of s first second slot ≡ Some n)
  next_some before =
      let (k, onward, e) = either_from s first second slot before in
      go k onward e (next_of s first second slot) refl (next_of_lem s first second (checked s first second accepted) slot)
    where
      go : (k : ℕ) → slot ≤ k → either s first second k ≡ true → (x : Option ℕ) → next_of s first second slot ≡ x
          → FirstFrom (either s first second) slot x → (n : ℕ) × (next_of s first second slot ≡ Some n)
      go k onward e x is (FirstFrom.none never) = absurd (true≢false (sym e ∙ never k onward))
      go k onward e x is (FirstFrom.first_at n l has earlier) = (n, is)

-- ---- too many slots in a row that neither has

module _ (s : Settings) (first second : List ℕ) (slot n : ℕ) where
  -- where neither has one of so many slots
  pub silent_far : ((k : ℕ) → slot ≤ k → k < n → either s first second k ≡ false) → slot + 4095 < n → silent s first second slot ≡ true
  unfolding silent neither
  silent_far before far =
      is_true (silent s first second slot)
      (all-below 4096 (λ i. neither s first second (slot + i)) (λ i h. rw (before (slot + i) (omega arith) (omega arith)) tt))

  -- not where either has one of them
  pub silent_near : slot ≤ n → n ≤ slot + 4095 → either s first second n ≡ true → silent s first second slot ≡ false
  unfolding silent neither
  silent_near onward near e =
      let there : slot + (n - slot) ≡ n = omega arith in
      is_false (silent s first second slot)
      (λ t. rw (there, e) at (at 4096 (λ i. neither s first second (slot + i)) t (n - slot) (omega arith)))
