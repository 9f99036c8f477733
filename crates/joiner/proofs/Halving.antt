-- Halving: what is known at first, and after each frame that is looked at.
use mathlib.Core.Path.{◌≡◌, sym, ap}
use mathlib.Core.List.{List}
use mathlib.Core.Logic.{◌≢◌, ⊎_elim}
use Prim.Native.Nat.{ℕ, zero, suc, ◌+◌, ◌-◌, ◌≤◌, ◌<◌, min}
use native.Mathlib.Nat.{add-zero, add-suc, lt-suc_self, eq-or-lt_of_le}
use native.Mathlib.Omega.{arith}
use lib.Dec.{ltb}
use borrow.Author.Tests.{lt-ltb, ltb-true}
use Rattle.galois.proofs.Cases.{is_true}
use Rattle.code.specs.declared.settings.Settings.{Settings}
use Rattle.aerials.specs.Pair.{frames_in, slot_of}
use Rattle.aerials.specs.Parts.{below}
use Rattle.aerials.specs.Sound.{Rising}
use Rattle.aerials.proofs.PartLaws.{count_below}
use Rattle.joiner.specs.Halving.{Bracket}

module _ (s : Settings) (recording : List ℕ) (slot : ℕ) where
  module _ (rising : Rising s recording) where
    -- slots rise by one at least
    spread : (i d : ℕ) → i + d < frames_in s recording → slot_of s recording i + d ≤ slot_of s recording (i + d)
    unfolding Rising
    spread i zero h = let same = ap (slot_of s recording) (add-zero i) in omega arith
    spread i (suc d) h =
        let before = spread i d (omega arith) in
        let next : i + suc d ≡ suc (i + d) = add-suc i d in
        let more = rising (i + d) (suc (i + d)) (lt-suc_self (i + d)) (omega arith) in
        rw next (omega arith)

    apart : (i j : ℕ) → i ≤ j → j < frames_in s recording → slot_of s recording i + (j - i) ≤ slot_of s recording j
    apart i j h k =
        let place : i + (j - i) ≡ j = omega arith in
        rw place at (spread i (j - i) (omega arith))

    -- the slot lies between those of the first frame and the last, and few frames lie between
    pub narrow : (count first last low high : ℕ) → count ≡ frames_in s recording → count ≢ 0 → first ≡ slot_of s recording 0
        → last ≡ slot_of s recording (count - 1) → first < slot → slot ≤ last → low ≡ count - (last - slot + 1)
        → high ≡ min count (slot - first) → Bracket s recording slot low high
    narrow count first last low high all some at-first at-last above under is-low is-high =
        let ends = apart 0 (count - 1) (omega arith) (omega arith) in
        record {
          ordered = omega arith;
          within = omega arith;
          lower = λ i h. let far = apart i (count - 1) (omega arith) (omega arith) in omega arith;
          upper = λ i h k. let far = apart 0 i (omega arith) k in omega arith;
        }

  module _ (rising : Rising s recording) (low high mid : ℕ) (b : Bracket s recording slot low high)
      (above : low ≤ mid) (under : mid < high) where
    -- the frame in the middle is of a lower slot, and so are those before it
    pub up : slot_of s recording mid < slot → Bracket s recording slot (mid + 1) high
    unfolding Rising
    up less =
        record {
          ordered = omega arith;
          within = b.within;
          lower = λ i h.
              let upto : i ≤ mid = omega arith in
              ⊎_elim (λ same. let e = ap (slot_of s recording) same in omega arith)
              (λ before. let more = rising i mid before (omega (arith, b.within)) in omega arith) (eq-or-lt_of_le upto);
          upper = b.upper;
        }

    -- it is not, and neither are those behind it
    pub down : slot ≤ slot_of s recording mid → Bracket s recording slot low mid
    unfolding Rising
    down more =
        record {
          ordered = above;
          within = omega (arith, b.within);
          lower = b.lower;
          upper = λ i h k.
              ⊎_elim (λ same. let e = ap (slot_of s recording) same in omega arith)
              (λ behind. let higher = rising mid i behind k in omega arith) (eq-or-lt_of_le h);
        }

  -- nothing is left between them
  pub closed : (low high : ℕ) → Bracket s recording slot low high → high ≤ low → low ≡ below s recording slot
  unfolding below
  closed low high b met =
      sym
      (count_below (frames_in s recording) low (λ i. ltb (slot_of s recording i) slot) (omega (arith, b.ordered, b.within))
      (λ i h. rw (lt-ltb (slot_of s recording i) slot (b.lower i h)) tt)
      (λ i h k t.
      let less = ltb-true (slot_of s recording i) slot (is_true (ltb (slot_of s recording i) slot) t) in
      let more = b.upper i (omega (arith, b.ordered)) k in
      omega arith))

  -- there are no frames
  pub none_there : frames_in s recording ≡ 0 → 0 ≡ below s recording slot
  none_there none =
      closed 0 0
      (record { ordered = omega arith; within = omega arith; lower = λ i h. absurd (omega arith); upper = λ i h k. absurd (omega arith) })
      (omega arith)

  module _ (rising : Rising s recording) where
    -- the first is not of a lower slot, so none is
    pub none_below : slot ≤ slot_of s recording 0 → 0 ≡ below s recording slot
    none_below early =
        closed 0 0
        (record {
          ordered = omega arith;
          within = omega arith;
          lower = λ i h. absurd (omega arith);
          upper = λ i h k. let far = apart rising 0 i (omega arith) k in omega arith;
        })
        (omega arith)

    -- the last is of a lower slot, so all are
    pub all-below : (n : ℕ) → frames_in s recording ≡ suc n → slot_of s recording n < slot → suc n ≡ below s recording slot
    all-below n count late =
        closed (suc n) (suc n)
        (record {
          ordered = omega arith;
          within = omega arith;
          lower = λ i h. let far = apart rising i n (omega arith) (omega arith) in omega arith;
          upper = λ i h k. absurd (omega arith);
        })
        (omega arith)
