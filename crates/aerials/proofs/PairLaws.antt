-- What an accepted pair is, frame by frame.
use mathlib.Core.Path.{◌≡◌, refl}
use mathlib.Core.Bool.{Bool, true, false, not, ◌&&◌, ◌||◌}
use mathlib.Core.Logic.{⊎_elim}
use mathlib.Core.List.{List}
use Prim.Native.Nat.{ℕ, zero, suc, ◌-◌, ◌%◌, ◌<◌}
use native.Mathlib.Nat.{eq-or-lt_of_le, le_of_suc-le-suc, not-suc-le-zero}
use native.Mathlib.Omega.{arith}
use lib.Dec.{T, eqb, leb, ltb, eqb→eq}
use lib.ListN.{length, drop}
use borrow.Author.Tests.{ltb-false, leb-false, eq-eqb}
use Rattle.galois.specs.Bounded.{any}
use Rattle.galois.proofs.Cases.{some_any}
use Rattle.code.specs.declared.settings.Settings.{Settings}
use Rattle.code.specs.Settings.{accepted}
use Rattle.protocol.specs.Lengths.{frame_len}
use Rattle.protocol.specs.Frame.{mark, five}
use Rattle.protocol.specs.Causes.{agree}
use Rattle.protocol.proofs.CauseTables.{passes}
use Rattle.protocol.proofs.LookUps.{neither}
use Rattle.aerials.specs.Pair.{frames_in, frame_of, slot_of, unfit, other_mark, other_settings, falling, unlike, pair_cause}
-- the crates above cite them from here
pub use Rattle.aerials.specs.Sound.{Sound, Checked}
use Rattle.aerials.specs.Sound.{Rising}
use Rattle.aerials.proofs.TableLaws.{clear}

-- a test that fails at some number fails at each
none_at : (m : ℕ) (f : ℕ → Bool) → any m f ≡ false → (i : ℕ) → i < m → f i ≡ false
none_at m f e i h = go (f i) refl
  where
    go : (b : Bool) → f i ≡ b → f i ≡ false
    go true is = absurd (rw e at (some_any m f i h (rw is tt)))
    go false is = is

-- each slot is above the one before it, so above every earlier one
rises : (f : ℕ → ℕ) (n : ℕ) → ((i : ℕ) → suc i < n → f i < f (suc i)) → (i j : ℕ) → i < j → j < n → f i < f j
rises f n step i zero h k = absurd (not-suc-le-zero h)
rises f n step i (suc j) h k =
    ⊎_elim (λ same. let e : i ≡ j = same in rw e (step j k))
    (λ less. let before = rises f n step i j less (omega arith) in let last = step j k in omega arith)
    (eq-or-lt_of_le (le_of_suc-le-suc h))

-- slots that do not fall rise
pub rising : (s : Settings) (recording : List ℕ) → falling s recording ≡ false → Rising s recording
unfolding Rising falling
rising s recording e =
    rises (slot_of s recording) (frames_in s recording)
    (λ i h.
    leb-false (slot_of s recording (suc i)) (slot_of s recording i)
    (none_at (frames_in s recording - 1) (λ j. leb (slot_of s recording (suc j)) (slot_of s recording j)) e i (omega arith)))

-- a recording by its tests
pub sound : (s : Settings) (recording : List ℕ) → unfit s recording ≡ false → other_mark s recording ≡ false
    → other_settings s recording ≡ false → falling s recording ≡ false → Sound s recording
unfolding unfit other_mark other_settings Rising
sound s recording fits marks settings slots =
    let n : ℕ = frames_in s recording in
    let parts = neither (ltb 65536 (length recording)) (not (eqb (length recording % frame_len s) 0)) fits in
    record {
      short = ltb-false 65536 (length recording) parts.0;
      whole = eqb→eq (length recording % frame_len s) 0 (passes (eqb (length recording % frame_len s) 0) parts.1);
      marked = λ i h.
          passes (agree 5 (frame_of s recording i) (mark 1))
          (none_at n (λ j. not (agree 5 (frame_of s recording j) (mark 1))) marks i h);
      settled = λ i h.
          passes (agree 5 (drop 5 (frame_of s recording i)) (five s))
          (none_at n (λ j. not (agree 5 (drop 5 (frame_of s recording j)) (five s))) settings i h);
      rising = rising s recording slots;
    }

-- what both have is the same
same_bytes : (a b : Bool) → T a → a && not b ≡ false → T b
same_bytes true b t e = passes b e
same_bytes false b t e = absurd t

pub checked : (s : Settings) (first second : List ℕ) → pair_cause s first second ≡ 0 → Checked s first second
unfolding pair_cause unlike
checked s first second e =
    let at1 = clear (not (accepted s)) 1 _ (λ z. absurd (omega arith)) e in
    let at2 = clear (unfit s first || unfit s second) 2 _ (λ z. absurd (omega arith)) at1.1 in
    let at4 = clear (other_mark s first || other_mark s second) 4 _ (λ z. absurd (omega arith)) at2.1 in
    let at5 = clear (other_settings s first || other_settings s second) 5 _ (λ z. absurd (omega arith)) at4.1 in
    let at9 = clear (falling s first || falling s second) 9 _ (λ z. absurd (omega arith)) at5.1 in
    let at10 = clear (unlike s first second) 10 0 (λ z. absurd (omega arith)) at9.1 in
    let fits = neither (unfit s first) (unfit s second) at2.0 in
    let marks = neither (other_mark s first) (other_mark s second) at4.0 in
    let settings = neither (other_settings s first) (other_settings s second) at5.0 in
    let slots = neither (falling s first) (falling s second) at9.0 in
    record {
      settings = passes (accepted s) at1.0;
      one = sound s first fits.0 marks.0 settings.0 slots.0;
      two = sound s second fits.1 marks.1 settings.1 slots.1;
      alike = λ i j hi hj same.
          same_bytes (eqb (slot_of s first i) (slot_of s second j)) (agree (frame_len s) (frame_of s first i) (frame_of s second j))
          (rw (eq-eqb (slot_of s first i) (slot_of s second j) same) tt)
          (none_at (frames_in s second) _ (none_at (frames_in s first) _ at10.0 i hi) j hj);
    }
