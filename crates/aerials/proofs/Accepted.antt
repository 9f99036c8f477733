-- The check of a pair: which number it gives, and when it is 0.
use mathlib.Core.Path.{◌≡◌}
use mathlib.Core.Bool.{Bool, false, not, ◌&&◌}
use mathlib.Core.List.{List}
use Prim.Native.Nat.{ℕ, suc, ◌-◌, ◌<◌}
use native.Mathlib.Nat.{lt-suc_self}
use native.Mathlib.Omega.{arith}
use lib.Dec.{T, eqb, leb, eqb→eq}
use lib.ListN.{drop}
use borrow.Author.Tests.{le-ltb, eq-eqb, leb-true}
use Rattle.galois.specs.Bounded.{any}
use Rattle.galois.proofs.Cases.{is_true, and_left, and_right, any_at, any_none}
use Rattle.code.specs.declared.settings.Settings.{Settings}
use Rattle.code.specs.Settings.{accepted}
use Rattle.protocol.specs.Lengths.{frame_len}
use Rattle.protocol.specs.Frame.{mark, five}
use Rattle.protocol.specs.Causes.{agree}
use Rattle.protocol.proofs.CauseTables.{fails}
use Rattle.aerials.specs.Pair.{frames_in, frame_of, slot_of, unfit, other_mark, other_settings, falling, unlike, pair_table, pair_cause}
use Rattle.aerials.specs.Sound.{Sound, Checked}
use Rattle.aerials.specs.Meaning.{PairCauses}
use Rattle.aerials.proofs.TableLaws.{first_holds, holds_first}
use Rattle.aerials.proofs.PairLaws.{checked}

-- a test that each passes refuses none
none_fails : (m : ℕ) (f : ℕ → Bool) → ((i : ℕ) → i < m → T (f i)) → any m (λ i. not (f i)) ≡ false
none_fails m f all = any_none m (λ i. not (f i)) (λ i h t. rw (is_true (f i) (all i h)) at t)

-- nothing is wrong with a sound recording
module _ (s : Settings) (recording : List ℕ) (good : Sound s recording) where
  fit : unfit s recording ≡ false
  unfolding unfit
  fit = rw (le-ltb 65536 _ good.short, eq-eqb _ 0 good.whole)

  marks : other_mark s recording ≡ false
  unfolding other_mark
  marks = none_fails (frames_in s recording) (λ i. agree 5 (frame_of s recording i) (mark 1)) good.marked

  settings : other_settings s recording ≡ false
  unfolding other_settings
  settings = none_fails (frames_in s recording) (λ i. agree 5 (drop 5 (frame_of s recording i)) (five s)) good.settled

  rises : falling s recording ≡ false
  unfolding falling
  rises =
      any_none (frames_in s recording - 1) (λ i. leb (slot_of s recording (suc i)) (slot_of s recording i))
      (λ i h t.
      let low = leb-true (slot_of s recording (suc i)) (slot_of s recording i)
      (is_true (leb (slot_of s recording (suc i)) (slot_of s recording i)) t) in
      let high = good.rising i (suc i) (lt-suc_self i) (omega arith) in
      omega arith)

-- two frames that stand for one slot, and differ
abbrev differ : Settings → List ℕ → List ℕ → ℕ → ℕ → Bool
differ s first second i j =
    eqb (slot_of s first i) (slot_of s second j) && not (agree (frame_len s) (frame_of s first i) (frame_of s second j))

none_differ : (s : Settings) (first second : List ℕ) → Checked s first second → unlike s first second ≡ false
unfolding unlike
none_differ s first second pair =
    any_none (frames_in s first) (λ i. any (frames_in s second) (differ s first second i))
    (λ i hi t.
    let found = any_at (frames_in s second) (differ s first second i) t in
    let j = found.0 in
    let same = agree (frame_len s) (frame_of s first i) (frame_of s second j) in
    let slot = eqb (slot_of s first i) (slot_of s second j) in
    let equal = pair.alike i j hi found.1 (eqb→eq (slot_of s first i) (slot_of s second j) (and_left slot (not same) found.2)) in
    rw (is_true same equal) at (and_right slot (not same) found.2))

-- nor with two that agree
unchecked : (s : Settings) (first second : List ℕ) → Checked s first second → pair_cause s first second ≡ 0
unfolding pair_cause
unchecked s first second pair =
    rw (
      fails (accepted s) pair.settings,
      fit s first pair.one,
      fit s second pair.two,
      marks s first pair.one,
      marks s second pair.two,
      settings s first pair.one,
      settings s second pair.two,
      rises s first pair.one,
      rises s second pair.two,
      none_differ s first second pair,
    )

pub pair_causes : PairCauses
unfolding pair_cause
pair_causes =
    record {
      order = λ s first second. tt;
      first = λ s first second n some. (first_holds (pair_table s first second) n some, holds_first (pair_table s first second) n);
      accepted = λ s first second. (checked s first second, unchecked s first second);
    }
