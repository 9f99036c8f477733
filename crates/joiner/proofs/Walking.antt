-- A walk over one recording: what is wrong with the frames so far.
use mathlib.Core.Path.{◌≡◌, refl, sym, ap, ap₂, ◌∙◌}
use mathlib.Core.Bool.{Bool, true, false, not, ◌||◌}
use mathlib.Core.List.{List}
use Prim.Native.Nat.{ℕ, zero, suc, ◌+◌, ◌-◌, zero-le}
use native.Mathlib.Omega.{arith}
use lib.Dec.{leb, ltb}
use lib.ListN.{drop}
use borrow.Author.Tests.{ltb-true, ltb-false, le-ltb, le-leb, lt-leb}
use Rattle.galois.specs.Bounded.{any}
use Rattle.code.specs.declared.settings.Settings.{Settings}
use Rattle.protocol.specs.Frame.{mark, five}
use Rattle.protocol.specs.Causes.{agree}
use Rattle.aerials.specs.Pair.{frame_of, slot_of}

-- the least slot that frame n may have: 0, or one above the frame before it
abbrev pub least_at : Settings → List ℕ → ℕ → ℕ
least_at s recording zero = 0
least_at s recording (suc m) = slot_of s recording m + 1

-- what is wrong with the first n frames
pub record Walked (s : Settings) (recording : List ℕ) (n : ℕ) (marks settings falls : Bool) (least : ℕ) : Type 0 where
  pub marked : marks ≡ any n (λ i. not (agree 5 (frame_of s recording i) (mark 1)))
  pub settled : settings ≡ any n (λ i. not (agree 5 (drop 5 (frame_of s recording i)) (five s)))
  pub fell : falls ≡ any (n - 1) (λ i. leb (slot_of s recording (suc i)) (slot_of s recording i))
  pub least_is : least ≡ least_at s recording n

-- below the number above is at most the number
below_next : (a b : ℕ) → ltb a (b + 1) ≡ leb a b
below_next a b = go (ltb a (b + 1)) refl
  where
    go : (t : Bool) → ltb a (b + 1) ≡ t → ltb a (b + 1) ≡ leb a b
    go true e = let h = ltb-true a (b + 1) e in e ∙ sym (le-leb a b (omega arith))
    go false e = let h = ltb-false a (b + 1) e in e ∙ sym (lt-leb a b (omega arith))

module _ (s : Settings) (recording : List ℕ) where
  pub none_walked : Walked s recording 0 false false false 0
  unfolding any
  none_walked = record { marked = refl; settled = refl; fell = refl; least_is = refl }

  -- frame n falls behind the one before it, if there is one
  falls_next : (n : ℕ)
      → any (n - 1) (λ i. leb (slot_of s recording (suc i)) (slot_of s recording i)) || ltb (slot_of s recording n) (least_at s recording n)
      ≡ any n (λ i. leb (slot_of s recording (suc i)) (slot_of s recording i))
  unfolding any
  falls_next zero = rw (le-ltb (slot_of s recording 0) 0 zero-le)
  falls_next (suc m) =
      let before : suc m - 1 ≡ m = omega arith in
      rw (before, below_next (slot_of s recording (suc m)) (slot_of s recording m))

  -- one frame more
  pub one_more : (n : ℕ) (marks settings falls : Bool) (least slot : ℕ) (x y : Bool) → Walked s recording n marks settings falls least
      → x ≡ agree 5 (frame_of s recording n) (mark 1) → y ≡ agree 5 (drop 5 (frame_of s recording n)) (five s)
      → slot ≡ slot_of s recording n
      → Walked s recording (suc n) (marks || not x) (settings || not y) (falls || ltb slot least) (slot + 1)
  unfolding any
  one_more n marks settings falls least slot x y w a b e =
      record {
        marked = ap₂ (λ (p q : Bool). p || not q) w.marked a;
        settled = ap₂ (λ (p q : Bool). p || not q) w.settled b;
        fell = let before : suc n - 1 ≡ n = omega arith in
            rw before (ap₂ (λ (p q : Bool). p || q) w.fell (ap₂ ltb e w.least_is) ∙ falls_next n);
        least_is = ap (λ (k : ℕ). k + 1) e;
      }
