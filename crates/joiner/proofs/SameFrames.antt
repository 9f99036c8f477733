-- Two frames of one length are equal where the bytes are, place by place.
use mathlib.Core.Path.{◌≡◌, refl, sym, ap, ◌∙◌, subst⁻¹}
use mathlib.Core.Bool.{Bool, true, false, not}
use mathlib.Core.List.{List}
use native.Mathlib.Omega.{arith}
use Prim.Native.Nat.{ℕ, ◌<◌}
use lib.Dec.{T, eqb}
use lib.ListN.{length, get_or}
use lib.Seq.{ext_get_or}
use borrow.Author.Tests.{eq-eqb}
use Rattle.std.specs.Bool.{Decides}
use Rattle.std.specs.Cmp.Lexicographic.{pointwise}
use Rattle.std.proofs.lemmas.Bool.Decides.{same_from_decides, Decides-eqb}
use Rattle.std.proofs.lemmas.Slice.Eq.{slice_eq-Decides}
use Rattle.galois.specs.Bounded.{every}
use Rattle.galois.proofs.Cases.{is_true, equal, all-below}
use Rattle.code.specs.declared.settings.Settings.{Settings}
use Rattle.protocol.specs.Lengths.{frame_len}
use Rattle.protocol.specs.Causes.{agree}
use Rattle.aerials.specs.Pair.{frames_in, frame_of}
use Rattle.aerials.proofs.FrameLaws.{frame_length}

-- bytes of one length agree exactly if they are equal
agreed : (m : ℕ) (a b : List ℕ) → length a ≡ m → length b ≡ m → Decides (agree m a b) (a ≡ b)
unfolding agree
agreed m a b long as_long = (
  λ pass.
      ext_get_or 0 a b (long ∙ sym as_long)
      (λ i h. equal m (λ k. get_or a k 0) (λ k. get_or b k 0) (subst⁻¹ T pass tt) i (omega arith)),
  λ same.
      is_true (every m (λ i. eqb (get_or a i 0) (get_or b i 0)))
      (all-below m (λ i. eqb (get_or a i 0) (get_or b i 0))
      (λ i h. subst⁻¹ T (eq-eqb (get_or a i 0) (get_or b i 0) (ap (λ (l : List ℕ). get_or l i 0) same)) tt)),
)

same_bytes : (m : ℕ) (a b : List ℕ) → length a ≡ m → length b ≡ m → pointwise eqb a b ≡ agree m a b
same_bytes m a b long as_long =
    same_from_decides _ _ (slice_eq-Decides Decides-eqb a b (pointwise eqb a b) refl) (agreed m a b long as_long)

module _ (s : Settings) (first second : List ℕ) (i j : ℕ) (hi : i < frames_in s first) (hj : j < frames_in s second)
    (a b : List ℕ) (is : a ≡ frame_of s first i) (other : b ≡ frame_of s second j) (differs : Bool)
    (tested : differs ≡ not (pointwise eqb a b)) where
  same : pointwise eqb a b ≡ agree (frame_len s) (frame_of s first i) (frame_of s second j)
  same = rw (is, other) (same_bytes (frame_len s) _ _ (frame_length s first i hi) (frame_length s second j hj))

  pub unlike : differs ≡ true → agree (frame_len s) (frame_of s first i) (frame_of s second j) ≡ false
  unlike e = go (agree (frame_len s) (frame_of s first i) (frame_of s second j)) same
    where
      go : (t : Bool) → pointwise eqb a b ≡ t → t ≡ false
      go true f = let no : false ≡ true = rw (tested, f) at e in cc
      go false f = refl

  pub alike : differs ≡ false → agree (frame_len s) (frame_of s first i) (frame_of s second j) ≡ true
  alike e = go (agree (frame_len s) (frame_of s first i) (frame_of s second j)) same
    where
      go : (t : Bool) → pointwise eqb a b ≡ t → t ≡ true
      go true f = refl
      go false f = let no : true ≡ false = rw (tested, f) at e in cc
