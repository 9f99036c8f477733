-- A test that compares two lists place by place says whether they are equal.
use mathlib.Core.Path.{◌≡◌, sym, ap, ◌∙◌, subst⁻¹}
use mathlib.Core.List.{List}
use native.Mathlib.Omega.{arith}
use Prim.Native.Nat.{ℕ, ◌<◌}
use lib.Dec.{T, eqb}
use lib.ListN.{length, get_or}
use lib.Seq.{ext_get_or}
use borrow.Author.Tests.{eq-eqb}
use Rattle.std.specs.Bool.{Decides}
use Rattle.galois.specs.Bounded.{every}
use Rattle.galois.proofs.Cases.{is_true, equal, all-below}

pub compared : (m : ℕ) (f g : ℕ → ℕ) (xs ys : List ℕ) → length xs ≡ m → length ys ≡ m
    → ((i : ℕ) → i < m → get_or xs i 0 ≡ f i) → ((i : ℕ) → i < m → get_or ys i 0 ≡ g i)
    → Decides (every m (λ i. eqb (f i) (g i))) (xs ≡ ys)
compared m f g xs ys long as_long left right = (
  λ pass.
      ext_get_or 0 xs ys (long ∙ sym as_long)
      (λ i h.
      let below : i < m = omega arith in
      left i below ∙ equal m f g (subst⁻¹ T pass tt) i below ∙ sym (right i below)),
  λ same.
      is_true (every m (λ i. eqb (f i) (g i)))
      (all-below m (λ i. eqb (f i) (g i))
      (λ i h. subst⁻¹ T (eq-eqb (f i) (g i) (sym (left i h) ∙ ap (λ (l : List ℕ). get_or l i 0) same ∙ right i h)) tt)),
)
