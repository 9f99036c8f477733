-- Arrays made by the calls of a closure at 0, 1, .., where no call changes what the closure holds.
use Rattle.std.proofs.Common.{◌≡◌, ℕ, zero, suc, ◌+◌, ◌<◌, List, arith, subst, ◌∙◌}
use denote.Param.Members.{Mut, Called}
use native.Mathlib.Nat.{not-suc-le-zero, add-zero}
use lib.ListN.{get_or}
use Rattle.std.specs.Array.{IsFromFnResult, IsFromFnResultFrom}
use Rattle.galois.specs.Table.{table}
use Rattle.galois.proofs.ByIndex.{is_table}

module _ {F B : Type 0} (g : Mut F (ℕ × Unit {0}) B) (f : F) (b : ℕ → B) (d : B) (ys : List B) where
  -- the elements from i on, of which there are n
  elements : (n i : ℕ) → ((k : ℕ) (y : B) (q : F) → k < i + n → Called g f (k, tt) y q → (y ≡ b k) × (q ≡ f))
      → IsFromFnResultFrom g f ys i n → (k : ℕ) → k < n → get_or ys (i + k) d ≡ b (i + k)
  elements zero i same made k hk = absurd (not-suc-le-zero hk)
  elements (suc n) i same made zero hk =
      let called = (same i made.1 made.0 (omega arith) made.3).0 in
      rw (add-zero i) (made.2.1 d ∙ called)
  elements (suc n) i same made (suc k) hk =
      let kept = (same i made.1 made.0 (omega arith) made.3).1 in
      let rest = subst (λ (q : F). IsFromFnResultFrom g q ys (i + 1) n) kept made.4 in
      let on : i + suc k ≡ i + 1 + k = omega arith in
      rw on (elements n (i + 1) (λ k y q h. same k y q (omega arith)) rest k (omega arith))

  -- if each call at k gives b k, the array is the table of b
  pub from_fn_table : (n : ℕ) → IsFromFnResult g f ys n
      → ((k : ℕ) (y : B) (q : F) → k < n → Called g f (k, tt) y q → (y ≡ b k) × (q ≡ f)) → ys ≡ table n b
  from_fn_table n made same =
      is_table n b d ys made.long
      (λ k h. let from : 0 + k ≡ k = omega arith in rw from at (elements n 0 (λ k y q h. same k y q (omega arith)) made.each k h))
