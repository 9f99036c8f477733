-- Elimination over the flags of the parity positions, from the roles at the start, is that over all flags. What is left of them are all
-- flags, but that some are 0 at positions of pivots; no source has one.
use mathlib.Core.Path.{◌≡◌, sym, ap, ap₂, ◌∙◌, subst, subst⁻¹}
use mathlib.Core.Bool.{◌&&◌}
use mathlib.Core.List.{List}
use mathlib.Core.Logic.{◌⊎◌, inl, inr, ⊎_elim}
use Prim.Native.Nat.{ℕ, ◌+◌, ◌<◌}
use native.Mathlib.Omega.{arith}
use lib.Dec.{T, eqb, ltb}
use lib.ListN.{get_or}
use borrow.Author.Tests.{lt-ltb}
use Rattle.galois.proofs.Cases.{le_or_lt, is_true}
use Rattle.code.specs.declared.settings.Settings.{Settings}
use Rattle.code.specs.Settings.{accepted, k_of, n_of}
use Rattle.code.specs.Word.{systematic_of}
use Rattle.code.proofs.Shape.{Shape, shape}
use Rattle.elimination.specs.declared.reduced.Reduced.{Reduced}
use Rattle.elimination.specs.Elimination.{first_roles, started, eliminated, known_in, reduced_from, left_from, Solved}
use Rattle.elimination.proofs.LeftFlags.{source_solved, left_or_pivot, left_source}
use Rattle.elimination.proofs.Reductions.{reduced_accepted, same_columns}
use Rattle.elimination.proofs.Roles.{first_sixteen}
use Rattle.elimination.proofs.Terms.{both}
use Rattle.clashes.specs.Clashes.{ParityOnly}
use Rattle.places.specs.Places.{parity_flags}
use Rattle.places.proofs.Flags.{parity_length, at_parity, at_source}

-- the flags of the word's positions, but that some are 0 at positions of pivots
unfoldable pub Unsolved : Settings → List ℕ → List ℕ → List ℕ → Type 0
Unsolved s flags roles left =
    (q : ℕ) → q < n_of s → (get_or left q 0 ≡ get_or flags q 0) ⊎ ((get_or left q 0 ≡ 0) × Solved s roles q)

module _ (s : Settings) (passed : T (accepted s)) (flags : List ℕ) where
  -- the same parity positions are known
  parity_known : (e : ℕ) → e < s.burst → known_in s (parity_flags s flags) (k_of s + e) ≡ known_in s flags (k_of s + e)
  unfolding known_in
  parity_known e few =
      let h : Shape s = shape s passed in
      ap (λ (f : ℕ). ltb (k_of s + e) (n_of s) && eqb f 1) (at_parity s h flags (k_of s + e) (omega arith) (omega arith))

  -- so elimination is the same
  parity_eliminated : reduced_from s (started s (known_in s flags)) (parity_flags s flags) ≡ eliminated s (known_in s flags)
  unfolding eliminated
  parity_eliminated =
      let x : Reduced = started s (known_in s flags) in
      sym (reduced_accepted s x (parity_flags s flags) (is_true (accepted s) passed))
      ∙ same_columns s (known_in s (parity_flags s flags)) (known_in s flags) x s.burst parity_known

  module _ (two : (q : ℕ) → q < k_of s → (get_or flags q 0 ≡ 0) ⊎ (get_or flags q 0 ≡ 1)) where
    -- a source whose flag is not 0 is known, so the position of a pivot
    source_cases : (q : ℕ) → q < k_of s → (get_or flags q 0 ≡ 0) ⊎ Solved s (eliminated s (known_in s flags)).roles q
    unfolding known_in
    source_cases q source =
        let h : Shape s = shape s passed in
        ⊎_elim (λ zero. inl zero)
        (λ one.
        inr (source_solved s passed (known_in s flags) q source (rw (lt-ltb q (n_of s) (omega arith), one) tt)))
        (two q source)

    parity_left : Unsolved s flags (eliminated s (known_in s flags)).roles
        (left_from s (started s (known_in s flags)) (parity_flags s flags))
    unfolding Unsolved
    parity_left q word =
        ⊎_elim
        (λ stays.
        ⊎_elim (λ past. inl (stays ∙ at_parity s (shape s passed) flags q past word))
        (λ source.
        let none = stays ∙ at_source s (shape s passed) flags q source in
        ⊎_elim (λ zero. inl (none ∙ sym zero)) (λ pivot. inr (none, pivot)) (source_cases q source))
        (le_or_lt (k_of s) q))
        (λ gone. inr (gone.0, subst (λ (x : Reduced). Solved s x.roles q) parity_eliminated gone.1))
        (left_or_pivot s passed (started s (known_in s flags)) (first_sixteen s (known_in s flags)) (parity_flags s flags)
        (parity_length s flags) q)

  -- the systematic form, with the flags and the roles that were located
  module _ (m : List (List ℕ)) (parity roles : List ℕ) (is-matrix : m ≡ systematic_of s) (is_parity : parity ≡ parity_flags s flags)
      (is-roles : roles ≡ first_roles s (known_in s flags)) where
    begun : both m roles ≡ started s (known_in s flags)
    begun = ap₂ both is-matrix is-roles

    pub located_eliminated : reduced_from s (both m roles) parity ≡ eliminated s (known_in s flags)
    located_eliminated = ap₂ (reduced_from s) begun is_parity ∙ parity_eliminated

    -- no source has a flag
    pub located_only : ParityOnly s (left_from s (both m roles) parity)
    unfolding ParityOnly
    located_only q source =
        left_source s passed (both m roles) parity q source ∙ ap (λ (l : List ℕ). get_or l q 0) is_parity
        ∙ at_source s (shape s passed) flags q source

    pub located_left : ((q : ℕ) → q < k_of s → (get_or flags q 0 ≡ 0) ⊎ (get_or flags q 0 ≡ 1))
        → Unsolved s flags (eliminated s (known_in s flags)).roles (left_from s (both m roles) parity)
    located_left two =
        subst⁻¹ (Unsolved s flags (eliminated s (known_in s flags)).roles) (ap₂ (left_from s) begun is_parity) (parity_left two)
