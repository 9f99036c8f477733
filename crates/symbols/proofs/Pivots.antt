-- At a pivot's position the combined sum is the byte that arrived, so a clash is found at the other positions.
use mathlib.Core.Path.{◌≡◌, refl, sym, ap, ◌∙◌, subst}
use mathlib.Core.Bool.{Bool, true, false, cond, not, ◌&&◌, and-false}
use mathlib.Core.List.{List}
use mathlib.Core.Logic.{⊎_elim}
use Prim.Native.Nat.{ℕ, ◌<◌}
use native.Mathlib.Omega.{arith}
use lib.Dec.{T, eqb, ltb}
use lib.ListN.{length, get_or}
use borrow.Author.Tests.{eq-eqb}
use Rattle.galois.specs.Byte.{◌⊗◌}
use Rattle.galois.proofs.ByteProduct.{times_comm, times_zero, one_times}
use Rattle.galois.proofs.Cases.{any_same}
use Rattle.galois.proofs.Sums.{sum_single}
use Rattle.code.specs.declared.settings.Settings.{Settings}
use Rattle.code.specs.Settings.{accepted, k_of, n_of}
use Rattle.code.proofs.Shape.{Shape, shape}
use Rattle.elimination.specs.declared.reduced.Reduced.{Reduced}
use Rattle.elimination.specs.Elimination.{cell, free, eliminated, combined, clashes, symbol_of, known_in, Solved}
use Rattle.elimination.proofs.Invariant.{Pivot, Invariant, invariant_end}
use Rattle.elimination.proofs.PivotSearch.{get_d_default, is_pivot}
use Rattle.symbols.proofs.ParityFlags.{Unsolved}

module _ (s : Settings) (passed : T (accepted s)) (flags left : List ℕ) (byte : ℕ → ℕ) (bytes : (p : ℕ) → byte p < 256) where
  abbrev x : Reduced
  x = eliminated s (known_in s flags)

  -- the combined sum at a pivot's position has one term, which is the byte there
  pivot_byte : (q : ℕ) → Solved s x.roles q → combined s x byte q ≡ byte q
  unfolding combined
  pivot_byte q at =
      let h : Shape s = shape s passed in
      let r : ℕ = at.row in
      let i : Invariant s (known_in s flags) (n_of s) x = invariant_end s passed (known_in s flags) in
      let inside : r < length x.roles = omega (arith, at.below, i.sixteen) in
      let pivot : free x.roles r ≡ false = is_pivot x q r inside (λ same. omega (arith, at.role, at.inside)) in
      let role : get_or x.roles r 16 ≡ q = get_d_default x.roles r 16 0 inside ∙ at.role in
      let is : Pivot (k_of s) (known_in s flags) (n_of s) x.rows r q =
      subst (λ (j : ℕ). Pivot (k_of s) (known_in s flags) (n_of s) x.rows r j) role (i.pivots r at.below (λ t. subst T pivot t)) in
      let term : ℕ → ℕ = λ r. cond (free x.roles r) 0 (byte (get_or x.roles r 16) ⊗ cell x.rows r q) in
      sum_single (k_of s) r term at.below
      (λ o ho ne. none (free x.roles o) (byte (get_or x.roles o 16)) (cell x.rows o q) (is.zeros o ho ne))
      ∙ ap (λ (t : Bool). cond t 0 (byte (get_or x.roles r 16) ⊗ cell x.rows r q)) pivot
      ∙ ap (λ (j : ℕ). byte j ⊗ cell x.rows r q) role ∙ ap (λ (c : ℕ). byte q ⊗ c) is.one
      ∙ times_comm (byte q) 1 ∙ one_times (byte q) (bytes q)
    where
      none : (t : Bool) (b c : ℕ) → c ≡ 0 → cond t 0 (b ⊗ c) ≡ 0
      none true b c e = refl
      none false b c e = ap (λ (c : ℕ). b ⊗ c) e ∙ times_zero b

  -- so the same clashes are found without them
  pub left_clashes : Unsolved s flags x.roles left → clashes s x (known_in s left) byte ≡ clashes s x (known_in s flags) byte
  unfolding clashes Unsolved known_in
  left_clashes un =
      any_same (n_of s) (λ q. known_in s left q && differs_at q) (λ q. known_in s flags q && differs_at q)
      (λ q below.
      ⊎_elim (λ same. ap (λ (f : ℕ). (ltb q (n_of s) && eqb f 1) && differs_at q) same)
      (λ gone. ap (λ (d : Bool). known_in s left q && d) (agrees q gone.1) ∙ and-false (known_in s left q)
      ∙ sym (ap (λ (d : Bool). known_in s flags q && d) (agrees q gone.1) ∙ and-false (known_in s flags q)))
      (un q below))
    where
      differs_at : ℕ → Bool
      differs_at q = not (eqb (combined s x byte q) (byte q))

      agrees : (q : ℕ) → Solved s x.roles q → differs_at q ≡ false
      agrees q at = ap not (eq-eqb (combined s x byte q) (byte q) (pivot_byte q at))

  -- and the same is said of each position
  pub left_said : Unsolved s flags x.roles left → (i : ℕ) → symbol_of s x (known_in s left) byte i ≡ symbol_of s x (known_in s flags) byte i
  unfolding symbol_of
  left_said un i = rw (left_clashes un, symbol_of)
