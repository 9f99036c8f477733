-- After elimination, where a row is the pivot of its own position, the column there is a unit.
use mathlib.Core.Path.{◌≡◌, sym, ap, ◌∙◌, subst}
use mathlib.Core.Bool.{Bool, cond}
use mathlib.Core.List.{List}
use mathlib.Core.Logic.{⊎_elim}
use Prim.Native.Nat.{ℕ, ◌<◌}
use native.Mathlib.Omega.{arith}
use lib.Dec.{T, eqb}
use lib.ListN.{get_or}
use borrow.Author.Tests.{eq-eqb, ne_eqb}
use Rattle.galois.proofs.Cases.{is_true}
use Rattle.code.specs.declared.settings.Settings.{Settings}
use Rattle.code.specs.Settings.{accepted, k_of, n_of}
use Rattle.code.proofs.Shape.{Shape, shape}
use Rattle.elimination.specs.declared.reduced.Reduced.{Reduced}
use Rattle.elimination.specs.Elimination.{cell, eliminated, known_in, reduced_of}
use Rattle.elimination.proofs.Steps.{same_or_other}
use Rattle.elimination.proofs.Roles.{role_taken}
use Rattle.elimination.proofs.Invariant.{Pivot, invariant_end}
use Rattle.elimination.proofs.Reductions.{eliminated_reduced}

-- where row i is the pivot of position i, column i is 1 in row i and 0 in every other
module _ (s : Settings) (i : ℕ) (source : i < k_of s) where
  abbrev UnitColumn : Reduced → Type 0
  UnitColumn x = get_or x.roles i 16 ≡ i → (r : ℕ) → r < k_of s → cell x.rows r i ≡ cond (eqb r i) 1 0

  own_eliminated : (passed : T (accepted s)) (known : ℕ → Bool) → UnitColumn (eliminated s known)
  own_eliminated passed known own r below =
      let h : Shape s = shape s passed in
      let x : Reduced = eliminated s known in
      let taken = role_taken x.roles i (λ free. omega arith) in
      let is : Pivot (k_of s) known (n_of s) x.rows i i =
      subst (λ (j : ℕ). Pivot (k_of s) known (n_of s) x.rows i j) own ((invariant_end s passed known).pivots i source taken) in
      ⊎_elim
      (λ same. ap (λ (r : ℕ). cell x.rows r i) same ∙ is.one ∙ sym (ap (λ (b : Bool). cond b 1 0) (eq-eqb r i same)))
      (λ other. is.zeros r below other ∙ sym (ap (λ (b : Bool). cond b 1 0) (ne_eqb r i other))) (same_or_other r i)

  pub own_reduced : T (accepted s) → (flags : List ℕ) → UnitColumn (reduced_of s flags)
  own_reduced passed flags =
      subst UnitColumn (eliminated_reduced s flags (is_true (accepted s) passed)) (own_eliminated passed (known_in s flags))
