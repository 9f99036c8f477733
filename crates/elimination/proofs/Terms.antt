-- One more term of a sum, and the tests that an answer rests on.
use mathlib.Core.Path.{◌≡◌, ap, ◌∙◌, subst, subst⁻¹}
use mathlib.Core.Bool.{Bool, true, false, not, ◌&&◌, and-false}
use mathlib.Core.List.{List}
use mathlib.Core.Logic.{◌≢◌}
use Prim.Native.Nat.{ℕ, ◌+◌, ◌<◌}
use native.Mathlib.Numerals.{add-one}
use lib.Dec.{T, eqb, ltb}
use lib.ListN.{get_or}
use borrow.Author.Tests.{lt-ltb, eq-eqb, ne_eqb}
use Rattle.galois.specs.Byte.{◌⊕◌}
use Rattle.galois.specs.Sum.{sum}
use Rattle.galois.proofs.Cases.{both_pass}
use Rattle.code.specs.declared.settings.Settings.{Settings}
use Rattle.code.specs.Settings.{n_of}
use Rattle.elimination.specs.declared.reduced.Reduced.{Reduced}
use Rattle.elimination.specs.Elimination.{free, cell, known_in}

-- a matrix with the role of each of its rows
abbrev pub both : List (List ℕ) → List ℕ → Reduced
both rows roles = record { rows = rows; roles = roles }

-- one more term
pub sum_more : (f : ℕ → ℕ) (r a b : ℕ) → a ≡ sum r f → b ≡ f r → a ⊕ b ≡ sum (r + 1) f
unfolding sum
sum_more f r a b before here = rw add-one (ap (λ (s : ℕ). s ⊕ b) before ∙ ap (λ (t : ℕ). sum r f ⊕ t) here)

-- ---- the tests

-- row r is no pivot, and not 0 at position i
abbrev pub free_differs : Reduced → ℕ → ℕ → Bool
free_differs x i r = free x.roles r && not (eqb (cell x.rows r i) 0)

-- a test of a flag and a difference passes where both do
pub test_passes : (f : Bool) (c d : ℕ) → f ≡ true → c ≢ d → T (f && not (eqb c d))
test_passes f c d at ne = both_pass f (not (eqb c d)) (subst⁻¹ T at tt) (subst⁻¹ (λ (b : Bool). T (not b)) (ne_eqb c d ne) tt)

-- and does not where the flag is off
pub test_off : (f : Bool) (c d : ℕ) → f ≡ false → T (f && not (eqb c d)) → ⊥
test_off f c d off t = subst (λ (b : Bool). T (b && not (eqb c d))) off t

-- a position below n is known exactly if its flag is 1
pub known_on : (s : Settings) (flags : List ℕ) (p : ℕ) → p < n_of s → get_or flags p 0 ≡ 1 → known_in s flags p ≡ true
unfolding known_in
known_on s flags p h e = rw (lt-ltb p (n_of s) h, eq-eqb (get_or flags p 0) 1 e)

pub known_off : (s : Settings) (flags : List ℕ) (p : ℕ) → get_or flags p 0 ≢ 1 → known_in s flags p ≡ false
unfolding known_in
known_off s flags p ne = rw (ne_eqb (get_or flags p 0) 1 ne, and-false (ltb p (n_of s)))
