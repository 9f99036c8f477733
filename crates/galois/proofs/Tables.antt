-- A table of reciprocals, of either field: one test over the whole of it, which passes over entry 0.
use mathlib.Core.Path.{◌≡◌, refl, subst}
use mathlib.Core.Bool.{Bool, true, false, ◌&&◌}
use mathlib.Core.List.{List, [], ◌∷◌}
use Prim.Native.Nat.{ℕ, zero, suc, ◌+◌, ◌<◌}
use native.Mathlib.Nat.{le_of_suc-le-suc, not-suc-le-zero}
use native.Mathlib.Omega.{arith}
use lib.Dec.{T, eqb, ltb, eqb→eq, ltb→lt}
use lib.ListN.{length, get_or}
use Rattle.std.specs.Coded.{Coded, Coded-set, coded_ℕ, coded_option, code_by, Π_prop, →_prop}
use Rattle.std.specs.Prelude.{Option, None, Some}
use Rattle.galois.specs.Reciprocal.{Reciprocal, none, element, Listed}
use Rattle.galois.proofs.Cases.{and_left, and_right}
use Rattle.galois.proofs.Field.{Field, only_reciprocal}

-- the number x times its entry y is 1
unfoldable pub inverts : ℕ → (ℕ → ℕ → ℕ) → ℕ → ℕ → Bool
inverts bound times x y = ltb y bound && eqb (times x y) 1

-- and so with each entry of a list, the first being that of x
unfoldable pub inverts_from : ℕ → (ℕ → ℕ → ℕ) → ℕ → List ℕ → Bool
inverts_from bound times x [] = true
inverts_from bound times x (y ∷ rest) = inverts bound times x y && inverts_from bound times (suc x) rest

-- a table has an entry for each number below the bound, and that of 0 is passed over
unfoldable pub reciprocal_table : ℕ → (ℕ → ℕ → ℕ) → List ℕ → Bool
reciprocal_table bound times [] = false
reciprocal_table bound times (_ ∷ rest) = eqb (suc (length rest)) bound && inverts_from bound times 1 rest

-- entry i of the table from x on
entry_inverts : (bound : ℕ) (times : ℕ → ℕ → ℕ) (t : List ℕ) (x i y : ℕ) → T (inverts_from bound times x t) → i < length t → y ≡ x + i
    → T (inverts bound times y (get_or t i 0))
unfolding inverts_from
entry_inverts bound times [] x i y rule h e = absurd (not-suc-le-zero h)
entry_inverts bound times (r ∷ rest) x zero y rule h e =
    let same : x ≡ y = omega arith in
    subst (λ (w : ℕ). T (inverts bound times w r)) same (and_left (inverts bound times x r) (inverts_from bound times (suc x) rest) rule)
entry_inverts bound times (r ∷ rest) x (suc i) y rule h e =
    entry_inverts bound times rest (suc x) i y (and_right (inverts bound times x r) (inverts_from bound times (suc x) rest) rule)
    (le_of_suc-le-suc h) (omega arith)

-- a list that passes that one test is a table of reciprocals
pub reciprocals_listed : {bound : ℕ} {plus times : ℕ → ℕ → ℕ} {reciprocal : ℕ → Reciprocal} {◌÷◌ : ℕ → ℕ → ℕ}
    → Field bound plus times reciprocal ◌÷◌ → (t : List ℕ) → T (reciprocal_table bound times t) → Listed bound reciprocal t
unfolding reciprocal_table inverts Listed
reciprocals_listed F [] rule y low high = absurd rule
reciprocals_listed F (_ ∷ rest) rule zero low high = absurd (not-suc-le-zero low)
reciprocals_listed {bound} {plus} {times} F (_ ∷ rest) rule (suc y) low high =
    let long : Bool = eqb (suc (length rest)) bound in
    let all : suc (length rest) ≡ bound = eqb→eq (suc (length rest)) bound (and_left long (inverts_from bound times 1 rest) rule) in
    let r : ℕ = get_or rest y 0 in
    let good : T (inverts bound times (suc y) r) =
    entry_inverts bound times rest 1 y (suc y) (and_right long (inverts_from bound times 1 rest) rule) (omega arith) (omega arith) in
    only_reciprocal F (suc y) r high (ltb→lt r bound (and_left (ltb r bound) (eqb (times (suc y) r) 1) good))
    (eqb→eq (times (suc y) r) 1 (and_right (ltb r bound) (eqb (times (suc y) r) 1) good))

-- ---- a type may hold the fact that a list is a table of reciprocals, since it has one proof at most

option_of : Reciprocal → Option ℕ
option_of none = None
option_of (element x) = Some x

answer_of : Option ℕ → Reciprocal
answer_of None = none
answer_of (Some x) = element x

answer_again : (r : Reciprocal) → answer_of (option_of r) ≡ r
unfolding answer_of option_of
answer_again none = refl
answer_again (element x) = refl

answers : Coded Reciprocal
answers = code_by (Option ℕ) (coded_option coded_ℕ) option_of answer_of answer_again

pub listed_prop : (bound : ℕ) (reciprocal : ℕ → Reciprocal) (t : List ℕ) → IsProp (Listed bound reciprocal t)
unfolding Listed
listed_prop bound reciprocal t = Π_prop (λ y. →_prop (→_prop (Coded-set answers _ _)))
