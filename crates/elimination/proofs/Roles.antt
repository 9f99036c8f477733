-- Which rows are free, by their roles, and the roles at the start.
use mathlib.Core.Path.{◌≡◌, refl, ap, ◌∙◌, subst, subst⁻¹}
use mathlib.Core.Bool.{Bool, true, false, cond, ◌&&◌}
use mathlib.Core.List.{List}
use mathlib.Core.Logic.{◌≢◌}
use Prim.Native.Nat.{ℕ, ◌<◌}
use native.Mathlib.Omega.{arith}
use lib.Dec.{T, eqb, ltb}
use lib.ListN.{length, get_or, set}
use lib.Seq.{get_or-set_other}
use borrow.Author.Tests.{eq-eqb, ne_eqb, lt-ltb, ltb-true}
use Rattle.galois.specs.Table.{table}
use Rattle.galois.proofs.ByIndex.{length-table, get_or-table, table_equal}
use Rattle.code.specs.declared.settings.Settings.{Settings}
use Rattle.code.specs.Settings.{k_of, n_of}
use Rattle.code.proofs.Shape.{Shape}
use Rattle.elimination.specs.Elimination.{free, first_roles, known_in}

-- a row whose role is 16 is free, and a row with another role is not
pub role_free : (roles : List ℕ) (r : ℕ) → get_or roles r 16 ≡ 16 → T (free roles r)
unfolding free
role_free roles r e = subst⁻¹ T (eq-eqb (get_or roles r 16) 16 e) tt

pub role_taken : (roles : List ℕ) (r : ℕ) → get_or roles r 16 ≢ 16 → T (free roles r) → ⊥
unfolding free
role_taken roles r ne t = subst T (ne_eqb (get_or roles r 16) 16 ne) t

-- a row whose role stays is free where it was
pub role_kept : (roles : List ℕ) (r p q : ℕ) → q ≢ r → T (free (set roles r p) q) → T (free roles q)
unfolding free
role_kept roles r p q ne t = subst (λ (j : ℕ). T (eqb j 16)) (get_or-set_other roles r q p 16 ne) t

pub role_keeps : (roles : List ℕ) (r p q : ℕ) → q ≢ r → T (free roles q) → T (free (set roles r p) q)
unfolding free
role_keeps roles r p q ne t = subst⁻¹ (λ (j : ℕ). T (eqb j 16)) (get_or-set_other roles r q p 16 ne) t

-- ---- the roles at the start

-- there are sixteen
pub first_sixteen : (s : Settings) (known : ℕ → Bool) → length (first_roles s known) ≡ 16
unfolding first_roles
first_sixteen s known = length-table 16 (λ r. cond (ltb r (k_of s) && known r) r 16)

-- that of a source: itself where it is known, else 16
pub first_role : (s : Settings) → Shape s → (known : ℕ → Bool) (r : ℕ) → r < k_of s
    → get_or (first_roles s known) r 16 ≡ cond (known r) r 16
unfolding first_roles
first_role s h known r hr =
    get_or-table 16 (λ r. cond (ltb r (k_of s) && known r) r 16) r 16 (omega arith)
    ∙ ap (λ (b : Bool). cond (b && known r) r 16) (lt-ltb r (k_of s) hr)

-- by flags: a source is known exactly if its flag is 1
pub first_flags : (s : Settings) → Shape s → (flags : List ℕ)
    → table 16 (λ r. cond (ltb r (k_of s) && eqb (get_or flags r 0) 1) r 16) ≡ first_roles s (known_in s flags)
unfolding first_roles known_in
first_flags s h flags =
    table_equal 16 (λ r. cond (ltb r (k_of s) && eqb (get_or flags r 0) 1) r 16)
    (λ r. cond (ltb r (k_of s) && (ltb r (n_of s) && eqb (get_or flags r 0) 1)) r 16)
    (λ r _. go r (ltb r (k_of s)) refl)
  where
    go : (r : ℕ) (b : Bool) → ltb r (k_of s) ≡ b
        → cond (b && eqb (get_or flags r 0) 1) r 16 ≡ cond (b && (ltb r (n_of s) && eqb (get_or flags r 0) 1)) r 16
    go r true e = let below : r < k_of s = ltb-true r (k_of s) e in rw (lt-ltb r (n_of s) (omega arith)) refl
    go r false e = refl
