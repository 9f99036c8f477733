-- Elimination over flags: for accepted settings, of the systematic form, and the number of its roles.
use mathlib.Core.Path.{◌≡◌, refl, sym, ap, ap₂, ◌∙◌}
use mathlib.Core.Bool.{Bool, true}
use mathlib.Core.List.{List}
use Prim.Native.Nat.{ℕ, zero, suc, ◌+◌, ◌<◌}
use native.Mathlib.Omega.{arith}
use lib.Dec.{T}
use lib.ListN.{length, length-set}
use Rattle.galois.proofs.Cases.{is_true}
use Rattle.code.specs.declared.settings.Settings.{Settings}
use Rattle.code.specs.Settings.{accepted, k_of}
use Rattle.code.specs.Word.{systematic_of}
use Rattle.code.proofs.Shape.{Shape, shape}
use Rattle.elimination.specs.declared.reduced.Reduced.{Reduced}
use Rattle.elimination.specs.Elimination.{column_step, first_roles, columns, started, eliminated, known_in, reduced_from, reduced_of}
use Rattle.elimination.proofs.Terms.{both}
use Rattle.elimination.proofs.Roles.{first_sixteen}
use Rattle.elimination.proofs.Pivots.{step_cases}

-- for accepted settings all parity positions are done
pub reduced_accepted : (s : Settings) (x : Reduced) (flags : List ℕ) → accepted s ≡ true
    → columns s (known_in s flags) x s.burst ≡ reduced_from s x flags
unfolding reduced_from
reduced_accepted s x flags e = rw (e, reduced_from)

-- elimination of the systematic form, from the roles at the start
pub systematic_reduced : (s : Settings) (rows : List (List ℕ)) (roles flags : List ℕ) → rows ≡ systematic_of s
    → roles ≡ first_roles s (known_in s flags) → reduced_from s (both rows roles) flags ≡ reduced_of s flags
unfolding reduced_of
systematic_reduced s rows roles flags m r = ap₂ (λ (m : List (List ℕ)) (l : List ℕ). reduced_from s (both m l) flags) m r

-- which for accepted settings is the systematic form with all parity positions done
pub eliminated_reduced : (s : Settings) (flags : List ℕ) → accepted s ≡ true → eliminated s (known_in s flags) ≡ reduced_of s flags
unfolding eliminated reduced_of
eliminated_reduced s flags e = reduced_accepted s (started s (known_in s flags)) flags e

-- only what is known of the parity positions matters
pub same_columns : (s : Settings) (known known' : ℕ → Bool) (x : Reduced) (m : ℕ)
    → ((e : ℕ) → e < m → known (k_of s + e) ≡ known' (k_of s + e)) → columns s known x m ≡ columns s known' x m
unfolding columns
same_columns s known known' x zero same = refl
same_columns s known known' x (suc m) same =
    ap₂ (λ (b : Bool) (y : Reduced). column_step (k_of s) b (k_of s + m) y) (same m (omega arith))
    (same_columns s known known' x m (λ e h. same e (omega arith)))

-- sixteen roles stay sixteen
pub sixteen_roles : (s : Settings) → Shape s → (known : ℕ → Bool) (x : Reduced) → length x.roles ≡ 16 → (e : ℕ)
    → length (columns s known x e).roles ≡ 16
unfolding columns
sixteen_roles s h known x sixteen zero = sixteen
sixteen_roles s h known x sixteen (suc e) =
    let before : length (columns s known x e).roles ≡ 16 = sixteen_roles s h known x sixteen e in
    step_cases (λ (x : Reduced). length x.roles ≡ 16) (k_of s) (known (k_of s + e)) (k_of s + e) (columns s known x e) (omega arith)
    (λ unknown. before) (λ is_Known none. before)
    (λ is_Known r hr free nonzero. length-set (columns s known x e).roles r (k_of s + e) ∙ before)

pub reduced_roles : (s : Settings) → T (accepted s) → (flags : List ℕ) → length (reduced_of s flags).roles ≡ 16
unfolding eliminated
reduced_roles s passed flags =
    ap (λ (x : Reduced). length x.roles) (sym (eliminated_reduced s flags (is_true (accepted s) passed)))
    ∙ sixteen_roles s (shape s passed) (known_in s flags) (started s (known_in s flags)) (first_sixteen s (known_in s flags)) s.burst
