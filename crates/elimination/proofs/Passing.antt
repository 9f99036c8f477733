-- What a test over all lists of bytes finds, and which numbers stand in the list of those that pass a test.
use mathlib.Core.Path.{◌≡◌, refl, sym, ap, subst}
use mathlib.Core.Bool.{Bool, true, false, cond}
use mathlib.Core.HLevel.{⊥_prop}
use mathlib.Core.List.Memᴰ
use mathlib.Core.List.{List, [], ◌∷◌, Memᴰ, Nodup, Nodup-nil, Nodup-append, Pairwise-singleton}
use mathlib.Core.Logic.{◌≢◌, ⊎_elim, ∥∥₁_elim}
use Prim.Native.Nat.{ℕ, zero, suc, ◌<◌}
use native.Mathlib.Nat.{eq-or-lt_of_le, le_of_suc-le-suc, le_step, not-suc-le-zero}
use native.Mathlib.Omega.{arith}
use lib.Dec.{T, lit<}
use lib.ListN.{length, get_or}
use Rattle.galois.proofs.Cases.{any_at, some_any}
use Rattle.galois.specs.Table.{table}
use Rattle.elimination.specs.Values.{any_bytes, passing}

-- ---- lists of bytes

cons_bytes : (b : ℕ) (l : List ℕ) → b < 256 → ((r : ℕ) → get_or l r 0 < 256) → (r : ℕ) → get_or (b ∷ l) r 0 < 256
cons_bytes b l h hs zero = h
cons_bytes b l h hs (suc r) = hs r

-- a test that passes at some list of m bytes, with that list
pub any_bytes_at : (m : ℕ) (f : List ℕ → Bool) → T (any_bytes m f)
    → (l : List ℕ) × (length l ≡ m) × ((r : ℕ) → get_or l r 0 < 256) × T (f l)
unfolding any_bytes
any_bytes_at zero f t = ([], refl, λ r. lit< tt, t)
any_bytes_at (suc m) f t =
    let first = any_at 256 (λ b. any_bytes m (λ l. f (b ∷ l))) t in
    let rest = any_bytes_at m (λ l. f (first.0 ∷ l)) first.2 in
    (first.0 ∷ rest.0, ap suc rest.1, cons_bytes first.0 rest.0 first.1 rest.2, rest.3)

-- a test that passes at the list l of m bytes passes at some list of m bytes
pub some_bytes : (m : ℕ) (f : List ℕ → Bool) (l : List ℕ) → length l ≡ m → ((r : ℕ) → get_or l r 0 < 256) → T (f l)
    → T (any_bytes m f)
unfolding any_bytes
some_bytes zero f [] n h t = t
some_bytes zero f (b ∷ l) n h t = absurd (omega arith)
some_bytes (suc m) f [] n h t = absurd (omega arith)
some_bytes (suc m) f (b ∷ l) n h t =
    some_any 256 (λ b. any_bytes m (λ l. f (b ∷ l))) b (h 0)
    (some_bytes m (λ l. f (b ∷ l)) l (omega arith) (λ r. h (suc r)) t)

-- the first m values of a function to the bytes are bytes
pub table_bytes : (m : ℕ) (u : ℕ → ℕ) → ((r : ℕ) → u r < 256) → (r : ℕ) → get_or (table m u) r 0 < 256
unfolding table
table_bytes zero u h r = lit< tt
table_bytes (suc m) u h zero = h 0
table_bytes (suc m) u h (suc r) = table_bytes m (λ i. u (suc i)) (λ i. h (suc i)) r

-- ---- the numbers that pass a test

last_in_lem : (p : Bool) (m b : ℕ) → b ≡ m → T p → Memᴰ b (cond p (m ∷ []) [])
last_in_lem true m b e t = Memᴰ.head e
last_in_lem false m b e t = absurd t

in_last : (p : Bool) (m b : ℕ) → Memᴰ b (cond p (m ∷ []) []) → (b ≡ m) × T p
in_last true m b h = (Memᴰ.eq_of_singleton h, tt)
in_last false m b h = absurd (Memᴰ.not-nil h)

last_once : (p : Bool) (m : ℕ) → Nodup (cond p (m ∷ []) [])
last_once true m = Pairwise-singleton (λ (a b : ℕ). a ≢ b) m
last_once false m = Nodup-nil

-- a number below m that passes is in the list
pub passing_in : (m : ℕ) (f : ℕ → Bool) (b : ℕ) → b < m → T (f b) → Memᴰ b (passing m f)
unfolding passing
passing_in zero f b h t = absurd (not-suc-le-zero h)
passing_in (suc m) f b h t =
    ⊎_elim
    (λ same. Memᴰ.append_right (passing m f) (last_in_lem (f m) m b same (subst (λ (c : ℕ). T (f c)) same t)))
    (λ below. Memᴰ.append_left (cond (f m) (m ∷ []) []) (passing_in m f b below t))
    (eq-or-lt_of_le (le_of_suc-le-suc h))

-- a number in the list is below m, and passes
pub in_passing : (m : ℕ) (f : ℕ → Bool) (b : ℕ) → Memᴰ b (passing m f) → (b < m) × T (f b)
unfolding passing
in_passing zero f b h = absurd (Memᴰ.not-nil h)
in_passing (suc m) f b h =
    ⊎_elim (λ before. let found = in_passing m f b before in (le_step found.0, found.1))
    (λ last.
    let found = in_last (f m) m b last in
    (omega (arith, found.0), subst (λ (c : ℕ). T (f c)) (sym found.0) found.1))
    (Memᴰ.append_cases (passing m f) h)

-- no number is in the list twice
pub passing_once : (m : ℕ) (f : ℕ → Bool) → Nodup (passing m f)
unfolding passing
passing_once zero f = Nodup-nil
passing_once (suc m) f =
    Nodup-append.1 (
      passing_once m f,
      last_once (f m) m,
      λ b before last.
          ∥∥₁_elim before ⊥_prop
          (λ p.
          ∥∥₁_elim last ⊥_prop
          (λ q. omega (arith, (in_passing m f b p).0, (in_last (f m) m b q).0))),
    )
