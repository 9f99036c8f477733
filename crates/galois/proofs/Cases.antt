-- From a test that antt computes over all numbers below a bound to the law at each of them.
use mathlib.Core.Path.{◌≡◌, refl, ap₂, subst, subst⁻¹}
use mathlib.Core.Bool.{Bool, true, false, ◌&&◌, ◌||◌}
use mathlib.Core.Logic.{◌≢◌, ◌⊎◌, inl, inr, ⊎_elim}
use Prim.Native.Nat.{ℕ, zero, suc, ◌≤◌, ◌<◌}
use native.Mathlib.Nat.{not-suc-le-zero, le_of_suc-le-suc, eq-or-lt_of_le, le_step, lt-suc_self}
use lib.Dec.{T, leb, eqb, eqb→eq}
use borrow.Author.Tests.{leb-true, leb-false}
use Rattle.galois.specs.Bounded.{every, any}

pub is_true : (a : Bool) → T a → a ≡ true
is_true true t = refl
is_true false t = absurd t

pub is_false : (a : Bool) → (T a → ⊥) → a ≡ false
is_false true never = absurd (never tt)
is_false false never = refl

pub and_left : (a b : Bool) → T (a && b) → T a
and_left true b t = tt
and_left false b t = t

pub and_right : (a b : Bool) → T (a && b) → T b
and_right true b t = t
and_right false b t = absurd t

pub or_cases : (a b : Bool) → T (a || b) → T a ⊎ T b
or_cases true b t = inl tt
or_cases false b t = inr t

pub or_left : (a b : Bool) → T a → T (a || b)
or_left true b t = tt
or_left false b t = absurd t

pub or_right : (a b : Bool) → T b → T (a || b)
or_right true b t = tt
or_right false b t = t

pub both_pass : (a b : Bool) → T a → T b → T (a && b)
both_pass true b s t = t
both_pass false b s t = s

-- a test that passes at each number below m passes at i
pub at : (m : ℕ) (f : ℕ → Bool) → T (every m f) → (i : ℕ) → i < m → T (f i)
unfolding every
at zero f t i h = absurd (not-suc-le-zero h)
at (suc m) f t i h =
    ⊎_elim
    (λ same. subst⁻¹ (λ (j : ℕ). T (f j)) same (and_right (every m f) (f m) t))
    (λ below. at m f (and_left (every m f) (f m) t) i below)
    (eq-or-lt_of_le (le_of_suc-le-suc h))

-- a test that passes at some number below m, with that number
pub any_at : (m : ℕ) (f : ℕ → Bool) → T (any m f) → (i : ℕ) × (i < m) × T (f i)
unfolding any
any_at zero f t = absurd t
any_at (suc m) f t =
    ⊎_elim (λ before. let found = any_at m f before in (found.0, le_step found.1, found.2))
    (λ last. (m, lt-suc_self m, last)) (or_cases (any m f) (f m) t)

-- a test that passes at i passes at some number below m
pub some_any : (m : ℕ) (f : ℕ → Bool) (i : ℕ) → i < m → T (f i) → T (any m f)
unfolding any
some_any zero f i h t = absurd (not-suc-le-zero h)
some_any (suc m) f i h t =
    ⊎_elim (λ same. or_right (any m f) (f m) (subst (λ (j : ℕ). T (f j)) same t))
    (λ below. or_left (any m f) (f m) (some_any m f i below t)) (eq-or-lt_of_le (le_of_suc-le-suc h))

-- so the test of all numbers below m is true where one passes, and false where none does
pub any-one : (m : ℕ) (f : ℕ → Bool) (i : ℕ) → i < m → T (f i) → any m f ≡ true
any-one m f i h t = is_true (any m f) (some_any m f i h t)

pub any_none : (m : ℕ) (f : ℕ → Bool) → ((i : ℕ) → i < m → T (f i) → ⊥) → any m f ≡ false
any_none m f none = is_false (any m f) (λ t. let found = any_at m f t in none found.0 found.1 found.2)

-- tests that agree below m agree on whether one passes
pub any_same : (m : ℕ) (f g : ℕ → Bool) → ((i : ℕ) → i < m → f i ≡ g i) → any m f ≡ any m g
unfolding any
any_same zero f g e = refl
any_same (suc m) f g e = ap₂ ◌||◌ (any_same m f g (λ i h. e i (le_step h))) (e m (lt-suc_self m))

by_last : (m : ℕ) (f : ℕ → Bool) (b : Bool) → f m ≡ b → ((i : ℕ) → i < m → T (f i))
    → ((i : ℕ) → i < suc m → T (f i)) ⊎ ((i : ℕ) × (i < suc m) × (f i ≡ false))
by_last m f true e below =
    inl (λ i h.
    ⊎_elim (λ same. subst⁻¹ (λ (j : ℕ). T (f j)) same (subst⁻¹ T e tt)) (λ less. below i less) (eq-or-lt_of_le (le_of_suc-le-suc h)))
by_last m f false e below = inr (m, lt-suc_self m, e)

-- a test passes at each number below m, or fails at one
pub all_or_one : (m : ℕ) (f : ℕ → Bool) → ((i : ℕ) → i < m → T (f i)) ⊎ ((i : ℕ) × (i < m) × (f i ≡ false))
all_or_one zero f = inl (λ i h. absurd (not-suc-le-zero h))
all_or_one (suc m) f =
    ⊎_elim (λ below. by_last m f (f m) refl below) (λ found. inr (found.0, le_step found.1, found.2)) (all_or_one m f)

-- and a test that passes at each number below m passes at all of them
pub all-below : (m : ℕ) (f : ℕ → Bool) → ((i : ℕ) → i < m → T (f i)) → T (every m f)
unfolding every
all-below zero f h = tt
all-below (suc m) f h = both_pass (every m f) (f m) (all-below m f (λ i l. h i (le_step l))) (h m (lt-suc_self m))

-- functions of one, two and three numbers that are equal at all numbers below m
pub equal : (m : ℕ) (f g : ℕ → ℕ) → T (every m (λ a. eqb (f a) (g a))) → (a : ℕ) → a < m → f a ≡ g a
equal m f g t a ha = eqb→eq (f a) (g a) (at m (λ a. eqb (f a) (g a)) t a ha)

pub equal₂ : (m : ℕ) (f g : ℕ → ℕ → ℕ) → T (every m (λ a. every m (λ b. eqb (f a b) (g a b))))
    → (a b : ℕ) → a < m → b < m → f a b ≡ g a b
equal₂ m f g t a b ha = equal m (f a) (g a) (at m (λ a. every m (λ b. eqb (f a b) (g a b))) t a ha) b

pub equal₃ : (m : ℕ) (f g : ℕ → ℕ → ℕ → ℕ) → T (every m (λ a. every m (λ b. every m (λ c. eqb (f a b c) (g a b c)))))
    → (a b c : ℕ) → a < m → b < m → c < m → f a b c ≡ g a b c
equal₃ m f g t a b c ha =
    equal₂ m (f a) (g a) (at m (λ a. every m (λ b. every m (λ c. eqb (f a b c) (g a b c)))) t a ha) b c

-- the same of one number, 0 left out
pub equal_but_zero : (m : ℕ) (f g : ℕ → ℕ) → T (every m (λ a. eqb (f (suc a)) (g (suc a))))
    → (a : ℕ) → a < suc m → a ≢ 0 → f a ≡ g a
equal_but_zero m f g t zero h ne = absurd (ne refl)
equal_but_zero m f g t (suc a) h ne = equal m (λ a. f (suc a)) (λ a. g (suc a)) t a (le_of_suc-le-suc h)

-- of two numbers, the first is at most the second, or above it
pub le_or_lt : (m n : ℕ) → (m ≤ n) ⊎ (n < m)
le_or_lt m n = go (leb m n) refl
  where
    go : (t : Bool) → leb m n ≡ t → (m ≤ n) ⊎ (n < m)
    go true e = inl (leb-true m n e)
    go false e = inr (leb-false m n e)
