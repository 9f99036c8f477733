-- The laws of counting: how many numbers below a bound pass a test.
use mathlib.Core.Path.{◌≡◌, refl, sym, ap, ap₂, ◌∙◌}
use mathlib.Core.Bool.{Bool, true, false, cond, not}
use Prim.Native.Nat.{ℕ, zero, suc, ◌+◌, ◌≤◌, ◌<◌, zero-le}
use native.Mathlib.Nat.{add-zero, add-suc, add_assoc, add-le-add, le_refl, le_step, lt-suc_self}
use native.Mathlib.Numerals.{add-one}
use native.Mathlib.Omega.{arith}
use lib.Dec.{T}
use Rattle.galois.specs.Bounded.{count}

-- ---- what one number adds

-- 1 where its test passes, and 0 where it fails
abbrev once : Bool → ℕ
once p = cond p 1 0

once_mono : (p q : Bool) → (T p → T q) → once p ≤ once q
once_mono true true h = le_refl 1
once_mono true false h = absurd (h tt)
once_mono false q h = zero-le

once_passed : (p : Bool) → T p → once p ≡ 1
once_passed true t = refl
once_passed false t = absurd t

once_failed : (p : Bool) → (T p → ⊥) → once p ≡ 0
once_failed true t = absurd (t tt)
once_failed false t = refl

once_not : (p : Bool) → once p + once (not p) ≡ 1
once_not true = refl
once_not false = refl

-- ---- the laws

-- the numbers below a + b are those below a, and then b more
pub count_split : (a b : ℕ) (f : ℕ → Bool) → count (a + b) f ≡ count a f + count b (λ i. f (a + i))
unfolding count
count_split a zero f = ap (λ (k : ℕ). count k f) (add-zero a) ∙ sym (add-zero (count a f))
count_split a (suc b) f =
    ap (λ (k : ℕ). count k f) (add-suc a b)
    ∙ ap (λ (s : ℕ). s + once (f (a + b))) (count_split a b f)
    ∙ add_assoc (count a f) (count b (λ i. f (a + i))) (once (f (a + b)))

-- where g passes wherever f does, it passes no less often
pub count_mono : (m : ℕ) (f g : ℕ → Bool) → ((i : ℕ) → i < m → T (f i) → T (g i)) → count m f ≤ count m g
unfolding count
count_mono zero f g h = zero-le
count_mono (suc m) f g h =
    add-le-add (count_mono m f g (λ i l. h i (le_step l))) (once_mono (f m) (g m) (h m (lt-suc_self m)))

-- equal tests pass equally often
pub count_equal : (m : ℕ) (f g : ℕ → Bool) → ((i : ℕ) → i < m → f i ≡ g i) → count m f ≡ count m g
unfolding count
count_equal zero f g e = refl
count_equal (suc m) f g e =
    ap₂ ◌+◌ (count_equal m f g (λ i l. e i (le_step l))) (ap once (e m (lt-suc_self m)))

-- a test that passes at each number below m passes m times
pub count_all : (m : ℕ) (f : ℕ → Bool) → ((i : ℕ) → i < m → T (f i)) → count m f ≡ m
unfolding count
count_all zero f t = refl
count_all (suc m) f t =
    ap₂ ◌+◌ (count_all m f (λ i l. t i (le_step l))) (once_passed (f m) (t m (lt-suc_self m))) ∙ add-one m

-- a test that passes at no number below m passes 0 times
pub count_none : (m : ℕ) (f : ℕ → Bool) → ((i : ℕ) → i < m → T (f i) → ⊥) → count m f ≡ 0
unfolding count
count_none zero f t = refl
count_none (suc m) f t = ap₂ ◌+◌ (count_none m f (λ i l. t i (le_step l))) (once_failed (f m) (t m (lt-suc_self m)))

-- each number below m passes or fails
pub count_not : (m : ℕ) (f : ℕ → Bool) → count m f + count m (λ i. not (f i)) ≡ m
unfolding count
count_not zero f = refl
count_not (suc m) f = omega (arith, count_not m f, once_not (f m))

-- no more than m of the numbers below m pass
pub count_le : (m : ℕ) (f : ℕ → Bool) → count m f ≤ m
count_le m f = omega (arith, count_not m f)
