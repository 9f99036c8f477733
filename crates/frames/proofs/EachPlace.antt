-- A test of the numbers of a range, each in turn, is the test of all of them.
use mathlib.Core.Path.{◌≡◌, refl, sym, ap, ◌∙◌}
use mathlib.Core.Bool.{Bool, true, false, ◌&&◌}
use Prim.Native.Nat.{ℕ, zero, suc, ◌+◌}
use native.Mathlib.Omega.{arith}
use Rattle.std.specs.List.{range_with_len, list_all}
use Rattle.galois.specs.Bounded.{every}

and_true : (a : Bool) → (a && true) ≡ a
and_true true = refl
and_true false = refl

and_assoc : (a b c : Bool) → ((a && b) && c) ≡ (a && (b && c))
and_assoc true b c = refl
and_assoc false b c = refl

-- the first number apart
every_first : (n : ℕ) (f : ℕ → Bool) → every (suc n) f ≡ (f 0 && every n (λ i. f (suc i)))
unfolding every
every_first zero f = sym (and_true (f 0))
every_first (suc n) f =
    ap (λ (b : Bool). b && f (suc n)) (every_first n f) ∙ and_assoc (f 0) (every n (λ i. f (suc i))) (f (suc n))

pub all_every : (test : ℕ → Bool) (a n : ℕ) → list_all test (range_with_len a n) ≡ every n (λ i. test (a + i))
unfolding every
all_every test a zero = refl
all_every test a (suc n) =
    let here : a + 0 ≡ a = omega arith in
    let rest : (i : ℕ) → a + 1 + i ≡ a + suc i = λ i. omega arith in
    ap (λ (b : Bool). test a && b) (all_every test (a + 1) n ∙ λ j. every n (λ i. test (rest i j)))
    ∙ ap (λ (k : ℕ). test k && every n (λ i. test (a + suc i))) (sym here)
    ∙ sym (every_first n (λ i. test (a + i)))
