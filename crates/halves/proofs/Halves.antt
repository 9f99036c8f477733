-- A narrow number from its bits, the highest first: each step doubles what the bits above make, and adds the next bit.
use mathlib.Core.Path.{◌≡◌, sym, ap, ◌∙◌}
use native.Mathlib.Omega.{arith}
use Prim.Native.Nat.{ℕ, zero, suc, ◌+◌, ◌/◌, ◌%◌, ◌^◌, ◌<◌}
use Rattle.galois.specs.Byte.{◌⊕◌, ◌⊗◌}
use Rattle.galois.proofs.Arithmetic.{arithmetic}
use Rattle.galois.proofs.ByteProduct.{distributes_left, times_assoc}
use Rattle.galois.proofs.Cases.{equal}

-- one step
next_bit : (a t : ℕ) → a < 16 → t < 4 → 2 ⊗ (a / 2 ^ (t + 1)) ⊕ a / 2 ^ t % 2 ≡ a / 2 ^ t
unfolding arithmetic
next_bit a zero ha ht = equal 16 (λ a. 2 ⊗ (a / 2 ^ 1) ⊕ a / 2 ^ 0 % 2) (λ a. a / 2 ^ 0) tt a ha
next_bit a (suc zero) ha ht = equal 16 (λ a. 2 ⊗ (a / 2 ^ 2) ⊕ a / 2 ^ 1 % 2) (λ a. a / 2 ^ 1) tt a ha
next_bit a (suc (suc zero)) ha ht = equal 16 (λ a. 2 ⊗ (a / 2 ^ 3) ⊕ a / 2 ^ 2 % 2) (λ a. a / 2 ^ 2) tt a ha
next_bit a (suc (suc (suc zero))) ha ht = equal 16 (λ a. 2 ⊗ (a / 2 ^ 4) ⊕ a / 2 ^ 3 % 2) (λ a. a / 2 ^ 3) tt a ha
next_bit a (suc (suc (suc (suc t)))) ha ht = absurd (omega arith)

-- and so y by the number from y by its bits
pub next_bit_times : (a t y : ℕ) → a < 16 → t < 4 → 2 ⊗ ((a / 2 ^ (t + 1)) ⊗ y) ⊕ (a / 2 ^ t % 2) ⊗ y ≡ (a / 2 ^ t) ⊗ y
next_bit_times a t y ha ht =
    ap (λ (z : ℕ). z ⊕ (a / 2 ^ t % 2) ⊗ y) (sym (times_assoc 2 (a / 2 ^ (t + 1)) y))
    ∙ sym (distributes_left y (2 ⊗ (a / 2 ^ (t + 1))) (a / 2 ^ t % 2))
    ∙ ap (λ (k : ℕ). k ⊗ y) (next_bit a t ha ht)
