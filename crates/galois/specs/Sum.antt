-- Finite sums of bytes.
use Rattle.std.specs.Prelude.{ℕ, zero, suc}
use Rattle.galois.specs.Byte.{◌⊕◌}

-- f 0 + f 1 + .. + f (m - 1)
unfoldable pub sum : ℕ → (ℕ → ℕ) → ℕ
sum zero f = 0
sum (suc m) f = sum m f ⊕ f m
