-- Polynomials over the bytes.
use Rattle.std.specs.Prelude.{List, [], ◌∷◌, ℕ}
use Rattle.galois.specs.Byte.{◌⊕◌, ◌⊗◌}

-- a polynomial is the list of its coefficients, the lowest first; its value at x (Horner)
unfoldable pub value : List ℕ → ℕ → ℕ
value [] x = 0
value (c ∷ cs) x = c ⊕ x ⊗ value cs x
