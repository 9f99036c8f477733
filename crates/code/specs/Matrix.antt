-- Document 01, "The matrix": the spread form, and the generator matrix G.
use Rattle.std.specs.Prelude.{cond, ◌&&◌, List, ℕ, zero, suc, ◌+◌, ◌-◌, eqb, ltb, leb}
use Rattle.galois.specs.Narrow.{◌⊞◌, ◌⊠◌, narrow_quotient}
use Rattle.galois.specs.Byte.{alpha, widen}
use Rattle.galois.specs.Table.{table}
use Rattle.gf16.specs.declared.Gf16.{Gf16}
use Rattle.code.specs.declared.settings.Settings.{Settings}
use Rattle.code.specs.Settings.{delay_of, k_of, n_of, d_of}

-- the zero points of row i in order: 0 to i - 1, then i + N onward
unfoldable pub point : ℕ → ℕ → ℕ → ℕ
point N i m = cond (ltb m i) m (m + N)

-- the factor of the point p at row i and position j: (j + p) divided by (i + p)
unfoldable pub factor : ℕ → ℕ → ℕ → ℕ
factor i j p = narrow_quotient (j ⊞ p) (i ⊞ p)

-- the product over the first m zero points of row i, at position j
unfoldable pub product : ℕ → ℕ → ℕ → ℕ → ℕ
product N i j zero = 1
product N i j (suc m) = product N i j m ⊠ factor i j (point N i m)

-- the spread form: the product over all k - 1 zero points
unfoldable pub spread : Settings → ℕ → ℕ → ℕ
spread s i j = product s.scattered i j (delay_of s - s.scattered)

-- α times the identity, from position T on
unfoldable pub alpha_entry : ℕ → ℕ → ℕ → ℕ
alpha_entry delay i j = cond (eqb j (delay + i)) alpha 0

-- G: the spread form with its rows 0 to d - 1, positions T to n - 1, replaced by α times the identity; 0 outside G
unfoldable pub entry : Settings → ℕ → ℕ → ℕ
entry s i j =
    cond (ltb i (k_of s) && ltb j (n_of s))
    (cond (ltb i (d_of s) && leb (delay_of s) j) (alpha_entry (delay_of s) i j) (widen (spread s i j)))
    0

-- a number as an element of the field of sixteen
abbrev pub gf16 : ℕ → Gf16
gf16 a = record { 0 = a }

-- the products over the first m zero points of row i, at positions 0 to 15
unfoldable pub product_row : ℕ → ℕ → ℕ → List Gf16
product_row N i m = table 16 (λ j. gf16 (product N i j m))
