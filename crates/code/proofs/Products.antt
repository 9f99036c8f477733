-- The product over zero points: one step, at one position and at all of them, and the points.
use mathlib.Core.Path.{◌≡◌, sym, ap, ap₂, ◌∙◌}
use mathlib.Core.List.{List}
use Prim.Native.Nat.{ℕ, zero, suc, ◌+◌, ◌-◌, ◌≤◌, ◌<◌}
use native.Mathlib.Nat.{not-suc-le-zero}
use native.Mathlib.Numerals.{sub-one}
use lib.ListN.{get_or}
use borrow.Author.Tests.{lt-ltb, le-ltb}
use Rattle.galois.specs.Narrow.{◌⊠◌}
use Rattle.galois.specs.Table.{table}
use Rattle.gf16.specs.declared.Gf16.{Gf16}
use Rattle.galois.proofs.ByIndex.{get_or-table, table_equal}
use Rattle.code.specs.Matrix.{point, factor, product, gf16, product_row}

-- the product over m points is the product over one point fewer, times the factor of the last
product_step : (N i j m : ℕ) → 1 ≤ m → product N i j m ≡ product N i j (m - 1) ⊠ factor i j (point N i (m - 1))
unfolding product
product_step N i j zero h = absurd (not-suc-le-zero h)
product_step N i j (suc m) h = ap (λ (q : ℕ). product N i j q ⊠ factor i j (point N i q)) (sym (sub-one (suc m)))

-- and so it is with a row of products, where row l has them over one point fewer
pub row_step : (N i m p : ℕ) (l : List Gf16) → 1 ≤ m → l ≡ product_row N i (m - 1) → p ≡ point N i (m - 1)
    → table 16 (λ j. gf16 ((get_or l j (gf16 0)).0 ⊠ factor i j p)) ≡ product_row N i m
unfolding product_row
row_step N i m p l h before last =
    table_equal 16 (λ j. gf16 ((get_or l j (gf16 0)).0 ⊠ factor i j p)) (λ j. gf16 (product N i j m))
    (λ j hj.
    ap gf16
    (ap₂ (λ (x : Gf16) (q : ℕ). x.0 ⊠ factor i j q)
    (ap (λ (l : List Gf16). get_or l j (gf16 0)) before ∙ get_or-table 16 (λ j. gf16 (product N i j (m - 1))) j (gf16 0) hj) last
    ∙ sym (product_step N i j m h)))

pub point_low : (N i m : ℕ) → m < i → point N i m ≡ m
unfolding point
point_low N i m h = rw (lt-ltb m i h)

pub point_high : (N i m : ℕ) → i ≤ m → point N i m ≡ m + N
unfolding point
point_high N i m h = rw (le-ltb m i h)
