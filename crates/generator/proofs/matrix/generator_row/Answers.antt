-- Each call gives its entry; past the last row there are zeros.
use Rattle.std.proofs.Common.{rules, ℕ, ◌≡◌, ◌-◌, ◌<◌, List, get_or, ap, ◌∙◌, arith, sym}
use Rattle.galois.specs.Table.{table}
use Rattle.std.proofs.iter.Serving.{serving}
use Rattle.gf16.specs.declared.Gf16.{Gf16}
use Rattle.galois.proofs.ByIndex.{get_or-table, table_equal}
use Rattle.code.specs.declared.settings.Settings.{Settings}
use Rattle.code.specs.Settings.{delay_of, k_of}
use Rattle.code.specs.Matrix.{product, spread, gf16, product_row, entry}
use Rattle.code.proofs.Entries.{entry_row_outside}
use Rattle.code.proofs.FromFn.{from_fn_table}
use Rattle.generator.proofs.matrix.generator_row.Goals as goal

spread_at : (s : Settings) (i k j : ℕ) (row : List Gf16) → k ≡ k_of s → row ≡ product_row s.scattered i (k - 1) → j < 16
    → (get_or row j (gf16 0)).0 ≡ spread s i j
unfolding product_row spread k_of
spread_at s i k j row sources made h =
    let points : k - 1 ≡ delay_of s - s.scattered = omega arith in
    ap (λ (l : List Gf16). (get_or l j (gf16 0)).0) made
    ∙ ap (λ (x : Gf16). x.0) (get_or-table 16 (λ j. gf16 (product s.scattered i j (k - 1))) j (gf16 0) h)
    ∙ ap (product s.scattered i j) points

pub returns-then-sources-row : goal.returns-then-sources-row
unfolding table
returns-then-sources-row c =
    table_equal 16 (λ j. 0) (λ j. entry c.args.s c.args.row j) (λ j _. sym (entry_row_outside c.args.s c.args.row j (omega arith)))

pub overflow_cast-row : goal.overflow_cast-row
unfolding k_of delay_of
overflow_cast-row c = omega arith

pub overflow_cast-sources : goal.overflow_cast-sources
unfolding k_of delay_of
overflow_cast-sources c = omega arith

pub from_fn-requires : goal.from_fn-requires
from_fn-requires c =
    let at = λ (j : ℕ) (h : j < 16).
    spread_at c.args.s c.args.row c.sources-sources.result j c.spread_row-products.result
    c.sources-sources.ensures c.spread_row-products.ensures h in
    search (rules, serving, at)

pub returns : goal.returns
returns c =
    from_fn_table _ _ _ 0 _ 16 c.from_fn.ensures.items
    (λ j y q h called. (search rules, search rules))
