-- A look through the first k rows for one that differs.
use mathlib.Core.Path.{◌≡◌, sym, ◌∙◌, subst}
use mathlib.Core.Bool.{Bool, true, false}
use mathlib.Core.List.{List}
use mathlib.Core.Logic.{⊎_elim}
use Prim.Native.Nat.{ℕ, ◌≤◌, ◌<◌, zero-le}
use native.Mathlib.Omega.{arith}
use lib.Dec.{T}
use lib.ListN.{length, get_or}
use Rattle.std.specs.Bool.{MatchBool}
use Rattle.std.specs.List.{range_with_len, AllWithin, HoldsAt}
use Rattle.std.proofs.lemmas.List.FromFn.{length-range_with_len, get_or-range_with_len}
use Rattle.galois.proofs.Cases.{any-one, any_none}
use Rattle.code.specs.declared.settings.Settings.{Settings}
use Rattle.code.specs.Settings.{k_of}
use Rattle.elimination.specs.declared.reduced.Reduced.{Reduced}
use Rattle.elimination.specs.Elimination.{cell, free, differs}
use Rattle.elimination.proofs.PivotSearch.{Fit, Unfit, is_free, is_pivot}
use Rattle.elimination.proofs.Pivots.{test_differs}
use Rattle.elimination.proofs.Terms.{free_differs, test_passes, test_off}

module _ (s : Settings) (x : Reduced) (i : ℕ) (few : k_of s ≤ 16) where
  abbrev rows : List ℕ
  rows = range_with_len 0 (k_of s)

  at_row : (r : ℕ) → r < k_of s → get_or rows r 0 ≡ r
  at_row r h = get_or-range_with_len 0 (k_of s) r 0 h ∙ omega arith

  passes : (r : ℕ) → r < k_of s → Fit x i r → T (free_differs x i r)
  passes r h fit =
      test_passes (free x.roles r) (cell x.rows r i) 0 (is_free x i r (omega (arith, fit.0)) fit.1) fit.2

  fails : (r : ℕ) → r < k_of s → Unfit x i r → T (free_differs x i r) → ⊥
  fails r h unfit t =
      ⊎_elim
      (λ taken. test_off (free x.roles r) (cell x.rows r i) 0 (is_pivot x i r (omega (arith, unfit.0)) taken) t)
      (λ nought. test_differs (free x.roles r) (cell x.rows r i) 0 t nought) unfit.1

  pub differs_any : (found : Bool)
      → MatchBool found ((k : ℕ) × (k < length rows) × HoldsAt (Fit x i) rows k) (AllWithin (Unfit x i) rows 0 (length rows))
      → found ≡ differs s x i
  unfolding differs
  differs_any true (r, h, at) =
      let below : r < k_of s = omega (arith, length-range_with_len 0 (k_of s)) in
      sym (any-one (k_of s) (free_differs x i) r below (passes r below (subst (Fit x i) (at_row r below) (at 0))))
  differs_any false none =
      sym
      (any_none (k_of s) (free_differs x i)
      (λ r h. fails r h (subst (Unfit x i) (at_row r h) (none r 0 zero-le (omega (arith, length-range_with_len 0 (k_of s)))))))
