-- The parity positions, one after another: one more of them, and for settings that are not accepted none.
use mathlib.Core.Path.{◌≡◌, refl}
use mathlib.Core.Bool.{false}
use mathlib.Core.List.{List}
use Prim.Native.Nat.{ℕ, suc, ◌+◌, ◌-◌, ◌≤◌, ◌<◌}
use native.Mathlib.Omega.{arith}
use lib.Dec.{eqb}
use lib.ListN.{get_or, set}
use borrow.Author.Tests.{lt-ltb}
use Rattle.code.specs.declared.settings.Settings.{Settings}
use Rattle.code.specs.Settings.{accepted, k_of, n_of}
use Rattle.elimination.specs.declared.reduced.Reduced.{Reduced}
use Rattle.elimination.specs.Elimination.{column_step, columns, known_in, reduced_from, left_flag, left_after, left_from}

-- for settings that are not accepted the matrix, its roles and the flags stay
pub reduced_refused : (s : Settings) (x : Reduced) (flags : List ℕ) → accepted s ≡ false → x ≡ reduced_from s x flags
unfolding reduced_from
reduced_refused s x flags e = rw (e, reduced_from)

pub left_refused : (s : Settings) (x : Reduced) (flags : List ℕ) → accepted s ≡ false → flags ≡ left_from s x flags
unfolding left_from
left_refused s x flags e = rw (e, left_from)

-- one more parity position, by its flag: the matrix with its roles, and the flags
pub columns_more : (s : Settings) (x : Reduced) (flags : List ℕ) (p flag : ℕ) → k_of s ≤ p → p < n_of s → flag ≡ get_or flags p 0
    → column_step (k_of s) (eqb flag 1) p (columns s (known_in s flags) x (p - k_of s)) ≡ columns s (known_in s flags) x (p + 1 - k_of s)
unfolding columns known_in
columns_more s x flags p flag low high same =
    let next : p + 1 - k_of s ≡ suc (p - k_of s) = omega arith in
    let here : k_of s + (p - k_of s) ≡ p = omega arith in
    rw (next, columns, here, lt-ltb p (n_of s) high, same) refl

pub left_more : (s : Settings) (x : Reduced) (flags : List ℕ) (p flag : ℕ) → k_of s ≤ p → p < n_of s → flag ≡ get_or flags p 0
    → set (left_after s x flags (p - k_of s)) p (left_flag (k_of s) (eqb flag 1) p (columns s (known_in s flags) x (p - k_of s)) flag)
    ≡ left_after s x flags (p + 1 - k_of s)
unfolding left_after known_in
left_more s x flags p flag low high same =
    let next : p + 1 - k_of s ≡ suc (p - k_of s) = omega arith in
    let here : k_of s + (p - k_of s) ≡ p = omega arith in
    rw (next, left_after, here, lt-ltb p (n_of s) high, same) refl
