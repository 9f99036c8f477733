-- The entries of the generator matrix: each a rule with conditions on the row and the position.
use mathlib.Core.Path.{◌≡◌, refl, ap, ◌∙◌}
use mathlib.Core.Bool.{Bool, true, false, cond, ◌&&◌, and-false}
use mathlib.Core.Logic.{◌≢◌}
use Prim.Native.Nat.{ℕ, ◌+◌, ◌≤◌, ◌<◌}
use native.Mathlib.Nat.{le_trans}
use native.Mathlib.Omega.{arith}
use lib.Dec.{eqb, ltb, leb, lit<, lit≤}
use borrow.Author.Tests.{lt-ltb, le-ltb, le-leb, lt-leb, eq-eqb, ne_eqb}
use Rattle.galois.specs.Byte.{alpha, widen}
use Rattle.galois.proofs.Extension.{widen_narrow, widen_below}
use Rattle.code.specs.declared.settings.Settings.{Settings}
use Rattle.code.specs.Settings.{delay_of, k_of, n_of, d_of}
use Rattle.code.specs.Matrix.{spread, alpha_entry, entry}
use Rattle.code.proofs.Shape.{Shape}
use Rattle.code.proofs.Rows.{spread_zero_low, spread_zero_high, spread_one}

-- ---- outside k rows by n positions

-- 0 past the last row
pub entry_row_outside : (s : Settings) (i j : ℕ) → k_of s ≤ i → entry s i j ≡ 0
unfolding entry
entry_row_outside s i j h = rw (le-ltb i (k_of s) h)

-- 0 past the last position
pub entry_position_outside : (s : Settings) (i j : ℕ) → n_of s ≤ j → entry s i j ≡ 0
unfolding entry
entry_position_outside s i j h = rw (le-ltb j (n_of s) h, and-false (ltb i (k_of s)))

-- ---- the spread form

-- before position T
pub entry_spread_before : (s : Settings) (i j : ℕ) → i < k_of s → j < n_of s → j < delay_of s → entry s i j ≡ widen (spread s i j)
unfolding entry
entry_spread_before s i j hi hj h =
    rw (lt-ltb i (k_of s) hi, lt-ltb j (n_of s) hj, lt-leb (delay_of s) j h, and-false (ltb i (d_of s)))

-- in the rows from d on
pub entry_spread_row : (s : Settings) (i j : ℕ) → i < k_of s → j < n_of s → d_of s ≤ i → entry s i j ≡ widen (spread s i j)
unfolding entry
entry_spread_row s i j hi hj h = rw (lt-ltb i (k_of s) hi, lt-ltb j (n_of s) hj, le-ltb i (d_of s) h)

-- ---- the rows below d, from position T on

-- α times the identity
pub entry_alpha_row : (s : Settings) (i j : ℕ) → i < k_of s → j < n_of s → i < d_of s → delay_of s ≤ j
    → entry s i j ≡ alpha_entry (delay_of s) i j
unfolding entry
entry_alpha_row s i j hi hj hd h =
    rw (lt-ltb i (k_of s) hi, lt-ltb j (n_of s) hj, lt-ltb i (d_of s) hd, le-leb (delay_of s) j h)

-- a choice between 0 and 0 is 0
choice_zero : (t : Bool) → cond {A = ℕ} t 0 0 ≡ 0
choice_zero true = refl
choice_zero false = refl

module _ (s : Settings) (h : Shape s) where
  -- α at position T + i
  pub entry_alpha : (i : ℕ) → i < d_of s → entry s i (delay_of s + i) ≡ alpha
  unfolding alpha_entry
  entry_alpha i hi =
      entry_alpha_row s i (delay_of s + i) (omega arith) (omega arith) hi (omega arith)
      ∙ rw (eq-eqb (delay_of s + i) (delay_of s + i) refl)

  -- 0 beside it
  pub entry_beside : (i j : ℕ) → i < d_of s → delay_of s ≤ j → j ≢ delay_of s + i → entry s i j ≡ 0
  unfolding entry alpha_entry
  entry_beside i j hi hj ne =
      rw (
        lt-ltb i (k_of s) (omega arith),
        lt-ltb i (d_of s) hi,
        le-leb (delay_of s) j hj,
        ne_eqb j (delay_of s + i) ne,
      )
      (choice_zero (ltb j (n_of s)))

  -- ---- the first k positions are triangular with ones

  -- 0 below the diagonal
  pub entry_zero_low : (i j : ℕ) → i < k_of s → j < i → entry s i j ≡ 0
  entry_zero_low i j hi hj =
      entry_spread_before s i j hi (omega arith) (omega arith) ∙ ap widen (spread_zero_low s i j hi hj)
      ∙ widen_narrow 0 (lit< tt)

  -- 0 from N past the diagonal up to T
  pub entry_zero_high : (i j : ℕ) → i < k_of s → i + s.scattered ≤ j → j < delay_of s → entry s i j ≡ 0
  entry_zero_high i j hi low high =
      entry_spread_before s i j hi (omega arith) high ∙ ap widen (spread_zero_high s i j low high)
      ∙ widen_narrow 0 (lit< tt)

  -- 1 on it
  pub entry_one : (i : ℕ) → i < k_of s → entry s i i ≡ 1
  entry_one i hi =
      entry_spread_before s i i hi (omega arith) (omega arith) ∙ ap widen (spread_one s h i hi) ∙ widen_narrow 1 (lit< tt)

-- ---- bytes

-- a choice between bytes is a byte
choice_below : (t : Bool) (x y : ℕ) → x < 256 → y < 256 → cond t x y < 256
choice_below true x y hx hy = hx
choice_below false x y hx hy = hy

-- α is a byte
alpha_below : alpha < 256
unfolding alpha
alpha_below = lit< tt

-- an entry is a byte
pub entry_below : (s : Settings) (i j : ℕ) → entry s i j < 256
unfolding entry alpha_entry
entry_below s i j =
    choice_below (ltb i (k_of s) && ltb j (n_of s)) _ 0
    (choice_below (ltb i (d_of s) && leb (delay_of s) j) (alpha_entry (delay_of s) i j) (widen (spread s i j))
    (choice_below (eqb j (delay_of s + i)) alpha 0 alpha_below (lit< tt))
    (le_trans (widen_below (spread s i j)) (lit≤ tt)))
    (lit< tt)
