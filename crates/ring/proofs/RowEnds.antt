-- The receiver's rows: how many there are, and that each lies within them.
use mathlib.Core.Path.{◌≡◌}
use mathlib.Core.List.{List}
use Prim.Native.Nat.{ℕ, ◌+◌, ◌*◌, ◌%◌, ◌≤◌, ◌<◌}
use native.Mathlib.Nat.{mod-lt, mul-le-mul_right, suc-mul}
use native.Mathlib.Omega.{arith}
use lib.ListN.{length}
use Rattle.code.specs.declared.settings.Settings.{Settings}
use Rattle.code.specs.Settings.{k_of}
use Rattle.protocol.specs.Lengths.{row_len, row_count, receiver_len}
use Rattle.protocol.specs.Rows.{put_row}
use Rattle.protocol.proofs.Rings.{length-put_row}

module _ (s : Settings) where
  -- there is a row
  pub some_row : 0 < row_count s
  unfolding row_count k_of
  some_row = omega arith

  -- row r lies within the rows
  pub row_ends : (r : ℕ) → r < row_count s → r * row_len s + row_len s ≤ receiver_len s
  unfolding receiver_len
  row_ends r h = omega (arith, mul-le-mul_right (row_len s) h, suc-mul r (row_len s))

  -- that of a slot due among them
  pub due_ends : (due : ℕ) → due % row_count s * row_len s + row_len s ≤ receiver_len s
  due_ends due = row_ends (due % row_count s) (mod-lt due some_row)

  -- a row that is written keeps the rows' length
  pub kept : (due : ℕ) (rows row : List ℕ) → length rows ≡ receiver_len s → length row ≡ row_len s
      → length (put_row (row_len s) (due % row_count s) row rows) ≡ receiver_len s
  unfolding receiver_len
  kept due rows row full fits = length-put_row (row_count s) (row_len s) rows row full fits (due % row_count s) (mod-lt due some_row)
