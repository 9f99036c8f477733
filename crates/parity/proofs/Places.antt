-- The sender's rows under accepted settings are small, and where a row and its source symbols stand in them.
use mathlib.Core.Path.{◌≡◌, ap, ◌∙◌}
use Prim.Native.Nat.{ℕ, ◌+◌, ◌-◌, ◌*◌, ◌%◌, ◌≤◌, ◌<◌}
use native.Mathlib.Nat.{mul-le-mul, mul-le-mul_right, suc-mul, mod-lt, mod-add-mod}
use native.Mathlib.Omega.{arith}
use Rattle.code.specs.declared.settings.Settings.{Settings}
use Rattle.code.specs.Settings.{k_of, n_of}
use Rattle.code.proofs.Shape.{Shape}
use Rattle.protocol.specs.Lengths.{message_len, sender_len}
use Rattle.parity.specs.Sources.{row_of}

module _ (s : Settings) (h : Shape s) where
  pub message_few : message_len s ≤ 1024
  unfolding message_len
  message_few = let few : k_of s ≤ 16 = omega arith in omega (arith, mul-le-mul few h.lanes_few)

  pub rows_few : sender_len s ≤ 15360
  unfolding sender_len
  rows_few = let few : n_of s - 1 ≤ 15 = omega arith in omega (arith, mul-le-mul few message_few)

  -- the end of row r
  pub row_ends : (r : ℕ) → r < n_of s - 1 → r * message_len s + message_len s ≤ sender_len s
  unfolding sender_len
  row_ends r hr = omega (arith, mul-le-mul_right (message_len s) hr, suc-mul r (message_len s))

  -- the end of source symbol i in row r
  pub source_ends : (r i : ℕ) → r < n_of s - 1 → i < k_of s → r * message_len s + i * s.lanes + s.lanes ≤ sender_len s
  unfolding message_len
  source_ends r i hr hi = omega (arith, row_ends r hr, mul-le-mul_right s.lanes hi, suc-mul i s.lanes)

-- ---- rows of the ring

module _ (s : Settings) (t p : ℕ) where
  -- the row of source symbol 0
  pub row_first : (t + (n_of s - 1) - p) % (n_of s - 1) ≡ row_of s t p 0
  unfolding row_of
  row_first = ap (λ (x : ℕ). x % (n_of s - 1)) (omega arith)

  -- each source symbol stands a row further on
  pub row_next : (i row : ℕ) → row ≡ row_of s t p i → (row + 1) % (n_of s - 1) ≡ row_of s t p (i + 1)
  unfolding row_of
  row_next i row is =
      let x : ℕ = t + (n_of s - 1) - p + i in
      let more : x + 1 ≡ t + (n_of s - 1) - p + (i + 1) = omega arith in
      ap (λ (r : ℕ). (r + 1) % (n_of s - 1)) is ∙ mod-add-mod x (n_of s - 1) 1 ∙ ap (λ (y : ℕ). y % (n_of s - 1)) more

  -- and every row is one of the ring
  pub row_below : (i : ℕ) → 0 < n_of s - 1 → row_of s t p i < n_of s - 1
  unfolding row_of
  row_below i some = mod-lt (t + (n_of s - 1) - p + i) some
