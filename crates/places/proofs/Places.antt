-- Where the rows and their bytes stand: all within the receiver's rows, and far below what a machine number holds.
use Prim.Native.Nat.{ℕ, suc, ◌+◌, ◌-◌, ◌*◌, ◌%◌, ◌≤◌, ◌<◌}
use native.Mathlib.Nat.{suc-mul, zero-mul, suc-mod, mod-lt, mod_self, mod-eq_of_lt, mul-le-mul, mul-le-mul_right, eq-or-lt_of_le}
use native.Mathlib.Omega.{arith}
use mathlib.Core.Path.{◌≡◌, sym, ap, ◌∙◌}
use mathlib.Core.Bool.{cond}
use mathlib.Core.Logic.{⊎_elim}
use borrow.Author.Tests.{lt-ltb, le-ltb}
use lib.Dec.{ltb}
use lib.ListN.{get_or}
use Rattle.galois.proofs.ByIndex.{get_or-table}
use Rattle.code.specs.declared.settings.Settings.{Settings}
use Rattle.code.specs.Settings.{delay_of, k_of, n_of}
use Rattle.code.proofs.Shape.{Shape}
use Rattle.protocol.specs.Lengths.{body_len, row_len, row_count, receiver_len}
use Rattle.protocol.specs.Verdict.{row_at}
use Rattle.places.specs.Places.{places_to, places_of}
use Rattle.places.proofs.Filled.{up_to, up_below}

pub body_few : (s : Settings) → Shape s → n_of s * s.lanes ≤ 1024
body_few s h = mul-le-mul h.symbols_few h.lanes_few

pub rows_few : (s : Settings) → Shape s → receiver_len s ≤ 32800
unfolding receiver_len row_count row_len body_len
rows_few s h =
    let count : k_of s + delay_of s ≤ 32 = omega arith in
    let size : 1 + n_of s * s.lanes ≤ 1025 = omega (arith, body_few s h) in
    mul-le-mul count size

pub row_few : (x c size : ℕ) → 0 < c → c ≤ 32 → size ≤ 1025 → x % c * size ≤ 32800
row_few x c size pos few small =
    let less = mod-lt x pos in
    let few₂ : x % c ≤ 32 = omega arith in
    mul-le-mul few₂ small

-- in a ring of R rows, the row after another begins where it ends, or at 0
ring_next : (R size x : ℕ) → 0 < R → 0 < size
    → cond (ltb (x % R * size + size) (R * size)) (x % R * size + size) 0 ≡ suc x % R * size
ring_next R size x some more =
    let m : ℕ = x % R in
    ⊎_elim
    (λ same.
    let full : suc m * size ≡ R * size = ap (λ (k : ℕ). k * size) same in
    rw (le-ltb (m * size + size) (R * size) (omega (arith, suc-mul m size)))
    (sym (ap (λ (k : ℕ). k * size) (suc-mod x R ∙ ap (λ (k : ℕ). k % R) same ∙ mod_self R) ∙ zero-mul size)))
    (λ below.
    rw (lt-ltb (m * size + size) (R * size) (omega (arith, suc-mul m size, suc-mul (suc m) size, mul-le-mul_right size below)))
    (sym (suc-mul m size) ∙ ap (λ (k : ℕ). k * size) (sym (suc-mod x R ∙ mod-eq_of_lt below))))
    (eq-or-lt_of_le (mod-lt x some))

module _ (s : Settings) (h : Shape s) (t i p : ℕ) where
  -- the row ends within the rows
  pub row_ends : row_at s t i p + row_len s ≤ receiver_len s
  unfolding row_at receiver_len row_count
  row_ends =
      let x : ℕ = t + p + (k_of s + delay_of s) - i in
      let less : x % (k_of s + delay_of s) < k_of s + delay_of s = mod-lt x (omega arith) in
      omega (arith, mul-le-mul_right (row_len s) less, suc-mul (x % (k_of s + delay_of s)) (row_len s))

  -- the next position's row
  pub row_next : i < k_of s
      → cond (ltb (row_at s t i p + row_len s) (receiver_len s)) (row_at s t i p + row_len s) 0 ≡ row_at s t i (p + 1)
  unfolding row_at receiver_len row_count row_len
  row_next hi =
      let R : ℕ = k_of s + delay_of s in
      let x : ℕ = t + p + R - i in
      let next : suc x ≡ t + (p + 1) + R - i = omega arith in
      ring_next R (1 + body_len s) x (omega arith) (omega arith) ∙ ap (λ (y : ℕ). y % R * (1 + body_len s)) next

  -- its first byte
  pub first_inside : row_at s t i p < receiver_len s
  unfolding row_len
  first_inside = omega (arith, row_ends)

  -- its L bytes of position p
  pub symbol_inside : p < n_of s → row_at s t i p + (1 + p * s.lanes) + s.lanes ≤ receiver_len s
  unfolding row_len body_len
  symbol_inside hp = omega (arith, row_ends, mul-le-mul_right s.lanes hp, suc-mul p s.lanes)

  pub row_at_few : row_at s t i p ≤ 32800
  unfolding row_at row_count row_len body_len
  row_at_few = row_few (t + p + (k_of s + delay_of s) - i) (k_of s + delay_of s) (1 + n_of s * s.lanes) (omega arith) (omega arith)
      (omega (arith, body_few s h))

-- where the symbol of position p stands
abbrev pub place_of : Settings → ℕ → ℕ → ℕ → ℕ
place_of s t i p = row_at s t i p + (1 + p * s.lanes)

-- the places of the word's positions
module _ (s : Settings) (h : Shape s) (t i p : ℕ) (below : p < n_of s) where
  pub place_at : get_or (places_of s t i) p 0 ≡ place_of s t i p
  unfolding places_of places_to
  place_at =
      get_or-table 16 (up_to 0 (n_of s) (place_of s t i)) p 0 (omega (arith, h.symbols_few))
      ∙ up_below 0 (n_of s) (place_of s t i) p below

  pub place_inside : get_or (places_of s t i) p 0 + s.lanes ≤ receiver_len s
  place_inside = omega (arith, place_at, symbol_inside s h t i p below)
