-- The rows that an opening at any slot makes, by slots and by rows.
use mathlib.Core.Path.{◌≡◌, sym, ap, ◌∙◌, subst⁻¹}
use mathlib.Core.Bool.{Bool, true, false, cond}
use mathlib.Core.List.{List}
use mathlib.Core.Logic.{⊎_elim}
use Prim.Native.Nat.{ℕ, ◌+◌, ◌-◌, ◌%◌, ◌≤◌, ◌<◌}
use native.Mathlib.Nat.{mod-lt, mod-le, mod-eq_of_lt, mod-eq-sub-mod, mod-add-mod, add-mod-mod, add-mod_right}
use native.Mathlib.Omega.{arith}
use lib.Dec.{ltb}
use lib.ListN.{length, replicate, length-replicate}
use borrow.Author.Tests.{lt-ltb, le-ltb}
use Rattle.galois.proofs.Cases.{le_or_lt}
use Rattle.code.specs.declared.settings.Settings.{Settings}
use Rattle.protocol.specs.Lengths.{body_len, row_len, row_count, receiver_len}
use Rattle.protocol.specs.Rows.{joined}
use Rattle.protocol.specs.Calls.{received_zeros, row_before, last_in, opened_rows}
use Rattle.protocol.specs.Opening.{first_row}
use Rattle.protocol.proofs.Rings.{Ring, length-joined, joined_same, ring_start}

-- a row of received zeros has the rows' length, and so has the first one in each row
pub length-received_zeros : (s : Settings) → length (received_zeros s) ≡ row_len s
unfolding received_zeros row_len
length-received_zeros s = omega (arith, length-replicate {A = ℕ} (body_len s) 0)

pub length-first_row : (s : Settings) (slot r : ℕ) → length (first_row s slot r) ≡ row_len s
unfolding first_row
length-first_row s slot r = go (ltb r slot)
  where
    go : (b : Bool) → length (cond b (replicate (row_len s) 0) (received_zeros s)) ≡ row_len s
    go true = length-replicate (row_len s) 0
    go false = length-received_zeros s

module _ (s : Settings) (slot : ℕ) where
  -- the row of each of the last k + T slots before it
  first_before : (σ : ℕ) → slot ≤ σ → σ < slot + row_count s → first_row s slot (σ % row_count s) ≡ row_before s σ
  unfolding first_row row_before
  first_before σ low high =
      let R : ℕ = row_count s in
      ⊎_elim
      (λ from.
      let below : σ % R < slot = rw (mod-eq-sub-mod from) (omega (arith, mod-le (σ - R) R)) in
      rw (lt-ltb (σ % R) slot below, le-ltb σ R from))
      (λ early. rw (mod-eq_of_lt early, le-ltb σ slot low, lt-ltb σ R early)) (le_or_lt R σ)

  module _ (r : ℕ) (hr : r < row_count s) where
    -- the last slot in a row sits there, and is one of those
    last_row : last_in s slot r % row_count s ≡ r
    unfolding last_in
    last_row =
        let R : ℕ = row_count s in
        let m : ℕ = slot % R in
        let small : m < R = mod-lt slot (omega arith) in
        let round : m + (r + (R - m)) ≡ r + R = omega arith in
        add-mod-mod slot (r + (R - m)) R ∙ sym (mod-add-mod slot R (r + (R - m))) ∙ ap (λ (x : ℕ). x % R) round
        ∙ add-mod_right r R ∙ mod-eq_of_lt hr

    last_before : (slot ≤ last_in s slot r) × (last_in s slot r < slot + row_count s)
    unfolding last_in
    last_before =
        let R : ℕ = row_count s in
        let part : (r + (R - slot % R)) % R < R = mod-lt (r + (R - slot % R)) (omega arith) in (omega arith, omega arith)

    same_row : row_before s (last_in s slot r) ≡ first_row s slot r
    same_row = sym (first_before (last_in s slot r) last_before.0 last_before.1) ∙ ap (first_row s slot) last_row

  pub by_rows : opened_rows s slot ≡ joined (row_count s) (first_row s slot)
  unfolding opened_rows
  by_rows = joined_same (row_count s) (λ r. row_before s (last_in s slot r)) (first_row s slot) same_row

  pub length-opened_rows : length (opened_rows s slot) ≡ receiver_len s
  unfolding receiver_len
  length-opened_rows = ap length by_rows ∙ length-joined (row_len s) (row_count s) (first_row s slot) (length-first_row s slot)

  -- so they begin as the slots before it were
  pub begins : Ring (row_count s) (row_len s) (opened_rows s slot) slot (row_before s)
  begins =
      subst⁻¹ (λ (rows : List ℕ). Ring (row_count s) (row_len s) rows slot (row_before s)) by_rows
      (ring_start (row_count s) (row_len s) (first_row s slot) slot (row_before s) (length-first_row s slot) first_before)
