-- The rows that an opening writes, byte by byte, are those of the slots before it.
use mathlib.Core.Path.{◌≡◌, refl, sym, ap, ◌∙◌, subst}
use mathlib.Core.Bool.{Bool, true, false, cond}
use Prim.Native.Nat.{ℕ, zero, suc, ◌*◌, ◌/◌, ◌%◌, ◌<◌}
use native.Mathlib.Nat.{mod-lt, div-add-mod', div-lt_iff_lt-mul}
use native.Mathlib.Omega.{arith}
use lib.Dec.{eqb, ltb}
use lib.ListN.{get_or, replicate, get_or-replicate}
use lib.Seq.{ext_get_or}
use borrow.Author.Tests.{ne_eqb}
use Rattle.code.specs.declared.settings.Settings.{Settings}
use Rattle.galois.specs.Table.{table}
use Rattle.galois.proofs.ByIndex.{length-table, get_or-table}
use Rattle.protocol.specs.Lengths.{body_len, row_len, row_count, receiver_len}
use Rattle.protocol.specs.Rows.{joined}
use Rattle.protocol.specs.Calls.{received_zeros, opened_rows}
use Rattle.protocol.specs.Opening.{first_row}
use Rattle.protocol.proofs.Rings.{length-joined, get_or-joined}
use Rattle.protocol.proofs.OpenedRows.{length-first_row, by_rows}
use Rattle.ring.specs.Bytes.{opened_byte}

-- a byte of a row of received zeros, and of any first row
zeros_byte : (s : Settings) (j : ℕ) → j < row_len s → get_or (received_zeros s) j 0 ≡ cond (eqb j 0) 1 0
unfolding received_zeros row_len
zeros_byte s zero h = refl
zeros_byte s (suc j) h =
    get_or-replicate (body_len s) j 0 0 (omega arith) ∙ ap (λ (b : Bool). cond b 1 0) (sym (ne_eqb (suc j) 0 (λ e. omega arith)))

first_byte : (s : Settings) (slot r j : ℕ) → j < row_len s → get_or (first_row s slot r) j 0 ≡ cond (ltb r slot) 0 (cond (eqb j 0) 1 0)
unfolding first_row
first_byte s slot r j h = go (ltb r slot)
  where
    go : (b : Bool) → get_or (cond b (replicate (row_len s) 0) (received_zeros s)) j 0 ≡ cond b 0 (cond (eqb j 0) 1 0)
    go true = get_or-replicate (row_len s) j 0 0 h
    go false = zeros_byte s j h

positive : (s : Settings) → 0 < row_len s
unfolding row_len
positive s = omega arith

pub opened_rows_lem : (s : Settings) (slot : ℕ) → table (receiver_len s) (opened_byte (row_len s) slot) ≡ opened_rows s slot
unfolding receiver_len
opened_rows_lem s slot =
    let size : ℕ = row_len s in
    let byte : ℕ → ℕ = opened_byte size slot in
    let row = first_row s slot in
    let sized = length-first_row s slot in
    ext_get_or 0 (table (row_count s * size) byte) (joined (row_count s) row)
    (length-table (row_count s * size) byte ∙ sym (length-joined size (row_count s) row sized))
    (λ q h.
    let inside : q < row_count s * size = subst (λ (m : ℕ). q < m) (length-table (row_count s * size) byte) h in
    let some : 0 < size = positive s in
    get_or-table (row_count s * size) byte q 0 inside
    ∙ sym (first_byte s slot (q / size) (q % size) (mod-lt q some))
    ∙ sym (get_or-joined size (row_count s) row sized (q / size) (q % size) ((div-lt_iff_lt-mul some).1 inside) (mod-lt q some))
    ∙ ap (λ (k : ℕ). get_or (joined (row_count s) row) k 0) (div-add-mod' q size))
    ∙ sym (by_rows s slot)
