-- A cause that is found refuses the opening, and else the rows are those of the slots before it.
use Rattle.std.specs.Prelude.{Ok}
use mathlib.Core.Path.{◌≡◌, sym, ap, ap₂, ◌∙◌}
use native.Mathlib.Omega.{arith}
use Prim.Native.Nat.{ℕ}
use Rattle.galois.specs.Table.{table}
use Rattle.protocol.specs.Causes.{open_receiver_cause}
use Rattle.protocol.specs.Lengths.{row_len}
use Rattle.protocol.proofs.CauseTables.{receiver_open}
use Rattle.ring.specs.Bytes.{opened_byte}
use Rattle.ring.proofs.OpenedRows.{opened_rows_lem}
use Rattle.receiver.proofs.Outcomes.{opening, unopened, opened}
use Rattle.receiver.proofs.opening.open.Goals as goal

pub returns-in-Err : goal.returns-in-Err
returns-in-Err c =
    ap (λ r. record { answer = r.answer; receiver = r.state; rows = c.args.rows.now }) c.refused.ensures
    ∙ unopened c.args.s c.args.slot c.args.rows.now _ (sym c.open_receiver_cause.ensures ∙ c.in-Err.is)

pub write_opened-requires : goal.write_opened-requires
unfolding row_len
write_opened-requires c =
    omega (arith, c.row_len.ensures)

pub returns : goal.returns
returns c =
    let uncaused : open_receiver_cause c.args.s c.args.slot c.args.rows.now ≡ Ok tt = sym c.open_receiver_cause.ensures ∙ c.in_default.is in
    ap₂ opening
    (c.write_opened.ensures
    ∙ ap₂ (λ (n m : ℕ). table n (opened_byte m c.args.slot))
    (receiver_open c.args.s c.args.slot c.args.rows.now uncaused).exact c.row_len.ensures
    ∙ opened_rows_lem c.args.s c.args.slot)
    c.opened_receiver.ensures
    ∙ opened c.args.s c.args.slot c.args.rows.now uncaused
