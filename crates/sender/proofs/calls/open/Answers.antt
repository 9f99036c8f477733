-- A cause that is found refuses the opening, and else the rows are zeroed.
use Rattle.std.specs.Prelude.{Ok, Err}
use mathlib.Core.Path.{◌≡◌, sym, ap, ap₂, ◌∙◌}
use mathlib.Core.List.{List}
use Prim.Native.Nat.{ℕ}
use lib.ListN.{length, replicate}
use Rattle.code.specs.declared.settings.Settings.{Settings}
use Rattle.protocol.specs.declared.Cause.{Cause}
use Rattle.protocol.specs.declared.Sender.{Sender}
use Rattle.protocol.specs.Answers.{Answer}
use Rattle.protocol.specs.Calls.{open_sender_of}
use Rattle.protocol.specs.Causes.{open_cause}
use Rattle.protocol.specs.Lengths.{sender_len}
use Rattle.protocol.specs.States.{no_sender, opened_sender}
use Rattle.protocol.proofs.CauseTables.{open_exact}
use Rattle.sender.proofs.Outcomes.{opening, unopened, opened}
use Rattle.sender.proofs.calls.open.Goals as goal

module _ (s : Settings) (rows : List ℕ) (size : ℕ) (is-size : size ≡ sender_len s) (found : Answer)
    (is-found : found ≡ open_cause s size rows) where
  looked : open_cause s (sender_len s) rows ≡ found
  looked = sym (is-found ∙ ap (λ (n : ℕ). open_cause s n rows) is-size)

  refused : (c : Cause) → found ≡ Err c → record { answer = Err c; sender = no_sender; rows = rows } ≡ open_sender_of s rows
  refused c e = unopened s rows c (looked ∙ e)

  taken : found ≡ Ok tt → (after : List ℕ) → after ≡ replicate (length rows) 0 → (x : Sender) → x ≡ opened_sender s
      → opening after x ≡ open_sender_of s rows
  taken none after zeros x is-opened =
      let exact = open_exact s (sender_len s) rows (looked ∙ none) in
      ap₂ opening (zeros ∙ ap (λ (n : ℕ). replicate n 0) exact) is-opened ∙ opened s rows (looked ∙ none)

pub returns-in-Err : goal.returns-in-Err
returns-in-Err c =
    ap (λ r. record { answer = r.answer; sender = r.state; rows = c.args.rows.now }) c.refused.ensures
    ∙ refused c.args.s c.args.rows.now _ c.sender_len.ensures _ c.open_cause.ensures _ c.in-Err.is

pub returns : goal.returns
returns c =
    taken c.args.s c.args.rows.now _ c.sender_len.ensures _ c.open_cause.ensures c.in_default.is _ c.clear.ensures _ c.opened_sender.ensures
