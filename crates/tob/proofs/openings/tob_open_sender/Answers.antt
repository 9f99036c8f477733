-- A cause that the settings or the state give refuses the opening; else it is protocol's.
use mathlib.Core.Path.{ap, ap₂, ◌∙◌}
use mathlib.Core.List.{List}
use Prim.Native.Nat.{ℕ}
use Rattle.code.specs.declared.settings.Settings.{Settings}
use Rattle.protocol.specs.Calls.{open_sender_of}
use Rattle.state.specs.State.{saved}
use Rattle.protocol.specs.Histories.{is_accepted}
use Rattle.library.specs.Calls.{Opening}
use Rattle.library.proofs.Outcomes.{sender_left, sender_caused, sender_uncaused}
use Rattle.tob.proofs.Passed.{opening_found, opening_sized}
use Rattle.tob.proofs.openings.tob_open_sender.Goals as goal

abbrev outcome : List ℕ → ℕ → List ℕ → Opening
outcome rows reply state = record { reply = reply; state = state; rows = rows }

pub returns-in-Err : goal.returns-in-Err
returns-in-Err c =
    ap (λ (n : ℕ). outcome c.args.rows.now n c.args.state.now) c.from.ensures
    ∙ sender_caused c.args.settings.now c.args.state.now c.args.rows.now _
    (opening_found c.args.settings.now _ _ _ c.settings_at-s.ensures c.open_cause.ensures _ c.in-Err.is)

pub save_answer-requires : goal.save_answer-requires
save_answer-requires c =
    opening_sized c.args.settings.now _ _ _ c.settings_at-s.ensures c.open_cause.ensures c.in_default.is

pub returns : goal.returns
returns c =
    ap₂ (outcome _) c.save_answer.ensures.number
    (c.save_answer.ensures.state
    ∙ ap (λ (bytes : List ℕ). saved (is_accepted c.open-r.result.answer) bytes c.args.state.now) c.sender_bytes.ensures)
    ∙ ap (sender_left c.args.state.now)
    (c.open-r.ensures ∙ ap (λ (s : Settings). open_sender_of s c.args.rows.now) c.settings_at-s.ensures)
    ∙ sender_uncaused c.args.settings.now c.args.state.now c.args.rows.now
    (opening_found c.args.settings.now _ _ _ c.settings_at-s.ensures c.open_cause.ensures _ c.in_default.is)
