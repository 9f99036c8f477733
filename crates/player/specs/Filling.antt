-- Filling a buffer: the lines of the steps, one after another, until the longest may not fit into what is left of it, or the end.
use Rattle.std.specs.Prelude.{true, false, List, [], ◌++◌, ℕ, zero, suc, ◌+◌, ◌-◌, ◌*◌, ltb, length}
use Rattle.lines.specs.Lent.{longest}
use Rattle.progress.specs.declared.Player.{Player}
use Rattle.reporting.specs.Acts.{Act}
use Rattle.steps.specs.Steps.{act_of}
use Rattle.reporting.specs.Outcomes.{Outcome, printed_on}

-- ---- several steps as one

-- no step: nothing is printed, and everything stays as it is
unfoldable pub no_act : Player → List ℕ → List ℕ → Act
no_act p rows message = record { player = p; rows = rows; message = message; text = []; over = false }

-- a text that was printed before
unfoldable pub after : List ℕ → Act → Act
after text a =
    record { player = a.player; rows = a.rows; message = a.message; text = text ++ a.text; over = a.over }

-- the lines of at most m steps, one after another, while there is room for the longest, up to the step that is the last
unfoldable pub steps_within : ℕ → List ℕ → ℕ → Player → List ℕ → List ℕ → Act
steps_within zero recording room p rows message = no_act p rows message
steps_within (suc m) recording room p rows message =
    let a : Act = act_of p recording rows message in
    elim (ltb room (longest message)) [
      | true ↦ no_act p rows message
      | false ↦ elim a.over [
        | true ↦ a
        | false ↦ after a.text (steps_within m recording (room - length a.text) a.player a.rows a.message)
      ]
    ]

-- more steps than any player has left: a frame takes bytes of the recording, and skips at most 4,095 slots
unfoldable pub enough_steps : List ℕ → ℕ
enough_steps recording = (length recording + 1) * 4097

-- the steps that this room is filled by
unfoldable pub gathered : List ℕ → ℕ → Player → List ℕ → List ℕ → Act
gathered recording = steps_within (enough_steps recording) recording

-- ---- in a lent buffer

-- the buffer is filled; if it has no room for the longest line nothing changes
unfoldable pub filled_of : Player → List ℕ → List ℕ → List ℕ → List ℕ → Outcome
filled_of p recording rows message out = printed_on out (gathered recording (length out) p rows message)
