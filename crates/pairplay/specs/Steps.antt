-- A pair played in steps: how it starts, and one step as a function of the player, its rows and its message buffer.
use Rattle.std.specs.Prelude.{true, false, List, ℕ, ◌+◌, eqb, ltb, length, Option, Some, None, Result, Ok, Err}
use Rattle.code.specs.declared.settings.Settings.{Settings}
use Rattle.frames.specs.Fields.{settings_in}
use Rattle.aerials.specs.declared.PairCause.{PairCause}
use Rattle.aerials.specs.declared.PairCause.TheVariants.{BadLength}
use Rattle.aerials.specs.Causes.{Check}
use Rattle.aerials.specs.Pair.{pair_check}
use Rattle.aerials.specs.Parts.{bytes_of, part_of}
use Rattle.aerials.specs.Next.{next_of}
use Rattle.progress.specs.declared.Player.{Player}
use Rattle.reporting.specs.Acts.{Act, frame_act}
use Rattle.reporting.specs.Outcomes.{Outcome, printed_on}
use Rattle.steps.specs.Steps.{end_act}
use Rattle.pairplay.specs.Transcript.{shown_by}

-- the tests of a pair that is not empty, before any line: those of `pair_stop`, by their causes
unfoldable pub pair_tested : List ℕ → List ℕ → Check
pair_tested first second =
    let shown : List ℕ = shown_by first second in
    elim (ltb (length shown) 14) [ true ↦ Err BadLength | false ↦ pair_check (settings_in shown) first second ]

-- how a pair starts: with no settings where both recordings are empty, refused before any line, or played with these settings
unfoldable pub pair_start : List ℕ → List ℕ → Result (Option Settings) PairCause
pair_start first second =
    elim (eqb (length first + length second) 0) [
      | true ↦ Ok None
      | false ↦ elim (pair_tested first second) [ Ok nothing ↦ Ok (Some (settings_in (shown_by first second))) | Err c ↦ Err c ]
    ]

-- one step: at the part that is lent for the next slot, from the slot due on, that either has
unfoldable pub pair_act : Player → List ℕ → List ℕ → List ℕ → List ℕ → Act
pair_act p first second rows message =
    let s : Settings = p.receiver.settings in
    elim (next_of s first second p.receiver.due) [
      | None ↦ end_act p rows message
      | Some slot ↦ frame_act p (bytes_of first second (part_of s first second slot)) p.offset rows message
    ]

-- on a lent line
unfoldable pub pair_step_of : Player → List ℕ → List ℕ → List ℕ → List ℕ → List ℕ → Outcome
pair_step_of p first second rows message line = printed_on line (pair_act p first second rows message)
