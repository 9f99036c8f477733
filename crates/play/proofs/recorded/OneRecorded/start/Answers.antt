-- A recording that is played has accepted settings.
use Rattle.std.specs.Prelude.{Option, Some, None, Ok, IfSome}
use Rattle.std.proofs.Common.{◌≡◌, ℕ, List, sym, ◌∙◌}
use lib.Dec.{T}
use Rattle.code.specs.declared.settings.Settings.{Settings}
use Rattle.code.specs.Settings.{accepted}
use Rattle.stops.specs.Stops.{start_of}
use Rattle.stops.proofs.StartLaws.{play_accepted}
use Rattle.play.proofs.recorded.OneRecorded.start.Goals as goal

started : (recording : List ℕ) (o : Option Settings) → start_of recording ≡ Ok o → IfSome o (λ s. T (accepted s) × Unit {0})
started recording None is = tt
started recording (Some s) is = (play_accepted recording s is, tt)

pub returns : goal.returns
returns c = started c.args.self.now.0.now _ (sym c.examine.ensures ∙ c.in_ok-examine.was)
