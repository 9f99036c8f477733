-- The length of what is lent.
use mathlib.Core.Path.{◌∙◌, ap}
use lib.ListN.{length}
use Rattle.code.specs.declared.settings.Settings.{Settings}
use Rattle.aerials.specs.Parts.{bytes_of, join_of}
use Rattle.measured.specs.Timed.{joined_len}
use Rattle.measured.proofs.joined_len.Goals as goal

pub returns : goal.returns
unfolding joined_len
returns c =
    ap length c.join.ensures.bytes
    ∙ ap (λ (s : Settings). length (bytes_of c.args.first.now c.args.second.now (join_of s c.args.first.now c.args.second.now c.args.slot)))
    c.settings_at.ensures
