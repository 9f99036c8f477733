-- What a step leaves in the buffers that it is lent.
use Rattle.std.specs.Prelude.{Bool, List, ℕ, length}
use Rattle.lines.specs.Text.{written}
use Rattle.progress.specs.declared.Player.{Player}
use Rattle.progress.specs.declared.Progress.{Progress}
use Rattle.reporting.specs.Acts.{Act}

-- how far playing on came, and every lent list after it
pub record Outcome : Type 0 where
  pub player : Player
  pub rows : List ℕ
  pub message : List ℕ
  pub out : List ℕ
  pub len : ℕ
  pub over : Bool

-- what a call gives back and leaves
abbrev pub outcome : Progress → List ℕ → List ℕ → List ℕ → Outcome
outcome r rows message out =
    record { player = r.player; rows = rows; message = message; out = out; len = r.len; over = r.over }

-- what is printed stands over the start of the lent buffer; the rest of it stays as it is
unfoldable pub printed_on : List ℕ → Act → Outcome
printed_on out a =
    record {
      player = a.player;
      rows = a.rows;
      message = a.message;
      out = written a.text out;
      len = length a.text;
      over = a.over;
    }
