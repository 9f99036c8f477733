-- A refused report, after which nothing is played.
use Rattle.std.specs.Prelude.{Bool, is_err}
use Rattle.protocol.specs.Answers.{Reply}

-- whether a report was refused
abbrev pub refuses : Reply → Bool
refuses = is_err
