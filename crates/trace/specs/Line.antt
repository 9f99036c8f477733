-- The parts of a line, each with a space before it.
use Rattle.std.specs.Prelude.{List, ℕ, ◌∷◌, ◌++◌, Result, Ok, Err, codes, decimal}
use Rattle.code.specs.declared.settings.Settings.{Settings}
use Rattle.protocol.specs.declared.Cause.{Cause}
use Rattle.protocol.specs.declared.Told.{Told}
use Rattle.protocol.specs.declared.Told.TheVariants.{NoneYet, Whole, Lost, Clash}
use Rattle.protocol.specs.Causes.{number_of}

-- a number
abbrev pub number_text : ℕ → List ℕ
number_text n = 32 ∷ decimal n

-- the five settings
abbrev pub settings_text : Settings → List ℕ
settings_text s = number_text s.window ++ number_text s.delay ++ number_text s.burst ++ number_text s.scattered ++ number_text s.lanes

-- what a report tells
abbrev pub told_text : Told → List ℕ
told_text NoneYet = codes " none"
told_text Whole = codes " whole"
told_text Lost = codes " lost"
told_text Clash = codes " clash"

-- the outcome of a report
abbrev pub reply_text : Result Told Cause → List ℕ
reply_text (Ok told) = told_text told
reply_text (Err cause) = number_text (number_of cause)
