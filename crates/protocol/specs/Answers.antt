-- What the calls answer: that they were accepted, and what they tell then, or the cause for which they say no.
use Rattle.std.specs.Prelude.{Result}
use Rattle.protocol.specs.declared.Cause.{Cause}
use Rattle.protocol.specs.declared.Told.{Told}

-- what an opening or a send answers; `answer_number` of specs/Numbers.antt has the numbers
abbrev pub Answer : Type 0
Answer = Result (Unit {0}) Cause

-- what a report or a look-up answers; `reply_number` of specs/Numbers.antt has the numbers
abbrev pub Reply : Type 0
Reply = Result Told Cause
