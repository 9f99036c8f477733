-- The number of each answer and of each reply. The papers give those of the causes, `number_of`, up to 15.
use Rattle.std.specs.Prelude.{◌≡◌, ℕ, Ok, Err}
use Rattle.protocol.specs.declared.Cause.{Cause}
use Rattle.protocol.specs.Answers.{Answer, Reply}
use Rattle.protocol.specs.declared.Told.TheVariants.{NoneYet, Whole, Lost, Clash}
use Rattle.protocol.specs.Causes.{number_of}

-- an opening's and a send's: 0 where it is accepted, else the cause's number
abbrev pub answer_number : Answer → ℕ
answer_number (Ok tt) = 0
answer_number (Err c) = number_of c

-- a report's: from 16 on where it is accepted, else the cause's number
abbrev pub reply_number : Reply → ℕ
reply_number (Err c) = number_of c
reply_number (Ok NoneYet) = 16
reply_number (Ok Whole) = 17
reply_number (Ok Lost) = 18
reply_number (Ok Clash) = 19

-- a number tells its case; so it is a cause's exactly where the call is refused for that cause
pub record NumbersTell : Type 0 where
  pub causes : (a b : Cause) → number_of a ≡ number_of b → a ≡ b
  pub answers : (a b : Answer) → answer_number a ≡ answer_number b → a ≡ b
  pub replies : (a b : Reply) → reply_number a ≡ reply_number b → a ≡ b
