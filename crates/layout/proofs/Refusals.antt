-- Which numbers are those of a call that was accepted.
use Rattle.std.specs.Prelude.{Ok, Err}
use mathlib.Core.Path.{◌≡◌, refl, sym, ap, ◌∙◌}
use mathlib.Core.Bool.{true, false}
use Rattle.protocol.specs.declared.Cause.{Cause}
use Rattle.protocol.specs.declared.Cause.TheVariants.{BadSettings, BadLength, PastLastSlot, OtherMark, OtherSettings, OtherSlot}
use Rattle.protocol.specs.declared.Cause.TheVariants.{LateOpening, OutOfReach}
use Rattle.protocol.specs.Answers.{Answer, Reply}
use Rattle.protocol.specs.declared.Told.TheVariants.{NoneYet, Whole, Lost, Clash}
use Rattle.protocol.specs.Causes.{number_of}
use Rattle.protocol.specs.Claim.{accepts}
use Rattle.protocol.specs.Numbers.{answer_number, reply_number}
use Rattle.layout.specs.Numbers.{acceptance}

-- no cause's
pub cause_refused : (c : Cause) → acceptance (number_of c) ≡ false
cause_refused BadSettings = refl
cause_refused BadLength = refl
cause_refused PastLastSlot = refl
cause_refused OtherMark = refl
cause_refused OtherSettings = refl
cause_refused OtherSlot = refl
cause_refused LateOpening = refl
cause_refused OutOfReach = refl

-- of a report's, those that are no refusal
pub reply_accepted : (r : Reply) → acceptance (reply_number r) ≡ accepts r
reply_accepted (Err c) = cause_refused c
reply_accepted (Ok NoneYet) = refl
reply_accepted (Ok Whole) = refl
reply_accepted (Ok Lost) = refl
reply_accepted (Ok Clash) = refl

-- and an opening or a send that replies 0 was accepted
pub answer_accepted : (a : Answer) → answer_number a ≡ answer_number (Ok tt) → a ≡ Ok tt
answer_accepted (Ok tt) e = refl
answer_accepted (Err c) e = let z : true ≡ false = ap acceptance (sym e) ∙ cause_refused c in cc
