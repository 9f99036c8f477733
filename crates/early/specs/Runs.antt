-- The same of the calls that a program makes: each is given by what it got and what it left, and meets what its contract ensures.
use Rattle.std.specs.Prelude.{◌≡◌, ℕ}
use mathlib.Core.List.{List, [], ◌∷◌, Memᴰ}
use Rattle.galois.specs.Byte.{Bytes}
use Rattle.code.specs.declared.settings.Settings.{Settings}
use Rattle.protocol.specs.declared.Receiver.{Receiver}
use Rattle.protocol.specs.Numbers.{answer_number}
use Rattle.protocol.specs.Calls.{OpenedReceiver, open_receiver_of}
use Rattle.protocol.specs.TwoLists.{SendMade}
use Rattle.protocol.specs.Claim.{Faithful}
use Rattle.protocol.specs.Runs.{SenderOpened}
use Rattle.early.specs.Mixed.{call_of, CallMade, reports_in}
use Rattle.early.specs.Early.{Early}

-- what the contract of a report ensures, or that of a look-up, which is lent the state and rows to read alone
abbrev pub CallEnsured : CallMade → Type 0
CallEnsured m = m.after ≡ call_of m.before m.rows m.call

-- calls one after another: each got the state and rows as the call before it, at first the opening, returned or left them
pub data CallsRun : Receiver → List ℕ → List CallMade → Type 0 where
  ended : {x : Receiver} {rows : List ℕ} → CallsRun x rows []
  called : {x : Receiver} {rows : List ℕ} {m : CallMade} {later : List CallMade}
      → m.before ≡ x → m.rows ≡ rows → CallEnsured m → CallsRun m.after.receiver m.after.rows later
      → CallsRun x rows (m ∷ later)

-- such calls after an opening at this slot that was lent some rows and accepted
pub record CallsOpened (s : Settings) (opening : ℕ) (made : List CallMade) : Type 0 where
  pub lent : List ℕ
  pub opened : OpenedReceiver
  pub ensured : opened ≡ open_receiver_of s opening lent
  pub accepted : answer_number opened.answer ≡ 0
  pub run : CallsRun opened.receiver opened.rows made

-- any run of sends and any run of reports and look-ups, from accepted openings with the same settings, frames being the sender's own
unfoldable pub EarlyRuns : Type 0
EarlyRuns =
    (s : Settings) (opening : ℕ) (sent : List SendMade) (made : List CallMade) → SenderOpened s sent → CallsOpened s opening made
    → ((m : SendMade) → Memᴰ m sent → Bytes m.call.message) → Faithful sent (reports_in made) → Early s opening sent made
