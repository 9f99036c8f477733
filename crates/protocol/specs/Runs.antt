-- Demand 3, of the calls that a program makes: each is given by what it got and what it left, and meets what its contract ensures.
use Rattle.std.specs.Prelude.{◌≡◌, ℕ}
use mathlib.Core.List.{List, [], ◌∷◌, map, Memᴰ}
use Rattle.galois.specs.Byte.{Bytes}
use Rattle.code.specs.declared.settings.Settings.{Settings}
use Rattle.protocol.specs.declared.Sender.{Sender}
use Rattle.protocol.specs.declared.Receiver.{Receiver}
use Rattle.protocol.specs.Numbers.{answer_number}
use Rattle.protocol.specs.Calls.{OpenedSender, open_sender_of, send_of, OpenedReceiver, open_receiver_of}
use Rattle.protocol.specs.TwoLists.{Send, SendMade, sends, Report, report_of, ReportMade, reports}
use Rattle.protocol.specs.Claim.{Faithful, Holds}

-- what the contract of a send ensures, and those of both reports
abbrev pub SendEnsured : SendMade → Type 0
SendEnsured m = m.after ≡ send_of m.before m.rows m.call.message m.call.frame

abbrev pub ReportEnsured : ReportMade → Type 0
ReportEnsured m = m.after ≡ report_of m.before m.rows m.call

-- calls one after another: each got the state and rows as the call before it, at first the opening, returned or left them
pub data SenderRun : Sender → List ℕ → List SendMade → Type 0 where
  ended : {x : Sender} {rows : List ℕ} → SenderRun x rows []
  called : {x : Sender} {rows : List ℕ} {m : SendMade} {later : List SendMade}
      → m.before ≡ x → m.rows ≡ rows → SendEnsured m → SenderRun m.after.sender m.after.rows later
      → SenderRun x rows (m ∷ later)

pub data ReceiverRun : Receiver → List ℕ → List ReportMade → Type 0 where
  ended : {x : Receiver} {rows : List ℕ} → ReceiverRun x rows []
  called : {x : Receiver} {rows : List ℕ} {m : ReportMade} {later : List ReportMade}
      → m.before ≡ x → m.rows ≡ rows → ReportEnsured m → ReceiverRun m.after.receiver m.after.rows later
      → ReceiverRun x rows (m ∷ later)

-- such calls after an opening that was lent some rows and accepted, a receiver's at some slot
pub record SenderOpened (s : Settings) (sent : List SendMade) : Type 0 where
  pub lent : List ℕ
  pub opened : OpenedSender
  pub ensured : opened ≡ open_sender_of s lent
  pub accepted : answer_number opened.answer ≡ 0
  pub run : SenderRun opened.sender opened.rows sent

pub record ReceiverOpened (s : Settings) (opening : ℕ) (told : List ReportMade) : Type 0 where
  pub lent : List ℕ
  pub opened : OpenedReceiver
  pub ensured : opened ≡ open_receiver_of s opening lent
  pub accepted : answer_number opened.answer ≡ 0
  pub run : ReceiverRun opened.receiver opened.rows told

-- a run is the list that `sends` or `reports` gives for its calls, and each such list is a run
pub record RunsAreLists : Type 0 where
  pub sender_list : (x : Sender) (rows : List ℕ) (sent : List SendMade) → SenderRun x rows sent
      → sent ≡ sends x rows (map (λ m. m.call) sent)
  pub list_sender : (x : Sender) (rows : List ℕ) (calls : List Send) → SenderRun x rows (sends x rows calls)
  pub receiver_list : (x : Receiver) (rows : List ℕ) (told : List ReportMade) → ReceiverRun x rows told
      → told ≡ reports x rows (map (λ m. m.call) told)
  pub list_receiver : (x : Receiver) (rows : List ℕ) (calls : List Report) → ReceiverRun x rows (reports x rows calls)

-- so demand 3 holds of any two runs from accepted openings with the same settings, each accepted frame being the sender's
unfoldable pub Demand3Runs : Type 0
Demand3Runs =
    (s : Settings) (opening : ℕ) (sent : List SendMade) (told : List ReportMade) → SenderOpened s sent → ReceiverOpened s opening told
    → ((m : SendMade) → Memᴰ m sent → Bytes m.call.message) → Faithful sent told → Holds s opening sent told
