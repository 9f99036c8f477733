-- Document 02 §6 of the static library, as one statement about lists of its calls, reports and look-ups mixed, in what its callers see:
-- lent bytes and reply numbers. It is `EarlyKnown` of early's specs/Early.antt, line by line.
use Rattle.std.specs.Prelude.{◌≡◌, ℕ, ◌≤◌, T, length, Ok}
use mathlib.Core.List.{List, Memᴰ}
use Rattle.galois.specs.Byte.{Bytes}
use Rattle.code.specs.declared.settings.Settings.{Settings}
use Rattle.code.specs.Settings.{accepted}
use Rattle.protocol.specs.declared.Told.TheVariants.{Whole, Clash}
use Rattle.protocol.specs.Lengths.{last_slot, sender_len, receiver_len}
use Rattle.protocol.specs.Numbers.{reply_number}
use Rattle.protocol.specs.TwoLists.{Send, heard}
use Rattle.early.specs.Mixed.{Call}
use Rattle.early.specs.Early.{IsFor, Later, Agree}
use Rattle.state.specs.State.{state_len}
use Rattle.layout.specs.Numbers.{acceptance}
use Rattle.library.specs.Calls.{settings_of, Opening, open_sender_bytes, open_receiver_bytes}
use Rattle.library.specs.Chains.{SendDone, sends_bytes, ReportDone, due_after_call, CallDone, calls_bytes, reports_in_bytes}
use Rattle.library.specs.Claim.{SentAsBytes, FaithfulBytes, HoldsBytes}

-- slot t was heard, by an accepted report of this frame
pub record HeardBytes (told : List ReportDone) (t : ℕ) (frame : List ℕ) : Type 0 where
  pub report : ReportDone
  pub listed : Memᴰ report told
  pub passed : T (acceptance report.after.reply)
  pub slot : report.due ≡ t
  pub message : List ℕ
  pub called : report.call ≡ heard frame message

-- the call is one of those made, is for message t, and was not refused
pub record TellingBytes (s : Settings) (made : List CallDone) (t : ℕ) (b : CallDone) : Type 0 where
  pub listed : Memᴰ b made
  pub taken : T (acceptance b.after.reply)
  pub for_it : IsFor s t b.due b.call

-- the slots below this one are reported when it returns
abbrev pub reported_to_bytes : CallDone → ℕ
reported_to_bytes b = due_after_call b.due b.call b.after.reply

-- the reply is whole
abbrev pub SaysWhole : CallDone → Type 0
SaysWhole b = b.after.reply ≡ reply_number (Ok Whole)

-- what holds of two lists whose openings had the settings s, the receiver's being at the slot `opening`
pub record EarlyBytes (s : Settings) (opening : ℕ) (sent : List SendDone) (made : List CallDone) : Type 0 where
  -- demand 3, of the reports among the calls
  pub demand3 : HoldsBytes s opening sent (reports_in_bytes made)
  -- once whole a message stays whole with the same bytes
  pub stays : (t : ℕ) (a b : CallDone) → TellingBytes s made t a → TellingBytes s made t b → Later a b made → SaysWhole a
      → SaysWhole b × (b.after.message ≡ a.after.message)
  -- whole is said only where all words that fit what was reported so far agree on the message, and from the first slot on at which they do
  pub as_early : (t : ℕ) (a : CallDone) → TellingBytes s made t a
      → (SaysWhole a → Agree s (HeardBytes (reports_in_bytes made)) (reported_to_bytes a) t)
      × ((first : ℕ) → first ≤ reported_to_bytes a → Agree s (HeardBytes (reports_in_bytes made)) first t → SaysWhole a)
  -- so it is said of every message whose own slot was heard
  pub once_heard : (t : ℕ) (a : CallDone) (frame : List ℕ) → TellingBytes s made t a → HeardBytes (reports_in_bytes made) t frame
      → SaysWhole a
  -- what is whole was sent, with these bytes
  pub as_sent : (t : ℕ) (a : CallDone) → TellingBytes s made t a → SaysWhole a
      → (message : List ℕ) × (frame : List ℕ) × SentAsBytes sent t message frame × (a.after.message ≡ message)
  -- and nothing clashes
  pub no_clash : (t : ℕ) (a : CallDone) → TellingBytes s made t a → a.after.reply ≡ reply_number (Ok Clash) → ⊥

-- any settings bytes that are accepted, any opening slot up to the last one, any buffers of the exact length lent to both openings, any
-- list of sends of bytes, any list of reports and look-ups, frames being the sender's own
unfoldable pub EarlyKnownBytes : Type 0
EarlyKnownBytes =
    (settings : List ℕ) → T (accepted (settings_of settings)) → (opening : ℕ) → opening ≤ last_slot
    → (sender_state sender_rows receiver_state receiver_rows : List ℕ)
    → length sender_state ≡ state_len → length sender_rows ≡ sender_len (settings_of settings)
    → length receiver_state ≡ state_len → length receiver_rows ≡ receiver_len (settings_of settings)
    → (send_calls : List Send) → ((c : Send) → Memᴰ c send_calls → Bytes c.message)
    → (receiver_calls : List Call)
    → let a : Opening = open_sender_bytes settings sender_state sender_rows in
    let b : Opening = open_receiver_bytes settings opening receiver_state receiver_rows in
    let sent : List SendDone = sends_bytes 0 a.state a.rows send_calls in
    let made : List CallDone = calls_bytes opening b.state b.rows receiver_calls in
    FaithfulBytes sent (reports_in_bytes made) → EarlyBytes (settings_of settings) opening sent made
