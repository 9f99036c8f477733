-- Document 02 §6, as one statement about any list of sends, and any list of reports and look-ups mixed, the receiver being opened at any
-- slot: what is whole stays whole, it is said as early as it can be known, and it is what was sent.
use Rattle.std.specs.Prelude.{◌≡◌, ℕ, ◌+◌, ◌-◌, ◌≤◌, ◌<◌, T, ℤ, pos, length, Ok}
use mathlib.Core.List.{List, ◌∷◌, Memᴰ}
use Rattle.galois.specs.Byte.{Bytes}
use Rattle.code.specs.declared.settings.Settings.{Settings}
use Rattle.code.specs.Settings.{accepted, delay_of, k_of, n_of}
use Rattle.code.specs.Word.{OfWord, word_at}
use Rattle.protocol.specs.declared.Receiver.{Receiver}
use Rattle.protocol.specs.declared.Told.TheVariants.{Whole, Clash}
use Rattle.protocol.specs.Lengths.{last_slot, sender_len, receiver_len}
use Rattle.protocol.specs.Calls.{OpenedSender, open_sender_of, OpenedReceiver, open_receiver_of, Looked, look_up_of}
use Rattle.protocol.specs.TwoLists.{Send, SendMade, sends, Report, ReportMade, reports}
use Rattle.protocol.specs.Histories.{SentAs, accepts, Heard, of_loss}
use Rattle.protocol.specs.Meaning.{symbol_in}
use Rattle.protocol.specs.Claim.{Faithful, Holds}
use Rattle.early.specs.Mixed.{Call, report, look_up, CallMade, calls, reports_in}

-- ---- calls that tell of a message

-- a call in this slot due is for message t: a look-up of it, or the report of its last slot
abbrev pub IsFor : Settings → ℕ → ℕ → Call → Type 0
IsFor s t due (look_up number message) = number ≡ pos t
IsFor s t due (report call) = due ≡ t + delay_of s

-- it is one of those made, is for message t, and was not refused
pub record Telling (s : Settings) (made : List CallMade) (t : ℕ) (m : CallMade) : Type 0 where
  pub listed : Memᴰ m made
  pub taken : T (accepts m.after.reply)
  pub for_it : IsFor s t m.before.due m.call

-- the slots below this one are reported when it returns
abbrev pub reported_to : CallMade → ℕ
reported_to m = m.after.receiver.due

-- b comes later in the list than a
pub data Later {A : Type 0} (a b : A) : List A → Type 0 where
  after : {rest : List A} → Memᴰ b rest → Later a b (a ∷ rest)
  further : {m : A} {rest : List A} → Later a b rest → Later a b (m ∷ rest)

-- ---- words that agree

-- the word fits what was reported in the slots below due of the codeword of lane v that starts at slot t - i; `heard` says which frame was
-- heard in a slot. Its position p travels in slot t + p - i: before slot 0 it is 0, and from there on it is that of the frame
pub record FitsSoFar (s : Settings) (heard : ℕ → List ℕ → Type 0) (due t i v : ℕ) (u : ℕ → ℕ) : Type 0 where
  pub is_word : OfWord u
  pub before : (p : ℕ) → p < n_of s → t + p < i → word_at s u p ≡ 0
  pub since : (p : ℕ) (frame : List ℕ) → p < n_of s → i ≤ t + p → t + p < due + i → heard (t + p - i) frame
      → word_at s u p ≡ symbol_in s frame p v

-- all words that do agree on message t
unfoldable pub Agree : Settings → (ℕ → List ℕ → Type 0) → ℕ → ℕ → Type 0
Agree s heard due t =
    (i v : ℕ) → i < k_of s → v < s.lanes → (u w : ℕ → ℕ) → FitsSoFar s heard due t i v u → FitsSoFar s heard due t i v w
    → word_at s u i ≡ word_at s w i

-- ---- what holds of the lists

-- both ends being opened with the settings s, and the receiver at the slot `opening`, of the sends made and the calls made
pub record Early (s : Settings) (opening : ℕ) (sent : List SendMade) (made : List CallMade) : Type 0 where
  -- demand 3, of the reports among the calls
  pub demand3 : Holds s opening sent (reports_in made)
  -- once whole a message stays whole with the same bytes: in every later look-up of it that is not refused, and in the report of its
  -- last slot
  pub stays : (t : ℕ) (a b : CallMade) → Telling s made t a → Telling s made t b → Later a b made → a.after.reply ≡ Ok Whole
      → (b.after.reply ≡ Ok Whole) × (b.after.message ≡ a.after.message)
  -- whole is said only where all words that fit what was reported so far agree on the message, and from the first slot on at which they do
  pub as_early : (t : ℕ) (a : CallMade) → Telling s made t a
      → (a.after.reply ≡ Ok Whole → Agree s (Heard (reports_in made)) (reported_to a) t)
      × ((first : ℕ) → first ≤ reported_to a → Agree s (Heard (reports_in made)) first t → a.after.reply ≡ Ok Whole)
  -- so it is said of every message whose own slot was heard
  pub once_heard : (t : ℕ) (a : CallMade) (frame : List ℕ) → Telling s made t a → Heard (reports_in made) t frame
      → a.after.reply ≡ Ok Whole
  -- what is whole was sent, with these bytes
  pub as_sent : (t : ℕ) (a : CallMade) → Telling s made t a → a.after.reply ≡ Ok Whole
      → (message : List ℕ) × (frame : List ℕ) × SentAs sent t message frame × (a.after.message ≡ message)
  -- and nothing clashes
  pub no_clash : (t : ℕ) (a : CallMade) → Telling s made t a → a.after.reply ≡ Ok Clash → ⊥

-- any opening slot up to the last one, any rows lent to accepted openings, any list of sends of bytes, any list of reports and look-ups,
-- frames being the sender's own
unfoldable pub EarlyKnown : Type 0
EarlyKnown =
    (s : Settings) → T (accepted s) → (opening : ℕ) → opening ≤ last_slot
    → (sender_rows receiver_rows : List ℕ) → length sender_rows ≡ sender_len s → length receiver_rows ≡ receiver_len s
    → (send_calls : List Send) → ((c : Send) → Memᴰ c send_calls → Bytes c.message)
    → (receiver_calls : List Call)
    → let a : OpenedSender = open_sender_of s sender_rows in
    let b : OpenedReceiver = open_receiver_of s opening receiver_rows in
    let sent : List SendMade = sends a.sender a.rows send_calls in
    let made : List CallMade = calls b.receiver b.rows receiver_calls in
    Faithful sent (reports_in made) → Early s opening sent made

-- ---- later slots as losses

-- what an accepted look-up of message t tells, by any receiver and any rows: let the slots from the slot due on all be reported as
-- lost, and the report of slot t + T tells the same
unfoldable pub LaterLost : Type 0
LaterLost =
    (x : Receiver) (rows : List ℕ) (number : ℤ) (message : List ℕ)
    → let r : Looked = look_up_of x rows number message in
    T (accepts r.reply) → (t : ℕ) → number ≡ pos t
    → (losses : List Report) → ((c : Report) → Memᴰ c losses → T (of_loss c))
    → (m : ReportMade) → Memᴰ m (reports x rows losses) → T (accepts m.after.reply) → m.before.due ≡ t + delay_of x.settings
    → (m.after.reply ≡ r.reply) × (m.after.message ≡ r.message)
