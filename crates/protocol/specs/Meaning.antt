-- Demand 2, as statements with "there is a word" and "for all words": the frame that a send hands out (`Demand2Frame`), and what a report
-- tells of message t (`Demand2Verdict`). Document 02 §6, in the same words: what a look-up tells of it (`LookUpTells`).
use Rattle.std.specs.Prelude.{◌≡◌, ◌↔◌, ◌⊎◌, ℕ, ◌+◌, ◌-◌, ◌*◌, ◌%◌, ◌≤◌, ◌<◌, T, ℤ, pos, get_or, length, take, replicate}
use mathlib.Core.List.{List, Memᴰ}
use Rattle.galois.specs.Byte.{Bytes}
use Rattle.code.specs.declared.settings.Settings.{Settings}
use Rattle.code.specs.Settings.{accepted, delay_of, k_of, n_of}
use Rattle.code.specs.Word.{OfWord, word_at}
use Rattle.code.specs.Fitting.{Arrived, fits}
use Rattle.protocol.specs.declared.Sender.{Sender}
use Rattle.protocol.specs.declared.Receiver.{Receiver}
use Rattle.protocol.specs.Answers.{Reply}
use Rattle.protocol.specs.Lengths.{last_slot, message_len, frame_len, sender_len, row_len, row_count, receiver_len}
use Rattle.protocol.specs.Frame.{header, remembered}
use Rattle.protocol.specs.Codewords.{source}
use Rattle.protocol.specs.Rows.{put_row}
use Rattle.protocol.specs.Verdict.{arrived}
use Rattle.protocol.specs.Numbers.{answer_number, reply_number}
use Rattle.protocol.specs.Calls.{OpenedSender, open_sender_of, Sent, send_of, OpenedReceiver, open_receiver_of, Reported}
use Rattle.protocol.specs.Calls.{Looked, look_up_of}
use Rattle.protocol.specs.TwoLists.{Send, SendMade, sends, Report, report_of, row_of, ReportMade, reports}
use Rattle.protocol.specs.Histories.{SentAs, message_at, accepts, Heard}

-- ---- words

-- the first k symbols of the word are x
abbrev pub Begins : Settings → (ℕ → ℕ) → (ℕ → ℕ) → Type 0
Begins s x u = OfWord u × ((i : ℕ) → i < k_of s → word_at s u i ≡ x i)

-- the word fits what arrived of a codeword
abbrev pub Fitting : Settings → Arrived → (ℕ → ℕ) → Type 0
Fitting s a u = OfWord u × T (fits s a u)

-- there is such a word, and all such words have the byte b at position p
pub record Share (s : Settings) (Such : (ℕ → ℕ) → Type 0) (p b : ℕ) : Type 0 where
  pub word : ℕ → ℕ
  pub is_such : Such word
  pub all_have : (u : ℕ → ℕ) → Such u → word_at s u p ≡ b

-- ---- the frame

-- symbol p of lane v, where it stands in a frame
abbrev pub symbol_in : Settings → List ℕ → ℕ → ℕ → ℕ
symbol_in s frame p v = get_or frame (14 + (p * s.lanes + v)) 0

-- an accepted send of slot t, whatever the rows hold: the settings stay, the slot due moves on, message t is written over its row, and
-- the frame is the header and the symbols that travel in slot t: those of message t, then those of the words whose first k symbols are
-- the earlier messages' as the rows held them
pub record AcceptedSend (s : Settings) (t : ℕ) (rows message : List ℕ) (r : Sent) : Type 0 where
  pub moved : (r.sender.settings ≡ s) × (r.sender.due ≡ t + 1)
  pub written : r.rows ≡ put_row (message_len s) (t % (n_of s - 1)) message rows
  pub exact : length r.frame ≡ frame_len s
  pub headed : take 14 r.frame ≡ header 1 s t
  pub own : (p v : ℕ) → p < k_of s → v < s.lanes → symbol_in s r.frame p v ≡ get_or message (p * s.lanes + v) 0
  pub parity : Bytes rows → (p v : ℕ) → k_of s ≤ p → p < n_of s → v < s.lanes
      → Share s (Begins s (λ i. remembered s rows t (p - i) i v)) p (symbol_in s r.frame p v)

-- the frame of slot t by the messages: symbol p of lane v is that of the codeword which starts at slot t - p, the one word whose first
-- k symbols are the messages', zeros before slot 0
pub record FrameOfSlot (s : Settings) (messages : ℕ → List ℕ) (t : ℕ) (frame : List ℕ) : Type 0 where
  pub exact : length frame ≡ frame_len s
  pub headed : take 14 frame ≡ header 1 s t
  pub symbols : (p v : ℕ) → p < n_of s → v < s.lanes → Share s (Begins s (source s messages t p v)) p (symbol_in s frame p v)

-- demand 2, the sender: any accepted send; and after a fresh opening the rows hold the messages that were sent
pub record Demand2Frame : Type 0 where
  pub by_rows : (x : Sender) (rows message frame : List ℕ)
      → let r : Sent = send_of x rows message frame in
      answer_number r.answer ≡ 0 → AcceptedSend x.settings x.due rows message r
  pub by_messages : (s : Settings) → T (accepted s) → (rows : List ℕ) → length rows ≡ sender_len s
      → (calls : List Send) → ((c : Send) → Memᴰ c calls → Bytes c.message)
      → let a : OpenedSender = open_sender_of s rows in
      let sent : List SendMade = sends a.sender a.rows calls in
      (t : ℕ) (message frame : List ℕ) → SentAs sent t message frame → FrameOfSlot s (message_at sent) t frame

-- ---- what arrived

-- Message t is carried by the codewords of lane v, below L, that start at slot t - i, for i below k: its symbol i is theirs. What
-- arrived of each of them is given by i and v. A codeword's position p travels in slot t + p - i, and what arrived by slot t + T is what
-- the rows say of the slots below t + T + 1.
abbrev pub in_time : Settings → List ℕ → ℕ → ℕ → ℕ → Arrived
in_time s rows t = arrived s rows (t + delay_of s + 1) t

-- some codeword that carries the message has no word that fits
pub record SomeClash (s : Settings) (what : ℕ → ℕ → Arrived) : Type 0 where
  pub symbol : ℕ
  pub lane : ℕ
  pub symbol_below : symbol < k_of s
  pub lane_below : lane < s.lanes
  pub none_fits_lem : (u : ℕ → ℕ) → Fitting s (what symbol lane) u → ⊥

-- two fitting words of some codeword differ in the message
pub record SomeLost (s : Settings) (what : ℕ → ℕ → Arrived) : Type 0 where
  pub symbol : ℕ
  pub lane : ℕ
  pub symbol_below : symbol < k_of s
  pub lane_below : lane < s.lanes
  pub one : ℕ → ℕ
  pub other : ℕ → ℕ
  pub one_fits : Fitting s (what symbol lane) one
  pub other_fits : Fitting s (what symbol lane) other
  pub they_differ : word_at s one symbol ≡ word_at s other symbol → ⊥

-- the fitting words of each codeword share the message's byte
abbrev pub AllShare : Settings → (ℕ → ℕ → Arrived) → (ℕ → ℕ → ℕ) → Type 0
AllShare s what byte = (i v : ℕ) → i < k_of s → v < s.lanes → Share s (Fitting s (what i v)) i (byte i v)

-- ---- the report

-- a reply and its message buffer tell of a message by what arrived of its codewords: 19 is clash, else 18 lost, else 17 whole, with the
-- bytes that they share
pub record Tells (s : Settings) (what : ℕ → ℕ → Arrived) (reply : Reply) (message : List ℕ) : Type 0 where
  pub clash : (reply_number reply ≡ 19) ↔ SomeClash s what
  pub lost : (reply_number reply ≡ 18) ↔ ((SomeClash s what → ⊥) × SomeLost s what)
  pub whole : (reply_number reply ≡ 17) ↔ ((SomeClash s what → ⊥) × (SomeLost s what → ⊥))
  pub shared : reply_number reply ≡ 17 → AllShare s what (λ i v. get_or message (i * s.lanes + v) 0)

-- an accepted report of slot due, whatever the rows say: the settings and the opening slot stay, the slot due moves on, its row is
-- written, 16, "none yet", is told exactly below slot T, the message buffer has its length, and zeros unless the message is whole
pub record AcceptedReport (s : Settings) (opening due : ℕ) (rows : List ℕ) (call : Report) (r : Reported) : Type 0 where
  pub moved : (r.receiver.settings ≡ s) × (r.receiver.opening ≡ opening) × (r.receiver.due ≡ due + 1)
  pub written : r.rows ≡ put_row (row_len s) (due % row_count s) (row_of s call) rows
  pub none_yet : (reply_number r.reply ≡ 16) ↔ (due < delay_of s)
  pub tells : (t : ℕ) → due ≡ t + delay_of s → Tells s (in_time s r.rows t) r.reply r.message
  pub exact : length r.message ≡ message_len s
  pub zeros : (reply_number r.reply ≡ 17 → ⊥) → r.message ≡ replicate (message_len s) 0

-- position p of the codeword of lane v that starts at slot t - i came as this byte: 0 before slot 0, else that of the frame which was
-- heard in its slot
pub data Came (s : Settings) (told : List ReportMade) (t i v p : ℕ) : ℕ → Type 0 where
  early : t + p < i → Came s told t i v p 0
  heard : (frame : List ℕ) → i ≤ t + p → Heard told (t + p - i) frame → Came s told t i v p (symbol_in s frame p v)

-- what arrived by slot t + T is the true history: position p is known, with this byte, exactly if its slot is at most t + T and it came so
abbrev pub TrueHistory : Settings → List ReportMade → ℕ → (ℕ → ℕ → Arrived) → Type 0
TrueHistory s told t what =
    (i v p byte : ℕ) → i < k_of s → v < s.lanes → p < n_of s
    → (T ((what i v).known p) × ((what i v).byte p ≡ byte)) ↔ ((p ≤ i + delay_of s) × Came s told t i v p byte)

-- demand 2, the receiver: any accepted report; and after a fresh opening at any slot the rows say the true history
pub record Demand2Verdict : Type 0 where
  pub by_rows : (x : Receiver) (rows : List ℕ) (call : Report)
      → let r : Reported = report_of x rows call in
      T (accepts r.reply) → AcceptedReport x.settings x.opening x.due rows call r
  pub by_history : (s : Settings) → T (accepted s) → (opening : ℕ) → opening ≤ last_slot
      → (rows : List ℕ) → length rows ≡ receiver_len s → (calls : List Report)
      → let b : OpenedReceiver = open_receiver_of s opening rows in
      let told : List ReportMade = reports b.receiver b.rows calls in
      (r : ReportMade) → Memᴰ r told → T (accepts r.after.reply) → (t : ℕ) → r.before.due ≡ t + delay_of s
      → TrueHistory s told t (in_time s r.after.rows t)

-- ---- the look-up

-- an accepted look-up of message t, whatever the rows say: it tells by what arrived in the slots below due, and of no other; the message
-- buffer has its length, and zeros unless the message is whole
pub record AcceptedLookUp (s : Settings) (due t : ℕ) (rows : List ℕ) (r : Looked) : Type 0 where
  pub tells : Tells s (arrived s rows due t) r.reply r.message
  pub told : (reply_number r.reply ≡ 17) ⊎ ((reply_number r.reply ≡ 18) ⊎ (reply_number r.reply ≡ 19))
  pub exact : length r.message ≡ message_len s
  pub zeros : (reply_number r.reply ≡ 17 → ⊥) → r.message ≡ replicate (message_len s) 0

-- the number is in reach of a look-up: it is that of message t, from 0 on, whose own slot is past, and slot t + T is not
abbrev pub InReach : Settings → ℕ → ℤ → ℕ → Type 0
InReach s due number t = (number ≡ pos t) × (t < due) × (due ≤ t + delay_of s)

-- document 02 §6: a look-up is accepted exactly if none of causes 1 to 3 holds and the number is in reach, and then it tells of that
-- message
pub record LookUpTells : Type 0 where
  pub taken : (x : Receiver) (rows : List ℕ) (number : ℤ) (message : List ℕ)
      → let s = x.settings in
      T (accepts (look_up_of x rows number message).reply)
      ↔ (T (accepted s) × (length rows ≡ receiver_len s) × (length message ≡ message_len s) × (x.due ≤ last_slot)
      × ((t : ℕ) × InReach s x.due number t))
  pub by_rows : (x : Receiver) (rows : List ℕ) (number : ℤ) (message : List ℕ)
      → let r : Looked = look_up_of x rows number message in
      T (accepts r.reply) → (t : ℕ) → number ≡ pos t → AcceptedLookUp x.settings x.due t rows r
