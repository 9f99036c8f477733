-- Document 02 §7: a receiver opened at any slot and fed from an accepted pair, slot by slot from its opening, the parts as frames and the
-- empty ones as losses. It meets no 4, 5 or 6, a slot is lost exactly if neither recording has it, and demand 3 holds of it.
use Rattle.std.specs.Prelude.{◌≡◌, Bool, true, false, not, ◌||◌, ◌⊎◌, ◌↔◌, ℕ, ◌+◌, ◌-◌, ◌≤◌, ◌<◌, T, eqb, length, Ok, Err}
use mathlib.Core.List.{List, [], ◌∷◌, Memᴰ}
use Rattle.galois.specs.Byte.{Bytes}
use Rattle.code.specs.declared.settings.Settings.{Settings}
use Rattle.code.specs.Settings.{delay_of, k_of}
use Rattle.repair.specs.Fair.{Fair}
use Rattle.protocol.specs.declared.Receiver.{Receiver}
use Rattle.protocol.specs.declared.Cause.{Cause}
use Rattle.protocol.specs.declared.Cause.TheVariants.{BadLength, PastLastSlot}
use Rattle.protocol.specs.declared.Told.TheVariants.{Whole}
use Rattle.protocol.specs.Lengths.{last_slot, message_len, sender_len, receiver_len}
use Rattle.protocol.specs.Calls.{OpenedSender, open_sender_of, OpenedReceiver, open_receiver_of, Reported}
use Rattle.protocol.specs.TwoLists.{Send, SendMade, sends, Report, heard, missed, report_of, ReportMade, reports}
use Rattle.protocol.specs.Histories.{SentAs, accepts, lost_at, lost_since}
use Rattle.protocol.specs.Claim.{Faithful, Holds}
use Rattle.aerials.specs.Pair.{frames_in, frame_of, slot_of, has, pair_cause}
use Rattle.aerials.specs.Parts.{bytes_of, join_of}

-- ---- feeding

-- the bytes that the joiner lends for a slot
abbrev pub lent : Settings → List ℕ → List ℕ → ℕ → List ℕ
lent s first second slot = bytes_of first second (join_of s first second slot)

-- the report of a slot by these: of a frame, or of a loss where they are none
unfoldable pub fed_by : List ℕ → List ℕ → Report
fed_by part message = elim (eqb (length part) 0) [ true ↦ missed message | false ↦ heard part message ]

-- a report for each message buffer, of what the pair lends for the slot due; a slot whose report is refused is due again
unfoldable pub fed : Settings → List ℕ → List ℕ → Receiver → List ℕ → List (List ℕ) → List Report
fed s first second x rows [] = []
fed s first second x rows (message ∷ messages) =
    let call : Report = fed_by (lent s first second x.due) message in
    let r : Reported = report_of x rows call in
    call ∷ fed s first second r.receiver r.rows messages

-- ---- what holds of the reports

-- neither recording has the slot
unfoldable pub neither : Settings → List ℕ → List ℕ → ℕ → Bool
neither s first second slot = not (has s first slot || has s second slot)

-- the buffer that a report was lent
abbrev pub buffer_of : Report → List ℕ
buffer_of (heard frame message) = message
buffer_of (missed message) = message

-- what holds of a receiver's reports that were fed from a pair
pub record Feeds (s : Settings) (first second : List ℕ) (told : List ReportMade) : Type 0 where
  -- a report is accepted exactly if its buffer is exact and the slot is one
  pub taken : (m : ReportMade) → Memᴰ m told
      → T (accepts m.after.reply) ↔ ((length (buffer_of m.call) ≡ message_len s) × (m.before.due ≤ last_slot))
  -- no other cause is met: neither 4, nor 5, nor 6
  pub causes : (m : ReportMade) → Memᴰ m told → (c : Cause) → m.after.reply ≡ Err c → (c ≡ BadLength) ⊎ (c ≡ PastLastSlot)
  -- a slot that was reported is lost exactly if neither recording has it
  pub lost : (m : ReportMade) → Memᴰ m told → T (accepts m.after.reply)
      → lost_at told m.before.due ≡ neither s first second m.before.due

-- any accepted pair of bytes, any opening slot up to the last one, any rows lent to an accepted opening, any message buffers
unfoldable pub PairFed : Type 0
PairFed =
    (s : Settings) (first second : List ℕ) → pair_cause s first second ≡ 0 → Bytes first → Bytes second → (opening : ℕ)
    → opening ≤ last_slot
    → (rows : List ℕ) → length rows ≡ receiver_len s → (messages : List (List ℕ))
    → let b : OpenedReceiver = open_receiver_of s opening rows in
    Feeds s first second (reports b.receiver b.rows (fed s first second b.receiver b.rows messages))

-- ---- demand 3

-- each frame of a recording is the one that the sender handed out for its slot
unfoldable pub SendersOwn : Settings → List SendMade → List ℕ → Type 0
SendersOwn s sent recording =
    (i : ℕ) → i < frames_in s recording → (message : List ℕ) × SentAs sent (slot_of s recording i) message (frame_of s recording i)

-- what demand 3 says, and its promise in terms of the pair: if slots t - k + 1 to t + T are fair, those before the opening and those that
-- neither recording has being losses, the report of slot t + T hands out message t whole, as sent
pub record HoldsOfPair (s : Settings) (opening : ℕ) (first second : List ℕ) (sent : List SendMade) (told : List ReportMade) : Type 0 where
  pub demand3 : Holds s opening sent told
  pub on_time : (t : ℕ) (r : ReportMade) → Memᴰ r told → r.before.due ≡ t + delay_of s → T (accepts r.after.reply)
      → Fair s (lost_since opening (neither s first second)) (t + 1 - k_of s) (t + delay_of s)
      → (message : List ℕ) × (frame : List ℕ) × SentAs sent t message frame
      × (r.after.reply ≡ Ok Whole) × (r.after.message ≡ message)

-- the same, with any list of sends of bytes, the frames of both recordings being the sender's
unfoldable pub PairDemand3 : Type 0
PairDemand3 =
    (s : Settings) (first second : List ℕ) → pair_cause s first second ≡ 0 → (opening : ℕ) → opening ≤ last_slot
    → (sender_rows receiver_rows : List ℕ) → length sender_rows ≡ sender_len s → length receiver_rows ≡ receiver_len s
    → (send_calls : List Send) → ((c : Send) → Memᴰ c send_calls → Bytes c.message)
    → (messages : List (List ℕ))
    → let a : OpenedSender = open_sender_of s sender_rows in
    let b : OpenedReceiver = open_receiver_of s opening receiver_rows in
    let sent : List SendMade = sends a.sender a.rows send_calls in
    let told : List ReportMade = reports b.receiver b.rows (fed s first second b.receiver b.rows messages) in
    SendersOwn s sent first → SendersOwn s sent second → HoldsOfPair s opening first second sent told

-- the same of each frame that was accepted being the sender's, as demand 3 asks; what else the recordings hold may be anybody's
unfoldable pub PairFaithfulDemand3 : Type 0
PairFaithfulDemand3 =
    (s : Settings) (first second : List ℕ) → pair_cause s first second ≡ 0 → (opening : ℕ) → opening ≤ last_slot
    → (sender_rows receiver_rows : List ℕ) → length sender_rows ≡ sender_len s → length receiver_rows ≡ receiver_len s
    → (send_calls : List Send) → ((c : Send) → Memᴰ c send_calls → Bytes c.message)
    → (messages : List (List ℕ))
    → let a : OpenedSender = open_sender_of s sender_rows in
    let b : OpenedReceiver = open_receiver_of s opening receiver_rows in
    let sent : List SendMade = sends a.sender a.rows send_calls in
    let told : List ReportMade = reports b.receiver b.rows (fed s first second b.receiver b.rows messages) in
    Faithful sent told → HoldsOfPair s opening first second sent told
