-- Demand 3, as one statement about two lists of any length, the receiver being opened at any slot.
use Rattle.std.specs.Prelude.{◌≡◌, ◌↔◌, ℕ, ◌+◌, ◌-◌, ◌≤◌, T, length, take, Ok}
use mathlib.Core.List.{List, Memᴰ}
use Rattle.galois.specs.Byte.{Bytes}
use Rattle.code.specs.declared.settings.Settings.{Settings}
use Rattle.code.specs.Settings.{accepted, delay_of, k_of}
use Rattle.repair.specs.Fair.{Fair}
use Rattle.protocol.specs.declared.Told.TheVariants.{Whole}
use Rattle.protocol.specs.Lengths.{last_slot, message_len, frame_len, sender_len, receiver_len}
use Rattle.protocol.specs.Frame.{header}
use Rattle.protocol.specs.Calls.{OpenedSender, OpenedReceiver, open_sender_of, open_receiver_of}
use Rattle.protocol.specs.TwoLists.{Send, SendMade, sends, Report, heard, missed, ReportMade, reports}
use Rattle.protocol.specs.Histories.{SentAs, lost_at, lost_since}
-- the crates above cite it from here
pub use Rattle.protocol.specs.Histories.{accepts}

-- each frame accepted is byte for byte the one that the sender handed out for that slot
unfoldable pub Faithful : List SendMade → List ReportMade → Type 0
Faithful sent told =
    (r : ReportMade) (f m : List ℕ) → Memᴰ r told → r.call ≡ heard f m → T (accepts r.after.reply)
    → (message : List ℕ) × SentAs sent r.before.due message f

-- a send is accepted exactly when no listed cause holds, in terms of the settings s that both ends were opened with
abbrev pub SendTaken : Settings → SendMade → Type 0
SendTaken s m =
    (m.after.answer ≡ Ok tt)
    ↔ ((length m.call.message ≡ message_len s) × (length m.call.frame ≡ frame_len s) × (m.before.due ≤ last_slot))

-- no listed cause holds of a report of slot due, in the same terms
abbrev pub NoCause : Settings → ℕ → Report → Type 0
NoCause s due (missed message) = (length message ≡ message_len s) × (due ≤ last_slot)
NoCause s due (heard frame message) =
    (length message ≡ message_len s) × (length frame ≡ frame_len s) × (due ≤ last_slot) × (take 14 frame ≡ header 1 s due)

-- a report is accepted exactly then
abbrev pub ReportTaken : Settings → ReportMade → Type 0
ReportTaken s m = T (accepts m.after.reply) ↔ NoCause s m.before.due m.call

-- what demand 3 says of two lists, of the sends made and the reports told, both ends being opened with the settings s, and the receiver at
-- the slot `opening`
pub record Holds (s : Settings) (opening : ℕ) (sent : List SendMade) (told : List ReportMade) : Type 0 where
  -- a call is accepted exactly when no listed cause holds
  pub sends_taken : (m : SendMade) → Memᴰ m sent → SendTaken s m
  pub reports_taken : (m : ReportMade) → Memᴰ m told → ReportTaken s m
  -- the sender's own frame for the slot due is accepted while the buffer is exact and the slot below 4,000,000,000
  pub own_frame : (r : ReportMade) (f m message : List ℕ) → Memᴰ r told → r.call ≡ heard f m
      → SentAs sent r.before.due message f → length m ≡ message_len s → T (accepts r.after.reply)
  -- a slot is sent once
  pub once : (t : ℕ) (m₁ f₁ m₂ f₂ : List ℕ) → SentAs sent t m₁ f₁ → SentAs sent t m₂ f₂ → (m₁ ≡ m₂) × (f₁ ≡ f₂)
  -- if slots t - k + 1 to t + T are fair, those before the opening being losses, the report of slot t + T hands out message t whole, as
  -- sent
  pub on_time : (t : ℕ) (r : ReportMade) → Memᴰ r told → r.before.due ≡ t + delay_of s → T (accepts r.after.reply)
      → Fair s (lost_since opening (lost_at told)) (t + 1 - k_of s) (t + delay_of s)
      → (message : List ℕ) × (frame : List ℕ) × SentAs sent t message frame
      × (r.after.reply ≡ Ok Whole) × (r.after.message ≡ message)

-- demand 3: any opening slot up to the last one, any rows lent to accepted openings, any list of sends of bytes, any list of reports,
-- frames being the sender's own
unfoldable pub Demand3 : Type 0
Demand3 =
    (s : Settings) → T (accepted s) → (opening : ℕ) → opening ≤ last_slot
    → (sender_rows receiver_rows : List ℕ) → length sender_rows ≡ sender_len s → length receiver_rows ≡ receiver_len s
    → (send_calls : List Send) → ((c : Send) → Memᴰ c send_calls → Bytes c.message)
    → (report_calls : List Report)
    → let a : OpenedSender = open_sender_of s sender_rows in
    let b : OpenedReceiver = open_receiver_of s opening receiver_rows in
    let sent : List SendMade = sends a.sender a.rows send_calls in
    let told : List ReportMade = reports b.receiver b.rows report_calls in
    Faithful sent told → Holds s opening sent told
