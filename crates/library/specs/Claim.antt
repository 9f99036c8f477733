-- Demand 3 of the static library, as one statement about two lists of its calls, in what its callers see: lent bytes and reply numbers.
-- It is `Demand3` of protocol's specs/Claim.antt, line by line.
use Rattle.std.specs.Prelude.{◌≡◌, ◌↔◌, Bool, false, ◌&&◌, ◌||◌, ℕ, ◌+◌, ◌-◌, ◌≤◌, T, eqb, length, Ok}
use mathlib.Core.List.{List, [], ◌∷◌, Memᴰ}
use Rattle.galois.specs.Byte.{Bytes}
use Rattle.code.specs.declared.settings.Settings.{Settings}
use Rattle.code.specs.Settings.{accepted, delay_of, k_of}
use Rattle.repair.specs.Fair.{Fair}
use Rattle.protocol.specs.declared.Told.TheVariants.{Whole}
use Rattle.protocol.specs.Lengths.{last_slot, message_len, frame_len, sender_len, receiver_len}
use Rattle.protocol.specs.TwoLists.{Send, Report, heard}
use Rattle.protocol.specs.Histories.{of_loss, lost_since}
use Rattle.protocol.specs.Claim.{NoCause}
use Rattle.state.specs.State.{state_len}
use Rattle.protocol.specs.Numbers.{answer_number, reply_number}
use Rattle.layout.specs.Numbers.{acceptance}
use Rattle.library.specs.Calls.{settings_of, Opening, open_sender_bytes, open_receiver_bytes}
use Rattle.library.specs.Chains.{SendDone, sends_bytes, ReportDone, reports_bytes}

-- the send of slot t replied 0, was given this message and handed out this frame
pub record SentAsBytes (sent : List SendDone) (t : ℕ) (message frame : List ℕ) : Type 0 where
  pub send : SendDone
  pub listed : Memᴰ send sent
  pub taken : send.after.reply ≡ answer_number (Ok tt)
  pub slot : send.due ≡ t
  pub given : send.call.message ≡ message
  pub out : send.after.frame ≡ frame

-- slot t was reported as a loss
unfoldable pub lost_at_bytes : List ReportDone → ℕ → Bool
lost_at_bytes [] t = false
lost_at_bytes (r ∷ rs) t = (acceptance r.after.reply && (of_loss r.call && eqb r.due t)) || lost_at_bytes rs t

-- each frame accepted is byte for byte the one that the sender handed out for that slot
unfoldable pub FaithfulBytes : List SendDone → List ReportDone → Type 0
FaithfulBytes sent told =
    (r : ReportDone) (f m : List ℕ) → Memᴰ r told → r.call ≡ heard f m → T (acceptance r.after.reply)
    → (message : List ℕ) × SentAsBytes sent r.due message f

-- what holds of two lists whose openings had the settings s, the receiver's being at the slot `opening`
pub record HoldsBytes (s : Settings) (opening : ℕ) (sent : List SendDone) (told : List ReportDone) : Type 0 where
  -- a send replies 0 exactly when no listed cause holds
  pub sends_taken : (b : SendDone) → Memᴰ b sent
      → (b.after.reply ≡ answer_number (Ok tt))
      ↔ ((length b.call.message ≡ message_len s) × (length b.call.frame ≡ frame_len s) × (b.due ≤ last_slot))
  -- and a report is accepted exactly then
  pub reports_taken : (b : ReportDone) → Memᴰ b told → T (acceptance b.after.reply) ↔ NoCause s b.due b.call
  -- the sender's own frame for the slot due is accepted while the buffer is exact and the slot below 4,000,000,000
  pub own_frame : (b : ReportDone) (f m message : List ℕ) → Memᴰ b told → b.call ≡ heard f m
      → SentAsBytes sent b.due message f → length m ≡ message_len s → T (acceptance b.after.reply)
  -- a slot is sent once
  pub once : (t : ℕ) (m₁ f₁ m₂ f₂ : List ℕ) → SentAsBytes sent t m₁ f₁ → SentAsBytes sent t m₂ f₂ → (m₁ ≡ m₂) × (f₁ ≡ f₂)
  -- if slots t - k + 1 to t + T are fair, those before the opening being losses, the report of slot t + T replies whole, and its message
  -- buffer is message t, as sent
  pub on_time : (t : ℕ) (b : ReportDone) → Memᴰ b told → b.due ≡ t + delay_of s → T (acceptance b.after.reply)
      → Fair s (lost_since opening (lost_at_bytes told)) (t + 1 - k_of s) (t + delay_of s)
      → (message : List ℕ) × (frame : List ℕ) × SentAsBytes sent t message frame
      × (b.after.reply ≡ reply_number (Ok Whole)) × (b.after.message ≡ message)

-- any settings bytes that are accepted, any opening slot up to the last one, any buffers of the exact length lent to both openings, any
-- list of sends of bytes, any list of reports: both openings reply 0, and, frames being the sender's own, demand 3 holds of the lists
unfoldable pub Demand3Bytes : Type 0
Demand3Bytes =
    (settings : List ℕ) → T (accepted (settings_of settings)) → (opening : ℕ) → opening ≤ last_slot
    → (sender_state sender_rows receiver_state receiver_rows : List ℕ)
    → length sender_state ≡ state_len → length sender_rows ≡ sender_len (settings_of settings)
    → length receiver_state ≡ state_len → length receiver_rows ≡ receiver_len (settings_of settings)
    → (send_calls : List Send) → ((c : Send) → Memᴰ c send_calls → Bytes c.message)
    → (report_calls : List Report)
    → let a : Opening = open_sender_bytes settings sender_state sender_rows in
    let b : Opening = open_receiver_bytes settings opening receiver_state receiver_rows in
    let sent : List SendDone = sends_bytes 0 a.state a.rows send_calls in
    let told : List ReportDone = reports_bytes opening b.state b.rows report_calls in
    (a.reply ≡ answer_number (Ok tt)) × (b.reply ≡ answer_number (Ok tt))
    × (FaithfulBytes sent told → HoldsBytes (settings_of settings) opening sent told)
