-- Document 02 §7 of the static library, in what its callers see: a pair for which its check replies 0, fed slot by slot to a receiver that
-- it opened. It is `PairFed` and `PairFaithfulDemand3` of feeding's specs/Fed.antt, line by line.
use Rattle.std.specs.Prelude.{◌≡◌, ◌⊎◌, ◌↔◌, ℕ, ◌+◌, ◌-◌, ◌≤◌, T, length, Ok}
use mathlib.Core.List.{List, [], ◌∷◌, Memᴰ}
use Rattle.galois.specs.Byte.{Bytes}
use Rattle.code.specs.declared.settings.Settings.{Settings}
use Rattle.code.specs.Settings.{delay_of, k_of}
use Rattle.repair.specs.Fair.{Fair}
use Rattle.protocol.specs.declared.Cause.TheVariants.{BadLength, PastLastSlot}
use Rattle.protocol.specs.declared.Told.TheVariants.{Whole}
use Rattle.protocol.specs.Lengths.{last_slot, message_len}
use Rattle.protocol.specs.Causes.{number_of}
use Rattle.protocol.specs.Numbers.{reply_number}
use Rattle.protocol.specs.TwoLists.{Send, Report}
use Rattle.protocol.specs.Histories.{lost_since}
use Rattle.feeding.specs.Fed.{lent, fed_by, neither, buffer_of}
use Rattle.layout.specs.Numbers.{refusal, acceptance}
use Rattle.library.specs.Calls.{settings_of, Opening, open_sender_bytes, open_receiver_bytes, Reporting, pair_bytes}
use Rattle.library.specs.Chains.{due_after, SendDone, sends_bytes, report_bytes, ReportDone, reports_bytes}
use Rattle.library.specs.Claim.{SentAsBytes, lost_at_bytes, FaithfulBytes, HoldsBytes}

-- ---- feeding

-- a report for each message buffer, of the frame of whichever recording has the slot due, the first's where both do, or of a loss where
-- neither has it; a slot whose report is refused is due again
unfoldable pub fed_bytes : Settings → List ℕ → List ℕ → ℕ → List ℕ → List ℕ → List (List ℕ) → List Report
fed_bytes s first second due state rows [] = []
fed_bytes s first second due state rows (message ∷ messages) =
    let call : Report = fed_by (lent s first second due) message in
    let b : Reporting = report_bytes state rows call in
    call ∷ fed_bytes s first second (due_after due b.reply) b.state b.rows messages

-- these reports, made from an opening on
abbrev pub told_from : Settings → List ℕ → List ℕ → ℕ → Opening → List (List ℕ) → List ReportDone
told_from s first second opening b messages =
    reports_bytes opening b.state b.rows (fed_bytes s first second opening b.state b.rows messages)

-- ---- what holds of the reports

-- what holds of a receiver's reports that were fed from a pair
pub record FeedsBytes (s : Settings) (first second : List ℕ) (told : List ReportDone) : Type 0 where
  -- a report is accepted exactly if its buffer is exact and the slot is one
  pub taken : (b : ReportDone) → Memᴰ b told
      → T (acceptance b.after.reply) ↔ ((length (buffer_of b.call) ≡ message_len s) × (b.due ≤ last_slot))
  -- one that is refused replies 2 or 3: neither 4, nor 5, nor 6
  pub causes : (b : ReportDone) → Memᴰ b told → T (refusal b.after.reply)
      → (b.after.reply ≡ number_of BadLength) ⊎ (b.after.reply ≡ number_of PastLastSlot)
  -- a slot that was reported is lost exactly if neither recording has it
  pub lost : (b : ReportDone) → Memᴰ b told → T (acceptance b.after.reply)
      → lost_at_bytes told b.due ≡ neither s first second b.due

-- any settings bytes, any two recordings of bytes for which the check replies 0, any opening of a receiver that replies 0, at whatever
-- slot, any message buffers
unfoldable pub PairFedBytes : Type 0
PairFedBytes =
    (settings first second : List ℕ) → pair_bytes settings first second ≡ 0 → Bytes first → Bytes second
    → (opening : ℕ) (state rows : List ℕ)
    → let b : Opening = open_receiver_bytes settings opening state rows in
    b.reply ≡ 0 → (messages : List (List ℕ))
    → FeedsBytes (settings_of settings) first second (told_from (settings_of settings) first second opening b messages)

-- ---- demand 3

-- what demand 3 says, and its promise in terms of the pair: if slots t - k + 1 to t + T are fair, those before the opening and those that
-- neither recording has being losses, the report of slot t + T replies whole, and its message buffer is message t, as sent
pub record HoldsOfPairBytes (s : Settings) (opening : ℕ) (first second : List ℕ) (sent : List SendDone) (told : List ReportDone)
    : Type 0 where
  pub demand3 : HoldsBytes s opening sent told
  pub on_time : (t : ℕ) (b : ReportDone) → Memᴰ b told → b.due ≡ t + delay_of s → T (acceptance b.after.reply)
      → Fair s (lost_since opening (neither s first second)) (t + 1 - k_of s) (t + delay_of s)
      → (message : List ℕ) × (frame : List ℕ) × SentAsBytes sent t message frame
      × (b.after.reply ≡ reply_number (Ok Whole)) × (b.after.message ≡ message)

-- the same, with any opening of a sender that replies 0 and any list of sends of bytes, each frame that was accepted being the sender's
unfoldable pub PairDemand3Bytes : Type 0
PairDemand3Bytes =
    (settings first second : List ℕ) → pair_bytes settings first second ≡ 0
    → (opening : ℕ) (sender_state sender_rows receiver_state receiver_rows : List ℕ)
    → let a : Opening = open_sender_bytes settings sender_state sender_rows in
    let b : Opening = open_receiver_bytes settings opening receiver_state receiver_rows in
    a.reply ≡ 0 → b.reply ≡ 0
    → (send_calls : List Send) → ((c : Send) → Memᴰ c send_calls → Bytes c.message)
    → (messages : List (List ℕ))
    → let s : Settings = settings_of settings in
    let sent : List SendDone = sends_bytes 0 a.state a.rows send_calls in
    let told : List ReportDone = told_from s first second opening b messages in
    FaithfulBytes sent told → HoldsOfPairBytes s opening first second sent told
