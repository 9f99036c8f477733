-- Document 01, "Two lists, one claim": what a list of calls says of each slot. A slot is sent, or reported, when a call for it is accepted.
use Rattle.std.specs.Prelude.{◌≡◌, Bool, true, false, cond, ◌&&◌, ◌||◌, ℕ, T, eqb, ltb, is_ok, Ok}
use mathlib.Core.List.{List, [], ◌∷◌, Memᴰ}
use Rattle.protocol.specs.Answers.{Answer, Reply}
use Rattle.protocol.specs.TwoLists.{SendMade, Report, heard, missed, ReportMade}

-- ---- the sends

-- the accepted send of slot t was given this message and handed out this frame
pub record SentAs (made : List SendMade) (t : ℕ) (message frame : List ℕ) : Type 0 where
  pub send : SendMade
  pub listed : Memᴰ send made
  pub taken : send.after.answer ≡ Ok tt
  pub slot : send.before.due ≡ t
  pub given : send.call.message ≡ message
  pub out : send.after.frame ≡ frame

-- whether an answer is no refusal
abbrev pub is_accepted : Answer → Bool
is_accepted = is_ok

-- what g says of the accepted send of slot t, and nothing if there was none
unfoldable pub picked_at : (SendMade → List ℕ) → List SendMade → ℕ → List ℕ
picked_at g [] t = []
picked_at g (m ∷ ms) t = cond (is_accepted m.after.answer && eqb m.before.due t) (g m) (picked_at g ms t)

-- message t: the bytes given to the accepted send of slot t
unfoldable pub message_at : List SendMade → ℕ → List ℕ
message_at = picked_at (λ m. m.call.message)

-- ---- the reports

-- whether a reply is no refusal
abbrev pub accepts : Reply → Bool
accepts = is_ok

-- the accepted report of slot t was this call
pub record ReportedAs (told : List ReportMade) (t : ℕ) (call : Report) : Type 0 where
  pub report : ReportMade
  pub listed : Memᴰ report told
  pub passed : T (accepts report.after.reply)
  pub slot : report.before.due ≡ t
  pub called : report.call ≡ call

-- slot t was heard, by an accepted report of this frame
pub record Heard (told : List ReportMade) (t : ℕ) (frame : List ℕ) : Type 0 where
  pub message : List ℕ
  pub by : ReportedAs told t (heard frame message)

-- whether a report is of a loss
abbrev pub of_loss : Report → Bool
of_loss (heard f m) = false
of_loss (missed m) = true

-- slot t was reported as a loss
unfoldable pub lost_at : List ReportMade → ℕ → Bool
lost_at [] t = false
lost_at (r ∷ rs) t = (accepts r.after.reply && (of_loss r.call && eqb r.before.due t)) || lost_at rs t

-- slot t counts as a loss for a receiver opened at this slot: it is one of those before it, or was lost from there on
unfoldable pub lost_since : ℕ → (ℕ → Bool) → ℕ → Bool
lost_since opening lost t = ltb t opening || lost t
