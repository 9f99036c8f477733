-- What a call tells, over the true history and for any frames: any list of reports and look-ups mixed, the receiver being opened at any
-- slot. A look-up tells of message t by the words that fit what the reports before it brought, and so does the report of its last slot.
use Rattle.std.specs.Prelude.{◌≡◌, List, ◌↔◌, ℕ, ◌+◌, ◌≤◌, ◌<◌, T, length}
use Rattle.code.specs.declared.settings.Settings.{Settings}
use Rattle.code.specs.Settings.{accepted, k_of, n_of}
use Rattle.code.specs.Fitting.{Arrived}
use Rattle.protocol.specs.Lengths.{last_slot, receiver_len}
use Rattle.protocol.specs.Verdict.{arrived}
use Rattle.protocol.specs.Calls.{OpenedReceiver, open_receiver_of}
use Rattle.protocol.specs.TwoLists.{ReportMade}
use Rattle.protocol.specs.Meaning.{Tells, Came}
use Rattle.early.specs.Mixed.{Call, CallMade, calls, reports_in}
use Rattle.early.specs.Early.{Telling, reported_to}

-- what arrived in the slots below due is the true history: position p of the codeword of lane v that starts at slot t - i is known, with
-- this byte, exactly if its slot is below due and it came so
abbrev pub HistoryBelow : Settings → List ReportMade → ℕ → ℕ → (ℕ → ℕ → Arrived) → Type 0
HistoryBelow s told due t what =
    (i v p byte : ℕ) → i < k_of s → v < s.lanes → p < n_of s
    → (T ((what i v).known p) × ((what i v).byte p ≡ byte)) ↔ ((t + p < due + i) × Came s told t i v p byte)

-- what the rows say, when a call returns, of the codewords of message t in the slots reported so far
abbrev pub so_far : Settings → CallMade → ℕ → ℕ → ℕ → Arrived
so_far s m t = arrived s m.after.rows (reported_to m) t

-- it tells of message t by what arrived so far, and that is the true history
pub record ToldTruly (s : Settings) (told : List ReportMade) (t : ℕ) (m : CallMade) : Type 0 where
  pub tells : Tells s (so_far s m t) m.after.reply m.after.message
  pub history : HistoryBelow s told (reported_to m) t (so_far s m t)

-- any opening slot up to the last one, any rows lent to an accepted opening, any list of reports and look-ups, and any frames: each call
-- of them that is for message t and was not refused
unfoldable pub EachToldTruly : Type 0
EachToldTruly =
    (s : Settings) → T (accepted s) → (opening : ℕ) → opening ≤ last_slot
    → (rows : List ℕ) → length rows ≡ receiver_len s → (receiver_calls : List Call)
    → let b : OpenedReceiver = open_receiver_of s opening rows in
    let made : List CallMade = calls b.receiver b.rows receiver_calls in
    (t : ℕ) (m : CallMade) → Telling s made t m → ToldTruly s (reports_in made) t m
