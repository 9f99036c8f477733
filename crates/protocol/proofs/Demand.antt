-- Demand 3, proved of any list of sends and any list of reports: `demand3`, whose statement is `Demand3` of specs/Claim.antt.
use Rattle.std.specs.Prelude.{Ok}
use mathlib.Core.Path.{◌≡◌, refl, sym, ap, ◌∙◌, subst, subst⁻¹}
use mathlib.Core.Bool.{Bool, true, false, not}
use mathlib.Core.Logic.{⊎_elim}
use mathlib.Core.List.{List, Memᴰ}
use Prim.Native.Nat.{ℕ, ◌+◌, ◌-◌, ◌≤◌, ◌<◌}
use native.Mathlib.Omega.{arith}
use lib.Dec.{T}
use lib.ListN.{length}
use Rattle.galois.specs.Byte.{Bytes}
use Rattle.galois.proofs.Cases.{all_or_one}
use Rattle.code.specs.declared.settings.Settings.{Settings}
use Rattle.code.specs.Settings.{accepted, delay_of, k_of, n_of}
use Rattle.code.specs.Word.{symbol}
use Rattle.code.proofs.Shape.{Shape, shape}
use Rattle.repair.specs.Fair.{Fair, lost_position}
use Rattle.repair.proofs.Window.{not_all_lost}
use Rattle.protocol.specs.declared.Told.TheVariants.{Whole}
use Rattle.protocol.specs.Lengths.{message_len}
use Rattle.protocol.specs.Codewords.{source}
use Rattle.protocol.specs.Verdict.{arrived}
use Rattle.protocol.specs.Calls.{row_before, open_receiver_of}
use Rattle.protocol.specs.TwoLists.{Send, SendMade, heard, ReportMade, reports}
use Rattle.protocol.specs.Histories.{SentAs, message_at, accepts, Heard, lost_at, lost_since}
use Rattle.protocol.specs.Meaning.{Came}
use Rattle.protocol.specs.Claim.{Faithful, Holds, Demand3}
use Rattle.protocol.proofs.TrueWords.{symbol_early, symbol_slot}
use Rattle.protocol.proofs.SenderList.{sent_of, opened_sent, once, message_at_lem, sent_before, message_byte, sends_taken, sent_lengths}
use Rattle.protocol.proofs.SenderList.{sent_header, frame_true}
use Rattle.protocol.proofs.CauseTables.{OpensAt}
use Rattle.protocol.proofs.Received.{reports_taken, own_accepted, told_at}
use Rattle.protocol.proofs.ReceivedRows.{Begun, Reached, heard_since, left_by, opened}
use Rattle.protocol.proofs.Arrivals.{known_if, known_came}
use Rattle.protocol.proofs.Recovery.{Truthful, recovered, whole_message}

not-true : (b : Bool) → T (not b) → b ≡ false
not-true true t = absurd t
not-true false t = refl

-- the sends of an accepted opening, and reports from any slot d on, each accepted frame being the sender's own
module _ (s : Settings) (ok : T (accepted s)) (calls : List Send) (bytes : (c : Send) → Memᴰ c calls → Bytes c.message)
    (told : List ReportMade) {d : ℕ} (begun : Begun s (row_before s) d told) (faithful : Faithful (sent_of s calls) told) where
  abbrev sent : List SendMade
  sent = sent_of s calls

  abbrev messages : ℕ → List ℕ
  messages = message_at (sent_of s calls)

  -- a frame that was heard is the one that the sender handed out
  pub heard_sent : (τ : ℕ) (f : List ℕ) → Heard told τ f → (message : List ℕ) × SentAs sent τ message f
  unfolding Faithful
  heard_sent τ f h =
      let a = h.by in
      subst (λ (d : ℕ). (message : List ℕ) × SentAs sent d message f) a.slot
      (faithful a.report f h.message a.listed a.called a.passed)

  -- the sender's own frame for the slot due is accepted
  own_frame : (r : ReportMade) (f m message : List ℕ) → Memᴰ r told → r.call ≡ heard f m
      → SentAs sent r.before.due message f → length m ≡ message_len s → T (accepts r.after.reply)
  own_frame r f m message listed call a full =
      let sizes = sent_lengths s ok calls r.before.due message f a in
      own_accepted begun.chain r f m listed call sizes.1 (sent_header s ok calls r.before.due message f a) sizes.2 full

  -- what came of a codeword is the true word's
  came_true : (t i v p b : ℕ) → p < n_of s → v < s.lanes → Came s told t i v p b → b ≡ symbol s (source s messages t i v) p
  came_true t i v p b hp hv (Came.early early) = sym (symbol_early s (shape s ok) messages (message_byte s calls bytes) t i v p early)
  came_true t i v p b hp hv (Came.heard f late h) =
      let (m, a) = heard_sent (t + p - i) f h in
      frame_true s ok calls bytes (t + p - i) m f a p v hp hv
      ∙ symbol_slot s (shape s ok) messages (message_byte s calls bytes) t i v p late

  -- so the rows tell the truth about message t, from any point on at which it can be told
  pub truthful : (rows : List ℕ) (due t : ℕ) → Reached s (row_before s) d told rows due → due ≤ t + delay_of s + 1
      → Truthful s rows due t messages (lost_since d (lost_at told))
  truthful rows due t c to = record {
    heard_known = λ i v p hi hv hp now kept. known_if c t to i p v hi now
        (not-true (lost_position (lost_since d (lost_at told)) t i p) kept);
    known_true = λ i v p hi hv hp known.
        came_true t i v p ((arrived s rows due t i v).byte p) hp hv ((known_came c t to i p v hi hp hv _).0 (known, refl)).1;
  }

  module _ (t : ℕ) (r : ReportMade) (listed : Memᴰ r told) (slot : r.before.due ≡ t + delay_of s)
      (passed : T (accepts r.after.reply)) (fair : Fair s (lost_since d (lost_at told)) (t + 1 - k_of s) (t + delay_of s)) where
    -- the report has reached slot t + T + 1
    reached : Reached s (row_before s) d told r.after.rows (t + delay_of s + 1)
    reached =
        subst (λ (due : ℕ). Reached s (row_before s) d told r.after.rows (due + 1)) slot
        (left_by begun r listed passed)

    -- one of the slots t to t + T was heard
    one_heard : (τ : ℕ) × (f : List ℕ) × (t ≤ τ) × Heard told τ f
    one_heard =
        let h : Shape s = shape s ok in
        let stretch = fair t (delay_of s + 1) (omega arith) (omega arith) (omega arith) in
        ⊎_elim
        (λ all. absurd (not_all_lost s h (lost_since d (lost_at told)) t stretch all))
        (λ found.
        let heard = heard_since reached (t + found.0) (omega (arith, found.1)) found.2 in
        (t + found.0, heard.0, omega arith, heard.1))
        (all_or_one (delay_of s + 1) (λ x. lost_since d (lost_at told) (t + x)))

    -- so message t was sent
    was_sent : (message : List ℕ) × (frame : List ℕ) × SentAs sent t message frame
    was_sent =
        let (τ, f, from, h) = one_heard in
        let (m, a) = heard_sent τ f h in
        sent_before s calls t τ m f a from

    -- whole, as sent
    on_time : (message : List ℕ) × (frame : List ℕ) × SentAs sent t message frame × (r.after.reply ≡ Ok Whole)
        × (r.after.message ≡ message)
    on_time =
        let (message, frame, a) = was_sent in
        let tells = told_at begun.chain r t listed passed slot in
        let same : messages t ≡ message = message_at_lem s calls t message frame a in
        let full : length (messages t) ≡ message_len s = ap length same ∙ (sent_lengths s ok calls t message frame a).0 in
        let rows = r.after.rows in
        let due : ℕ = t + delay_of s + 1 in
        let b = message_byte s calls bytes in
        let true_rows : Truthful s rows due t messages (lost_since d (lost_at told)) = truthful rows due t reached (omega arith) in
        let whole = recovered s (shape s ok) rows due t messages (lost_since d (lost_at told)) b true_rows fair (omega arith) in (
          message,
          frame,
          a,
          tells.0 ∙ whole,
          tells.1 ∙ whole_message s (shape s ok) rows due t messages (lost_since d (lost_at told)) b true_rows whole full ∙ same,
        )

  -- all of it
  pub holds : Holds s d sent told
  holds = record {
    sends_taken = sends_taken s ok calls;
    reports_taken = reports_taken begun.chain;
    own_frame = own_frame;
    once = once s calls;
    on_time = on_time;
  }

-- demand 3. Wrong definitions that agree with themselves, and what in the statement rules each out:
-- - lost for any slot not heard: `on_time` asks for whole; `verdict_lost` allows lost only where two fitting words differ
-- - the first k + T slots decoded, then the last message repeated: `on_time` is for every t
-- - zero parity: `on_time` has losses, and a lost message is only in the parity; the words are those of G (`frame_true`)
-- - a loss that leaves its row: `on_time` is about the rows as every earlier report left them
-- - slots before 0 lost: `Fair` looks at slots from 0 on, so that message 0 may come after N losses from slot 0 on
-- - slots before the opening taken as received: the words that fit would have zeros in them, and not be the true ones (`known_true`)
-- - fairness that ignores W: `Fair` asks only for stretches of at most W slots; `fair_apart` has losses that are fair so and not else
pub demand3 : Demand3
unfolding Demand3
demand3 s ok opening in_time_lem sender_rows receiver_rows sends-exact reports-exact send_calls bytes report_calls faithful =
    let same = opened_sent s sender_rows send_calls ok sends-exact in
    let told = reports (open_receiver_of s opening receiver_rows).receiver (open_receiver_of s opening receiver_rows).rows report_calls in
    let opens : OpensAt s opening receiver_rows = record { settings = ok; exact = reports-exact; in_time_lem = in_time_lem } in
    subst⁻¹ (λ (sent : List SendMade). Holds s opening sent told) same
    (holds s ok send_calls bytes told (opened s opening receiver_rows opens report_calls)
    (subst (λ (sent : List SendMade). Faithful sent told) same faithful))
