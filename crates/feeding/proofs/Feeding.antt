-- What holds of reports that were fed from an accepted pair: `pair_fed`, whose statement is `PairFed` of specs/Fed.antt.
use Rattle.std.specs.Prelude.{Ok, Err}
use mathlib.Core.Path.{◌≡◌, refl, ap, ◌∙◌}
use mathlib.Core.Bool.{Bool, true, false, not}
use mathlib.Core.Logic.{◌⊎◌, inl, inr, ⊎_elim, ◌↔◌}
use mathlib.Core.List.Memᴰ
use mathlib.Core.List.{List, [], ◌∷◌, Memᴰ}
use Prim.Native.Nat.{ℕ, ◌≤◌}
use native.Mathlib.Omega.{arith}
use lib.Dec.{T, ltb}
use lib.ListN.{length, take, drop}
use borrow.Author.Tests.{ne_eqb}
use Rattle.galois.specs.Byte.{Bytes}
use Rattle.code.specs.declared.settings.Settings.{Settings}
use Rattle.code.specs.Settings.{accepted}
use Rattle.protocol.specs.declared.Receiver.{Receiver}
use Rattle.protocol.specs.declared.Cause.{Cause}
use Rattle.protocol.specs.declared.Cause.TheVariants.{BadLength, PastLastSlot}
use Rattle.protocol.specs.Lengths.{last_slot, message_len, frame_len, receiver_len, exactly, exactly_framed}
use Rattle.protocol.specs.Frame.{mark, five, slot_bytes, header}
use Rattle.protocol.specs.Causes.{check, first_of, agree, slot_table, loss_table, frame_table}
use Rattle.protocol.specs.Numbers.{reply_number}
use Rattle.protocol.specs.Calls.{opened_rows, OpenedReceiver, open_receiver_of, Reported, loss_of, heard_of}
use Rattle.protocol.specs.TwoLists.{heard, missed, report_of, ReportMade, reports}
use Rattle.protocol.specs.Histories.{accepts, of_loss, lost_at}
use Rattle.protocol.specs.Claim.{NoCause}
use Rattle.protocol.proofs.CauseTables.{fails, OpensAt}
use Rattle.protocol.proofs.HeaderBytes.{header_mark, header_five, header_slot}
use Rattle.protocol.proofs.Refusals.{first_found, demand1}
use Rattle.protocol.proofs.ReportChain.{Chain, opened_chain}
use Rattle.protocol.proofs.SlotReports.{lost_as}
use Rattle.protocol.proofs.Received.{along, reports_taken}
use Rattle.aerials.specs.Pair.{pair_cause}
use Rattle.aerials.proofs.PairLaws.{checked}
use Rattle.feeding.specs.Fed.{lent, fed_by, fed, neither, buffer_of, PairFed}
use Rattle.feeding.proofs.Lending.{FrameFor, Lent, nothing, its_frame, lent_frame}

-- ---- the reports that are made

-- a report of what the pair lends for the slot due, and what came of it
pub record FedAs (s : Settings) (first second : List ℕ) (m : ReportMade) : Type 0 where
  pub buffer : List ℕ
  pub called : m.call ≡ fed_by (lent s first second m.before.due) buffer
  pub came : m.after ≡ report_of m.before m.rows m.call

-- those that are fed are such reports
fed_as : (s : Settings) (first second : List ℕ) (x : Receiver) (rows : List ℕ) (messages : List (List ℕ)) (m : ReportMade)
    → Memᴰ m (reports x rows (fed s first second x rows messages)) → FedAs s first second m
unfolding reports fed
fed_as s first second x rows [] m listed = absurd (Memᴰ.not-nil listed)
fed_as s first second x rows (message ∷ messages) m listed =
    let r : Reported = report_of x rows (fed_by (lent s first second x.due) message) in
    ⊎_elim (λ same. rw same record { buffer = message; called = refl; came = refl })
    (λ later. fed_as s first second r.receiver r.rows messages m later) (Memᴰ.cases_cons listed)

-- reports from slot d on that were fed from the pair
pub record FedFrom (s : Settings) (first second : List ℕ) (d : ℕ) (told : List ReportMade) : Type 0 where
  pub rows : List ℕ
  pub chain : Chain s d rows told
  pub each : (m : ReportMade) → Memᴰ m told → FedAs s first second m

-- those from the opening on
pub opened_fed : (s : Settings) (first second : List ℕ) → pair_cause s first second ≡ 0 → (opening : ℕ) → opening ≤ last_slot
    → (rows : List ℕ) → length rows ≡ receiver_len s → (messages : List (List ℕ))
    → let b : OpenedReceiver = open_receiver_of s opening rows in
    FedFrom s first second opening (reports b.receiver b.rows (fed s first second b.receiver b.rows messages))
opened_fed s first second ok opening in_time_lem rows exact messages =
    let b : OpenedReceiver = open_receiver_of s opening rows in
    let opens : OpensAt s opening rows = record
    { settings = (checked s first second ok).settings; exact = exact; in_time_lem = in_time_lem } in
    record {
      rows = opened_rows s opening;
      chain = opened_chain s opening rows opens (fed s first second b.receiver b.rows messages);
      each = fed_as s first second b.receiver b.rows messages;
    }

-- ---- the call of each

-- no bytes are reported as a loss
fed_missed : (part message : List ℕ) → part ≡ [] → fed_by part message ≡ missed message
unfolding fed_by
fed_missed part message e = rw e

-- and a frame as heard
fed_heard : (s : Settings) (part message : List ℕ) → length part ≡ frame_len s → fed_by part message ≡ heard part message
unfolding fed_by frame_len
fed_heard s part message e = rw (ne_eqb (length part) 0 (λ none. omega arith), fed_by)

-- so a report is of a loss, or of a frame for the slot due
pub data FedCall (s : Settings) (first second : List ℕ) (m : ReportMade) : Type 0 where
  as_lost : (message : List ℕ) → neither s first second m.before.due ≡ true → m.call ≡ missed message → FedCall s first second m
  as_heard : (frame message : List ℕ) → neither s first second m.before.due ≡ false → m.call ≡ heard frame message
      → FrameFor s first second m.before.due frame → FedCall s first second m

-- ---- the causes that are met

-- a table of two causes finds one of the two
one_of_two : (a b : Bool) (c : Cause) → check a BadLength (check b PastLastSlot (Ok tt)) ≡ Err c
    → (c ≡ BadLength) ⊎ (c ≡ PastLastSlot)
one_of_two true b c e = inl (cc)
one_of_two false true c e = inr (cc)
one_of_two false false c e = let z : ◌≡◌ {A = ℕ} 0 1 = cc in absurd (omega arith)

-- so does that of a call in a slot where the settings are accepted
slot_causes : (s : Settings) (exact : Bool) (due : ℕ) (c : Cause) → T (accepted s) → first_of (slot_table s exact due) ≡ Err c
    → (c ≡ BadLength) ⊎ (c ≡ PastLastSlot)
slot_causes s exact due c ok e = one_of_two (not exact) (ltb last_slot due) c (rw (fails (accepted s) ok) at e)

module _ (x : Receiver) (rows message : List ℕ) (ok : T (accepted x.settings)) (c : Cause) where
  -- a loss report meets no others
  loss_causes : (loss_of x rows message).reply ≡ Err c → (c ≡ BadLength) ⊎ (c ≡ PastLastSlot)
  loss_causes e =
      let s = x.settings in
      slot_causes s (exactly s (receiver_len s) (length rows) (length message)) x.due c ok
      (first_found c (loss_table x rows message) (((demand1.loss x rows message).first c).0 (ap reply_number e)))

  -- nor does the report of a frame with the header of the slot due
  frame_causes : (frame : List ℕ) → take 14 frame ≡ header 1 x.settings x.due → (heard_of x rows frame message).reply ≡ Err c
      → (c ≡ BadLength) ⊎ (c ≡ PastLastSlot)
  frame_causes frame headed e =
      let s = x.settings in
      slot_causes s (exactly_framed s (receiver_len s) (length rows) (length message) (length frame)) x.due c ok
      (rw (
        fails (agree 5 frame (mark 1)) (header_mark 1 s x.due frame headed),
        fails (agree 5 (drop 5 frame) (five s)) (header_five 1 s x.due frame headed),
        fails (agree 4 (drop 10 frame) (slot_bytes x.due)) (header_slot 1 s x.due frame headed),
      ) at (first_found c (frame_table x rows frame message) (((demand1.heard x rows frame message).first c).0 (ap reply_number e))))

-- ---- what holds of them

-- an accepted pair, and reports that were fed from it
module _ (s : Settings) (first second : List ℕ) (ok : pair_cause s first second ≡ 0)
    {d : ℕ} {told : List ReportMade} (list : FedFrom s first second d told) where
  -- each is of a loss, or of a frame
  pub call_in : (m : ReportMade) → Memᴰ m told → FedCall s first second m
  call_in m listed = by (list.each m listed) (lent_frame s first second ok m.before.due)
    where
      by : FedAs s first second m → Lent s first second m.before.due → FedCall s first second m
      by a (nothing none empty) = as_lost a.buffer none (a.called ∙ fed_missed _ a.buffer empty)
      by a (its_frame some frame) = as_heard _ a.buffer some (a.called ∙ fed_heard s _ a.buffer frame.exact) frame

  -- a slot that was reported is lost exactly if neither recording has it
  pub fed_lost : (m : ReportMade) → Memᴰ m told → T (accepts m.after.reply)
      → lost_at told m.before.due ≡ neither s first second m.before.due
  fed_lost m listed passed =
      lost_as list.chain m.before.due m.call record { report = m; listed = listed; passed = passed; slot = refl; called = refl }
      ∙ by (call_in m listed)
    where
      by : FedCall s first second m → of_loss m.call ≡ neither s first second m.before.due
      by (as_lost message none e) = rw (e, none)
      by (as_heard frame message some e its) = rw (e, some)

  module _ (a : Bytes first) (b : Bytes second) (m : ReportMade) (listed : Memᴰ m told) where
    -- no cause holds exactly if the buffer is exact and the slot is one
    uncaused : NoCause s m.before.due m.call ↔ ((length (buffer_of m.call) ≡ message_len s) × (m.before.due ≤ last_slot))
    uncaused = by (call_in m listed)
      where
        by : FedCall s first second m
            → NoCause s m.before.due m.call ↔ ((length (buffer_of m.call) ≡ message_len s) × (m.before.due ≤ last_slot))
        by (as_lost message none e) = rw e (λ h. h, λ h. h)
        by (as_heard frame message some e its) = rw e (λ h. (h.0, h.2), λ h. (h.0, its.exact, h.1, its.headed a b))

    -- and else it is one of two
    caused : (c : Cause) → m.after.reply ≡ Err c → (c ≡ BadLength) ⊎ (c ≡ PastLastSlot)
    unfolding report_of
    caused c e = by (rw (list.each m listed).came at e) (call_in m listed)
      where
        same : m.before.settings ≡ s
        same = (along list.chain m listed).settings

        settings : T (accepted m.before.settings)
        settings = rw same (checked s first second ok).settings

        by : (report_of m.before m.rows m.call).reply ≡ Err c → FedCall s first second m
            → (c ≡ BadLength) ⊎ (c ≡ PastLastSlot)
        by came (as_lost message none is) = loss_causes m.before m.rows message settings c (rw is at came)
        by came (as_heard frame message some is its) =
            frame_causes m.before m.rows message settings c frame (rw same (its.headed a b)) (rw is at came)

-- all of it
pub pair_fed : PairFed
unfolding PairFed
pair_fed s first second ok a b opening in_time_lem rows exact messages =
    let list = opened_fed s first second ok opening in_time_lem rows exact messages in
    record {
      taken = λ m listed.
          let (forth, back) = reports_taken list.chain m listed in
          let (to, from) = uncaused s first second ok list a b m listed in
          (λ t. to (forth t), λ h. back (from h));
      causes = caused s first second ok list a b;
      lost = fed_lost s first second ok list;
    }
