-- Document 02 §7 on the card's messages: of slots 0 to 4 the first aerial heard 2 and 4, the second 3. A receiver that is fed from one
-- recording alone loses message 0; fed from both, it hands out messages 0 and 1 whole, as sent, by demand 3, though neither heard a slot
-- of theirs.
use Rattle.std.specs.Prelude.{Ok}
use mathlib.Core.Path.{◌≡◌, refl, ◌∙◌, subst⁻¹}
use mathlib.Core.List.{List, [], ◌∷◌, ◌++◌, Memᴰ}
use Prim.Native.Nat.{ℕ, zero, suc, ◌+◌, ◌-◌, zero-le}
use native.Mathlib.Omega.{arith}
use lib.Dec.{T}
use lib.ListN.{get_or, replicate}
use Rattle.code.specs.declared.settings.Settings.{Settings}
use Rattle.code.specs.Settings.{delay_of, k_of}
use Rattle.repair.specs.Fair.{fair_slots}
use Rattle.repair.proofs.FairTest.{fair_tested}
use Rattle.protocol.specs.Answers.{Reply}
use Rattle.protocol.specs.declared.Told.TheVariants.{Whole, Lost}
use Rattle.protocol.specs.Lengths.{sender_len, receiver_len}
use Rattle.protocol.specs.Calls.{OpenedReceiver, open_receiver_of}
use Rattle.protocol.specs.TwoLists.{SendMade, Report, heard, ReportMade, reports}
use Rattle.protocol.specs.Histories.{SentAs, lost_since}
use Rattle.protocol.proofs.QuickVerdict.{quick_reports, small, small_frames, quick_reports_lem}
use Rattle.frames.specs.Fields.{slot_at}
use Rattle.aerials.specs.Pair.{frames_in, frame_of, slot_of, has, unfit, other_mark, other_settings, falling, unlike, pair_cause}
use Rattle.aerials.specs.Parts.{bytes_of, below, part_of, join_of}
use Rattle.feeding.specs.Fed.{fed_by, fed, neither, SendersOwn, HoldsOfPair, PairDemand3}
use Rattle.feeding.proofs.Demand.{pair_demand3}
use Rattle.figures.specs.Card.{set_to, send_calls, sent, frames_of}
use Rattle.figures.proofs.Card.{from_each}
use Rattle.figures.proofs.Computing.{computing}
use Rattle.figures.proofs.Claimed.{small_bytes, listing}

-- the card's settings
abbrev card : Settings
card = set_to 3 2 2

-- the frame of slot t
abbrev frame_at : ℕ → List ℕ
frame_at t = get_or (frames_of (sent card 5)) t []

-- the recording of the first aerial
unfoldable pub first : List ℕ
first = frame_at 2 ++ frame_at 4

-- and that of the second
unfoldable pub second : List ℕ
second = frame_at 3

-- a receiver opened at slot 0; each lent byte is 7
unfoldable pub opened : OpenedReceiver
opened = open_receiver_of card 0 (replicate (receiver_len card) 7)

-- the five reports that are fed to it from a pair
unfoldable pub fed_calls : List ℕ → List ℕ → List Report
fed_calls one two = fed card one two opened.receiver opened.rows (replicate 5 (replicate 2 7))

-- what they come to
unfoldable pub fed_from : List ℕ → List ℕ → List ReportMade
fed_from one two = reports opened.receiver opened.rows (fed_calls one two)

-- of these reports, that of this slot has this reply and leaves this message
abbrev pub Tells : List ReportMade → ℕ → Reply → List ℕ → Type 0
Tells told slot said message =
    (r : ReportMade) × Memᴰ r told × (r.before.due ≡ slot) × (r.after.reply ≡ said) × (r.after.message ≡ message)

-- neither recording is enough: alone, each loses message 0; together they give both messages
abbrev pub Together : Type 0
Together =
    Tells (fed_from first []) 3 (Ok Lost) (0x00 ∷ 0x00 ∷ [])
    × Tells (fed_from [] second) 3 (Ok Lost) (0x00 ∷ 0x00 ∷ [])
    × Tells (fed_from first second) 3 (Ok Whole) (0x01 ∷ 0x00 ∷ [])
    × Tells (fed_from first second) 4 (Ok Whole) (0x00 ∷ 0x01 ∷ [])

-- what the recordings and the reports are computed by: an `unfolding` line that names `feeding` opens all of these
unfoldable feeding : Unit {0}
unfolding computing listing send_calls sent frames_of slot_at frames_in frame_of slot_of has unfit other_mark other_settings falling unlike
    pair_cause bytes_of below part_of join_of fed_by fed neither first second opened fed_calls fed_from
feeding = tt

-- what stands at place 3 of a list, from 0, is in it
at_three : {A : Type 0} {a b c d : A} {l : List A} → Memᴰ d (a ∷ b ∷ c ∷ d ∷ l)
at_three = Memᴰ.tail (Memᴰ.tail (Memᴰ.tail (Memᴰ.head refl)))

-- and so is what stands at place 4
at_four : {A : Type 0} {a b c d e : A} {l : List A} → Memᴰ e (a ∷ b ∷ c ∷ d ∷ e ∷ l)
at_four = Memᴰ.tail at_three

-- ---- alone

-- what reports tell through elimination, which computes, they tell
told_quickly : (one two : List ℕ) → T (small_frames (fed_calls one two)) → (slot : ℕ) (said : Reply) (message : List ℕ)
    → Tells (quick_reports opened.receiver opened.rows (fed_calls one two)) slot said message
    → Tells (fed_from one two) slot said message
unfolding computing opened fed_from
told_quickly one two bytes slot said message =
    subst⁻¹ (λ (told : List ReportMade). Tells told slot said message)
    (quick_reports_lem opened.receiver tt opened.rows tt (fed_calls one two) bytes)

-- ---- together

-- an accepted send of the card's
sent_as : (c : SendMade) → Memᴰ c (sent card 5) → c.after.answer ≡ Ok tt
    → SentAs (sent card 5) c.before.due c.call.message c.after.frame
sent_as c at taken = record { send = c; listed = at; taken = taken; slot = refl; given = refl; out = refl }

-- the frames of the first recording are the sender's
first_own : SendersOwn card (sent card 5) first
unfolding SendersOwn feeding
first_own zero h = (_, sent_as _ (Memᴰ.tail (Memᴰ.tail (Memᴰ.head refl))) refl)
first_own (suc zero) h = (_, sent_as _ at_four refl)
first_own (suc (suc i)) h = absurd (omega arith)

-- and so is that of the second
second_own : SendersOwn card (sent card 5) second
unfolding SendersOwn feeding
second_own zero h = (_, sent_as _ at_three refl)
second_own (suc i) h = absurd (omega arith)

-- so demand 3 holds of what is fed from both
holds : HoldsOfPair card 0 first second (sent card 5) (fed_from first second)
unfolding PairDemand3 feeding
holds =
    pair_demand3 card first second refl 0 zero-le (replicate (sender_len card) 7) (replicate (receiver_len card) 7) refl refl
    (send_calls card 5)
    (λ c h. small_bytes c.message (from_each (λ d. T (small d.message)) (send_calls card 5) (tt, (tt, (tt, (tt, (tt, tt))))) c h))
    (replicate 5 (replicate 2 7)) first_own second_own

-- where the slots are fair, a report of the sender's frame for slot t + T hands out what was given for slot t
handed_out : (t : ℕ) → T (fair_slots card (lost_since 0 (neither card first second)) (t + 1 - k_of card) (t + delay_of card))
    → (r : ReportMade) → Memᴰ r (fed_from first second) → r.before.due ≡ t + delay_of card
    → {last frame : List ℕ} → r.call ≡ heard frame (replicate 2 7) → SentAs (sent card 5) r.before.due last frame
    → {message out : List ℕ} → SentAs (sent card 5) t message out → Tells (fed_from first second) (t + delay_of card) (Ok Whole) message
unfolding computing
handed_out t test r at due call own was =
    let passed = holds.demand3.own_frame r _ _ _ at call own refl in
    let fair = (fair_tested card (lost_since 0 (neither card first second)) (t + 1 - k_of card) (t + delay_of card)).0 test in
    let (given, gone, its, whole, same) = holds.on_time t r at due passed fair in
    (r, at, due, whole, same ∙ (holds.demand3.once t given gone _ _ its was).0)

-- all of it
pub together : Together
unfolding feeding
together = (
  told_quickly first [] tt 3 (Ok Lost) _ (_, at_three, refl, refl, refl),
  told_quickly [] second tt 3 (Ok Lost) _ (_, at_three, refl, refl, refl),
  handed_out 0 tt _ at_three refl refl (sent_as _ at_three refl) (sent_as _ (Memᴰ.head refl) refl),
  handed_out 1 tt _ at_four refl refl (sent_as _ at_four refl) (sent_as _ (Memᴰ.tail (Memᴰ.head refl)) refl),
)
