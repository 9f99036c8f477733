-- Document 02 §6 from the law of look-ups, on the card's messages: slot 0 is lost, slot 1 is heard, and message 1 is looked up right after
-- it. The look-up tells it whole, as sent, three slots before its report.
use Rattle.std.specs.Prelude.{Ok}
use mathlib.Core.Path.{◌≡◌, refl, ◌∙◌}
use mathlib.Core.List.{List, [], ◌∷◌, Memᴰ}
use Prim.Native.Nat.{ℕ, zero-le}
use lib.Dec.{T, lit<, lit≤}
use lib.IntN.{pos}
use lib.ListN.{get_or, replicate}
use Rattle.code.specs.declared.settings.Settings.{Settings}
use Rattle.protocol.specs.declared.Told.TheVariants.{Whole}
use Rattle.protocol.specs.Lengths.{sender_len, receiver_len}
use Rattle.protocol.specs.States.{receiver_at}
use Rattle.protocol.specs.Calls.{OpenedReceiver, open_receiver_of}
use Rattle.protocol.specs.TwoLists.{heard, missed, ReportMade}
use Rattle.protocol.specs.Histories.{SentAs, Heard}
use Rattle.protocol.specs.Claim.{Faithful}
use Rattle.protocol.proofs.LookUps.{look_up_tells}
use Rattle.protocol.proofs.QuickVerdict.{small}
use Rattle.early.specs.Mixed.{Call, report, look_up, CallMade, calls, reports_in}
use Rattle.early.specs.Early.{Telling, Early, EarlyKnown}
use Rattle.early.proofs.Early.{early_known}
use Rattle.figures.specs.Card.{set_to, send_calls, sent, frames_of}
use Rattle.figures.proofs.Card.{from_each}
use Rattle.figures.proofs.Computing.{computing}
use Rattle.figures.proofs.Claimed.{sent_by, small_bytes, own_frame, listing}

-- the card's settings
abbrev card : Settings
card = set_to 3 2 2

-- the frame of slot 1
abbrev frame : List ℕ
frame = get_or (frames_of (sent card 2)) 1 []

-- each lent byte is 7
abbrev buffer : List ℕ
buffer = replicate 2 7

unfoldable pub known_calls : List Call
known_calls = report (missed buffer) ∷ report (heard frame buffer) ∷ look_up (pos 1) buffer ∷ []

unfoldable pub known : List CallMade
known =
    let opened : OpenedReceiver = open_receiver_of card 0 (replicate (receiver_len card) 7) in
    calls opened.receiver opened.rows known_calls

-- the look-up, with slot 2 due, tells message 1 whole, 00 01 in hex
abbrev pub Known : Type 0
Known =
    (a : CallMade) × Memᴰ a known × (a.before.due ≡ 2) × (a.call ≡ look_up (pos 1) buffer)
    × (a.after.reply ≡ Ok Whole) × (a.after.message ≡ 0x00 ∷ 0x01 ∷ [])

-- the law holds of these lists
early : Early card 0 (sent_by card (send_calls card 2)) known
unfolding computing listing send_calls sent frames_of EarlyKnown Faithful known known_calls calls reports_in
early =
    early_known card tt 0 zero-le (replicate (sender_len card) 7) (replicate (receiver_len card) 7) refl refl (send_calls card 2)
    (λ c h. small_bytes c.message (from_each (λ d. T (small d.message)) (send_calls card 2) (tt, (tt, tt)) c h)) known_calls
    (λ r f m listed e passed.
    own_frame (sent_by card (send_calls card 2)) 0 (reports_in known) ((refl, refl, tt), ((refl, refl, refl), tt)) r f m listed e)

-- and says it, all of its terms being met
pub known_early : Known
unfolding computing listing send_calls sent frames_of known known_calls calls reports_in
known_early =
    let told : List ReportMade = reports_in known in
    let here : Memᴰ _ known = mathlib.Core.List.Memᴰ.tail (mathlib.Core.List.Memᴰ.tail (mathlib.Core.List.Memᴰ.head refl)) in
    let was : SentAs (sent_by card (send_calls card 2)) 1 (0x00 ∷ 0x01 ∷ []) frame
    = record {
      send = _;
      listed = mathlib.Core.List.Memᴰ.tail (mathlib.Core.List.Memᴰ.head refl);
      taken = refl;
      slot = refl;
      given = refl;
      out = refl;
    } in
    let passed = early.demand3.own_frame _ frame buffer (0x00 ∷ 0x01 ∷ [])
    (mathlib.Core.List.Memᴰ.tail (mathlib.Core.List.Memᴰ.head refl)) refl was refl in
    let arrives : Heard told 1 frame
    = record {
      message = buffer;
      by = record {
        report = _;
        listed = mathlib.Core.List.Memᴰ.tail (mathlib.Core.List.Memᴰ.head refl);
        passed = passed;
        slot = refl;
        called = refl;
      };
    } in
    let telling : Telling card known 1 _
    = record {
      listed = here;
      taken = (look_up_tells.taken (receiver_at card 0 2) _ (pos 1) buffer).1 (tt, refl, refl, lit≤ tt, (1, (refl, lit< tt, lit≤ tt)));
      for_it = refl;
    } in
    let whole = early.once_heard 1 _ frame telling arrives in
    let (message, out, a, same) = early.as_sent 1 _ telling whole in
    (_, here, refl, refl, whole, same ∙ (early.demand3.once 1 message out (0x00 ∷ 0x01 ∷ []) frame a was).0)
