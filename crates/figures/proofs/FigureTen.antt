-- Document 01, figure 10, from demand 3: the terms of the demand are met by the card's own sends and reports.
-- What the reports get is computed; that slot 3's is accepted, and message 0 then whole, 01 00 in hex, is what the demand says.
use Rattle.std.specs.Prelude.{Ok}
use mathlib.Core.Path.{◌≡◌, refl}
use mathlib.Core.List.{List, [], ◌∷◌, Memᴰ}
use Prim.Native.Nat.{ℕ, zero-le}
use lib.ListN.{get_or, replicate}
use Rattle.code.specs.declared.settings.Settings.{Settings}
use Rattle.protocol.specs.declared.Told.TheVariants.{Whole}
use Rattle.protocol.specs.TwoLists.{heard, ReportMade}
use Rattle.figures.specs.Card.{set_to, send_calls, sent, frames_of, Fate, lost, own, reports_of, calls, reported}
use Rattle.figures.proofs.Computing.{computing}
use Rattle.figures.proofs.Claimed.{listing, handed_out}

-- the card's settings, and what becomes of the frames of figure 10
abbrev card : Settings
card = set_to 3 2 2

abbrev fates : List Fate
fates = lost ∷ lost ∷ own ∷ own ∷ []

-- the frame of slot t
abbrev frame_at : ℕ → List ℕ
frame_at t = get_or (frames_of (sent card 4)) t []

-- figure 10: the report of slot 3 hands out message 0 whole, 01 00 in hex
abbrev pub Figure : Type 0
Figure =
    (r : ReportMade) × Memᴰ r (reported card 0 (calls card fates)) × (r.before.due ≡ 3)
    × (r.call ≡ heard (frame_at 3) (replicate 2 7)) × (r.after.reply ≡ Ok Whole) × (r.after.message ≡ 0x01 ∷ 0x00 ∷ [])

-- demand 3 says it, all of its terms being met
pub figure_ten : Figure
unfolding computing listing send_calls sent frames_of calls reports_of
figure_ten =
    let here = Memᴰ.tail (Memᴰ.tail (Memᴰ.tail (Memᴰ.head refl))) in
    let out =
    handed_out card tt 0 zero-le (send_calls card 4) (tt, (tt, (tt, (tt, tt)))) (calls card fates)
    ((refl, refl, tt), ((refl, refl, tt), ((refl, refl, refl), ((refl, refl, refl), tt))))
    0 tt _ (frame_at 3) (replicate 2 7) here refl refl refl _ (Memᴰ.head refl) refl refl in
    (_, here, refl, refl, out.0, out.1)
