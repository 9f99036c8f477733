-- Document 02 §3 from demand 3: a set that is switched on at slot 2, after two messages of the card were sent. The slots before it count
-- as losses, two in a row, which are fair; so the demand hands out both messages whole, as sent, at slots 3 and 4.
use Rattle.std.specs.Prelude.{Ok}
use mathlib.Core.Path.{◌≡◌, refl}
use mathlib.Core.List.{List, [], ◌∷◌, Memᴰ}
use Prim.Native.Nat.{ℕ, ◌≤◌}
use native.Mathlib.Omega.{arith}
use lib.ListN.{get_or, drop, replicate}
use Rattle.code.specs.declared.settings.Settings.{Settings}
use Rattle.protocol.specs.declared.Told.TheVariants.{Whole}
use Rattle.protocol.specs.Lengths.{last_slot}
use Rattle.protocol.specs.TwoLists.{Report, ReportMade}
use Rattle.figures.specs.Card.{set_to, send_calls, sent, frames_of, own, reports_of, reported}
use Rattle.figures.proofs.Computing.{computing}
use Rattle.figures.proofs.Claimed.{listing, handed_out}

-- the card's settings
abbrev card : Settings
card = set_to 3 2 2

-- the frames of the card's messages, slots 0 to 4
abbrev frames : List (List ℕ)
frames = frames_of (sent card 5)

-- those of slots 2, 3 and 4 are heard; each lent byte is 7
unfoldable pub late_reports : List Report
late_reports = reports_of (replicate 2 7) (own ∷ own ∷ own ∷ []) (drop 2 frames)

-- the report of this slot hands out this message whole
abbrev pub HandsOut : ℕ → List ℕ → Type 0
HandsOut slot message =
    (r : ReportMade) × Memᴰ r (reported card 2 late_reports) × (r.before.due ≡ slot)
    × (r.after.reply ≡ Ok Whole) × (r.after.message ≡ message)

in_time_lem : 2 ≤ last_slot
unfolding last_slot
in_time_lem = omega arith

-- demand 3 says it, all of its terms being met: messages 0 and 1, from before the opening
pub late : HandsOut 3 (0x01 ∷ 0x00 ∷ []) × HandsOut 4 (0x00 ∷ 0x01 ∷ [])
unfolding computing listing send_calls sent frames_of reports_of late_reports
late =
    let third = Memᴰ.tail (Memᴰ.head refl) in
    let fourth = Memᴰ.tail (Memᴰ.tail (Memᴰ.head refl)) in
    let out =
    handed_out card tt 2 in_time_lem (send_calls card 5) (tt, (tt, (tt, (tt, (tt, tt))))) late_reports
    ((refl, refl, refl), ((refl, refl, refl), ((refl, refl, refl), tt))) in
    let zeroth = out 0 tt _ (get_or frames 3 []) (replicate 2 7) third refl refl refl _ (Memᴰ.head refl) refl refl in
    let first = out 1 tt _ (get_or frames 4 []) (replicate 2 7) fourth refl refl refl _ (Memᴰ.tail (Memᴰ.head refl)) refl refl in
    ((_, third, refl, zeroth.0, zeroth.1), (_, fourth, refl, first.0, first.1))
