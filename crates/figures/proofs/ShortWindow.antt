-- Document 02 §5's example, a window of three slots and T = 9, which works as T = 2: its frames are those of T = 2 but for the T in their
-- headers, for which the receiver of the one refuses the other's; and demand 3 hands out whole, as sent, what a burst of two slots lost.
use Rattle.std.specs.Prelude.{Ok, Err}
use mathlib.Core.Path.{◌≡◌, refl}
use mathlib.Core.List.{List, [], ◌∷◌, map, ◌++◌, Memᴰ}
use Prim.Native.Nat.{ℕ, zero-le}
use lib.ListN.{get_or, take, drop, replicate}
use Rattle.code.specs.declared.settings.Settings.{Settings}
use Rattle.protocol.specs.declared.Cause.TheVariants.{OtherSettings}
use Rattle.protocol.specs.Answers.{Reply}
use Rattle.protocol.specs.declared.Told.TheVariants.{Whole}
use Rattle.protocol.specs.TwoLists.{Report, heard, ReportMade}
use Rattle.figures.specs.Card.{set_to, send_calls, sent, frames_of, lost, own, reports_of, reported}
use Rattle.figures.proofs.Computing.{computing}
use Rattle.figures.proofs.Claimed.{listing, handed_out}

-- W = 3, T = 9, B = 2, N = 1, and the same with T = 2
abbrev short : Settings
short = record { window = 3; delay = 9; burst = 2; scattered = 1; lanes = 1 }

abbrev plain : Settings
plain = set_to 2 2 1

-- the frames of the card's messages, slots 0 to 3
abbrev frames : Settings → List (List ℕ)
frames s = frames_of (sent s 4)

-- a frame without its T
abbrev but_delay : List ℕ → List ℕ
but_delay frame = take 6 frame ++ drop 7 frame

pub same_frames : map but_delay (frames short) ≡ map but_delay (frames plain)
unfolding computing send_calls sent frames_of
same_frames = refl

-- what a receiver with these settings replies to the first frame of the other ones
abbrev replies_to : Settings → Settings → List Reply
replies_to s other = map (λ r. r.after.reply) (reported s 0 (heard (get_or (frames other) 0 []) (replicate 2 7) ∷ []))

pub refuse_each_other : (replies_to short plain ≡ Err OtherSettings ∷ [])
    × (replies_to plain short ≡ Err OtherSettings ∷ [])
unfolding computing listing send_calls sent frames_of
refuse_each_other = (refl, refl)

-- slots 0 and 1 are lost, 2 and 3 heard; each lent byte is 7
unfoldable pub short_reports : List Report
short_reports = reports_of (replicate 2 7) (lost ∷ lost ∷ own ∷ own ∷ []) (frames short)

-- the report of this slot hands out this message whole
abbrev pub HandsOut : ℕ → List ℕ → Type 0
HandsOut slot message =
    (r : ReportMade) × Memᴰ r (reported short 0 short_reports) × (r.before.due ≡ slot)
    × (r.after.reply ≡ Ok Whole) × (r.after.message ≡ message)

-- demand 3 says it, all of its terms being met: two slots after each
pub short_window : HandsOut 2 (0x01 ∷ 0x00 ∷ []) × HandsOut 3 (0x00 ∷ 0x01 ∷ [])
unfolding computing listing send_calls sent frames_of reports_of short_reports
short_window =
    let third = Memᴰ.tail (Memᴰ.tail (Memᴰ.head refl)) in
    let fourth = Memᴰ.tail (Memᴰ.tail (Memᴰ.tail (Memᴰ.head refl))) in
    let out =
    handed_out short tt 0 zero-le (send_calls short 4) (tt, (tt, (tt, (tt, tt)))) short_reports
    ((refl, refl, tt), ((refl, refl, tt), ((refl, refl, refl), ((refl, refl, refl), tt)))) in
    let buffer : List ℕ = replicate 2 7 in
    let zeroth = out 0 tt _ (get_or (frames short) 2 []) buffer third refl refl refl _ (Memᴰ.head refl) refl refl in
    let first = out 1 tt _ (get_or (frames short) 3 []) buffer fourth refl refl refl _ (Memᴰ.tail (Memᴰ.head refl)) refl refl in
    ((_, third, refl, zeroth.0, zeroth.1), (_, fourth, refl, first.0, first.1))
