-- Document 02 §1 from demand 3: a fade of four slots, inside which one frame was heard. By document 01's rule its losses are not fair;
-- they are fair now, and the demand hands out the message of its first slot whole, as sent.
use Rattle.std.specs.Prelude.{Ok}
use mathlib.Core.Path.{◌≡◌, refl, subst⁻¹}
use mathlib.Core.Bool.{Bool, not}
use mathlib.Core.List.{List, [], ◌∷◌, Memᴰ}
use Prim.Native.Nat.{ℕ, ◌+◌, ◌*◌, zero-le}
use lib.Dec.{T}
use lib.ListN.{get_or, replicate}
use Rattle.galois.specs.Bounded.{every, any}
use Rattle.galois.specs.Table.{table}
use Rattle.code.specs.declared.settings.Settings.{Settings}
use Rattle.repair.specs.FairBefore.{run_at, one_run, stretch_before}
use Rattle.protocol.specs.declared.Told.TheVariants.{Whole}
use Rattle.protocol.specs.Lengths.{frame_len, message_len}
use Rattle.protocol.specs.TwoLists.{Send, Report, ReportMade}
use Rattle.protocol.specs.Histories.{lost_at}
use Rattle.figures.specs.Card.{set_to, frames_of, Fate, lost, own, reports_of, reported}
use Rattle.figures.proofs.Computing.{computing}
use Rattle.figures.proofs.Claimed.{sent_by, losses_alone, listing, handed_out}

-- T = 5, B = 4, N = 1, so that messages have five bytes
abbrev settings : Settings
settings = set_to 5 4 1

-- of the slots 0 to 3 one is heard
abbrev fates : List Fate
fates = lost ∷ lost ∷ own ∷ lost ∷ own ∷ own ∷ []

-- message t is the bytes 16 t + 1 to 16 t + 5; each lent byte is 7
unfoldable pub fade_sends : List Send
fade_sends = table 6 (λ t. record { message = table 5 (λ i. 16 * t + 1 + i); frame = replicate (frame_len settings) 7 })

-- the frames, and what is reported of them
unfoldable pub fade_frames : List (List ℕ)
fade_frames = frames_of (sent_by settings fade_sends)

unfoldable pub fade_reports : List Report
fade_reports = reports_of (replicate (message_len settings) 7) fates fade_frames

-- the report of slot 5 hands out message 0 whole
abbrev pub Fade : Type 0
Fade =
    (r : ReportMade) × Memᴰ r (reported settings 0 fade_reports) × (r.before.due ≡ 5)
    × (r.after.reply ≡ Ok Whole) × (r.after.message ≡ 1 ∷ 2 ∷ 3 ∷ 4 ∷ 5 ∷ [])

-- by document 01's rule the losses of the four slots are not fair
pub not_fair_before : T (not (stretch_before settings (lost_at (reported settings 0 fade_reports)) 0 4))
unfolding computing listing fade_sends fade_frames fade_reports frames_of reports_of every any run_at one_run stretch_before
not_fair_before =
    subst⁻¹ (λ (lost : ℕ → Bool). T (not (stretch_before settings lost 0 4)))
    (λ i τ. losses_alone (reported settings 0 fade_reports) τ i) tt

-- demand 3 says it, all of its terms being met
pub fade : Fade
unfolding computing listing fade_sends fade_frames fade_reports frames_of reports_of
fade =
    let here = Memᴰ.tail (Memᴰ.tail (Memᴰ.tail (Memᴰ.tail (Memᴰ.tail (Memᴰ.head refl))))) in
    let out =
    handed_out settings tt 0 zero-le fade_sends (tt, (tt, (tt, (tt, (tt, (tt, tt)))))) fade_reports
    ((refl, refl, tt), ((refl, refl, tt), ((refl, refl, refl), ((refl, refl, tt), ((refl, refl, refl), ((refl, refl, refl), tt))))))
    0 tt _ (get_or fade_frames 5 []) (replicate 5 7) here refl refl refl _ (Memᴰ.head refl) refl refl in
    (_, here, refl, out.0, out.1)
