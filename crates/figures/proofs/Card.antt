-- Every figure on the card is what the definitions give.
use mathlib.Core.Path.{◌≡◌, refl, ap, subst⁻¹}
use mathlib.Core.Logic.{⊎_elim}
use mathlib.Core.List.Memᴰ
use mathlib.Core.List.{List, [], ◌∷◌, Memᴰ}
use lib.Dec.{T}
use lib.ListN.{drop, replicate}
use Rattle.code.specs.declared.settings.Settings.{Settings}
use Rattle.code.specs.Settings.{accepted, delay_of}
use Rattle.protocol.specs.Lengths.{receiver_len}
use Rattle.protocol.specs.Calls.{OpenedReceiver, open_receiver_of}
use Rattle.protocol.specs.TwoLists.{ReportMade}
use Rattle.protocol.proofs.QuickVerdict.{quick_reports, small, small_frames, quick_reports_lem}
use Rattle.figures.specs.Card.{told, Figure, figures, set_to, row_of, parity, unit_parities, send_calls, sent, frames_of, bodies_of}
use Rattle.figures.specs.Card.{Fate, reports_of, calls, reported, told_by, told_of}
use Rattle.figures.proofs.Computing.{computing}

-- P holds at each member of a list
abbrev pub Each : {A : Type 0} → (A → Type 0) → List A → Type 0
Each P [] = Unit {0}
Each P (x ∷ xs) = P x × Each P xs

-- so it holds at any member
pub from_each : {A : Type 0} (P : A → Type 0) (l : List A) → Each P l → (x : A) → Memᴰ x l → P x
from_each P [] each x h = absurd (Memᴰ.not-nil h)
from_each P (y ∷ l) each x h =
    ⊎_elim (λ same. subst⁻¹ P same each.0) (λ later. from_each P l each.1 x later) (Memᴰ.cases_cons h)

-- ---- reports through elimination, which computes

-- what the reports come to, through elimination
unfoldable pub quick_reported : Settings → List Fate → List ReportMade
quick_reported s fates =
    let opened : OpenedReceiver = open_receiver_of s 0 (replicate (receiver_len s) 7) in
    quick_reports opened.receiver opened.rows (calls s fates)

-- it is what they come to, where the opening is accepted and each frame is made of bytes
pub reported_quickly : (s : Settings) (fates : List Fate)
    → let opened : OpenedReceiver = open_receiver_of s 0 (replicate (receiver_len s) 7) in
    T (accepted opened.receiver.settings) → T (small opened.rows) → T (small_frames (calls s fates))
    → reported s 0 (calls s fates) ≡ quick_reported s fates
unfolding quick_reported reported
reported_quickly s fates ok hs h =
    let opened : OpenedReceiver = open_receiver_of s 0 (replicate (receiver_len s) 7) in
    quick_reports_lem opened.receiver ok opened.rows hs (calls s fates) h

-- so is what they tell
told_quickly : (s : Settings) (fates : List Fate) → reported s 0 (calls s fates) ≡ quick_reported s fates
    → told (told_of s fates) ≡ told (drop (delay_of s) (told_by s (quick_reported s fates)))
unfolding told_of
told_quickly s fates = ap (λ (made : List ReportMade). told (drop (delay_of s) (told_by s made)))

-- ---- the card

-- each row is computed, those of the receiver through elimination
rows : Each (λ f. f.given ≡ f.card) figures
unfolding computing figures row_of parity unit_parities bodies_of frames_of send_calls sent calls reports_of quick_reported told_by
rows =
    let told-so : (fates : List Fate) → T (small_frames (calls (set_to 3 2 2) fates))
    → told (told_of (set_to 3 2 2) fates) ≡ told (drop 3 (told_by (set_to 3 2 2) (quick_reported (set_to 3 2 2) fates)))
    = λ fates h. told_quickly (set_to 3 2 2) fates (reported_quickly (set_to 3 2 2) fates tt tt h) in (
      refl,
      (refl, (refl, (refl, (refl, (refl, (refl, (refl, (refl, (told-so _ tt, (told-so _ tt, (told-so _ tt, tt))))))))))),
    )

-- every figure of the table
pub every_figure : (f : Figure) → Memᴰ f figures → f.given ≡ f.card
every_figure = from_each (λ f. f.given ≡ f.card) figures rows
