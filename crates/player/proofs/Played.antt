-- Every recording: what its fillings hand out, one after another, is its transcript, and they end.
use Rattle.std.specs.Prelude.{Some, Ok, Err}
use mathlib.Core.Path.{◌≡◌, refl}
use mathlib.Core.Bool.{Bool, true, false}
use mathlib.Core.List.{List, ◌++◌, append_assoc}
use Prim.Native.Nat.{ℕ, suc, ◌-◌, ◌≤◌}
use lib.Dec.{eqb, ltb}
use lib.ListN.{length, drop, length-replicate}
use lib.Seq.{take_at}
use borrow.Author.Tests.{ltb-true, ltb-false}
use Rattle.code.specs.declared.settings.Settings.{Settings}
use Rattle.protocol.specs.Answers.{Answer}
use Rattle.lines.specs.Text.{written}
use Rattle.lines.specs.Lent.{longest}
use Rattle.frames.specs.Fields.{settings_in}
use Rattle.stops.specs.Stops.{recording_cause, start_of}
use Rattle.stops.proofs.StartLaws.{passed}
use Rattle.progress.specs.declared.Player.{Player}
use Rattle.reporting.specs.Acts.{Act}
use Rattle.steps.specs.Steps.{begin_of}
use Rattle.reporting.specs.Outcomes.{printed_on}
use Rattle.player.specs.Transcript.{played_from, transcript}
use Rattle.player.specs.Filling.{no_act, after, gathered, filled_of}
use Rattle.player.specs.Printed.{handed_out, Fillings, Printed, Fitting, Playing}
use Rattle.player.proofs.Kept.{act_length}
use Rattle.player.proofs.Gathering.{gathered_none, gathered_last, gathered_more}
use Rattle.player.proofs.StepList.{Steps, from_start}

-- what is handed out is the text that was printed
handed_text : (out : List ℕ) (a : Act) → handed_out (printed_on out a) ≡ a.text
unfolding printed_on written
handed_text out a = take_at a.text (drop (length a.text) out) (length a.text) refl

-- a text by the steps that fill the buffer before buffer i: it is theirs, and they are the last; or the fillings from i on hand out
-- the rest
data HandedOn (recording : List ℕ) (buffer : ℕ → List ℕ) (i : ℕ) (a : Act) : List ℕ → Type 0 where
  done : a.over ≡ true → HandedOn recording buffer i a a.text
  more : (rest : List ℕ) → a.over ≡ false → Fillings recording buffer i a.player a.rows a.message rest
      → HandedOn recording buffer i a (a.text ++ rest)

module _ (recording : List ℕ) (buffer : ℕ → List ℕ) where
  -- a text printed before
  after_text : (i : ℕ) (before : List ℕ) (a : Act) (text : List ℕ) → HandedOn recording buffer i a text
      → HandedOn recording buffer i (after before a) (before ++ text)
  unfolding after
  after_text i before a text (HandedOn.done e) = HandedOn.done e
  after_text i before a text (HandedOn.more rest e fillings) = rw (← append_assoc) (HandedOn.more rest e fillings)

  -- the fillings from i on, by the steps that fill buffer i
  fillings_by : (i : ℕ) (p : Player) (rows message text : List ℕ)
      → HandedOn recording buffer (suc i) (gathered recording (length (buffer i)) p rows message) text
      → Fillings recording buffer i p rows message text
  unfolding filled_of printed_on
  fillings_by i p rows message text (HandedOn.done e) =
      let a = gathered recording (length (buffer i)) p rows message in
      rw (← handed_text (buffer i) a) (Fillings.last i p rows message (printed_on (buffer i) a) refl e)
  fillings_by i p rows message text (HandedOn.more rest e fillings) =
      let a = gathered recording (length (buffer i)) p rows message in
      rw (← handed_text (buffer i) a) (Fillings.next i p rows message rest (printed_on (buffer i) a) refl e fillings)

  module _ (p : Player) (rows message text : List ℕ) where
    -- a buffer that has no room left for the longest line is handed out, and the next one has
    any-room : ((i room : ℕ) → longest message ≤ room → HandedOn recording buffer i (gathered recording room p rows message) text)
        → ((i : ℕ) → longest message ≤ length (buffer i))
        → (i room : ℕ) → HandedOn recording buffer i (gathered recording room p rows message) text
    unfolding no_act
    any-room with-room roomy i room = go (ltb room (longest message)) refl
      where
        go : (b : Bool) → ltb room (longest message) ≡ b → HandedOn recording buffer i (gathered recording room p rows message) text
        go true full =
            rw (gathered_none recording room p rows message (ltb-true room (longest message) full))
            (HandedOn.more text refl (fillings_by i p rows message text (with-room (suc i) (length (buffer i)) (roomy i))))
        go false free = with-room i room (ltb-false room (longest message) free)

  -- steps hand on what they print, where there is room for the longest line
  steps_hand : {p : Player} {rows message text : List ℕ} → Steps recording p rows message text
      → ((i : ℕ) → longest message ≤ length (buffer i))
      → (i room : ℕ) → longest message ≤ room → HandedOn recording buffer i (gathered recording room p rows message) text
  unfolding longest
  steps_hand (Steps.last p rows message a is e) roomy i room fits =
      rw (gathered_last recording room p rows message fits a is e) (HandedOn.done e)
  steps_hand (Steps.next p rows message rest a is e steps) roomy i room fits =
      let still : (j : ℕ) → longest a.message ≤ length (buffer j)
      = λ j. rw (← is, act_length p recording rows message) (roomy j) in
      rw (gathered_more recording room p rows message fits a is e)
      (after_text i a.text (gathered recording (room - length a.text) a.player a.rows a.message) rest
      (any-room a.player a.rows a.message rest (λ j left free. steps_hand steps still j left free) still i (room - length a.text)))

  -- so the fillings hand out what the steps print
  all_fillings : (p : Player) (rows message text : List ℕ) → Steps recording p rows message text
      → ((i : ℕ) → longest message ≤ length (buffer i)) → Fillings recording buffer 0 p rows message text
  all_fillings p rows message text steps roomy =
      fillings_by 0 p rows message text (steps_hand steps roomy 1 (length (buffer 0)) (roomy 0))

-- ---- the theorem

module _ (recording rows message : List ℕ) (buffer : ℕ → List ℕ) (fit : Fitting recording rows message buffer) where
  -- a recording, by its tests before any line
  printed_by : (b : Bool) → eqb (length recording) 0 ≡ b → (f : Answer) → recording_cause recording ≡ f
      → Printed recording rows message buffer (transcript recording)
  unfolding start_of transcript Fitting begin_of longest
  printed_by true none f found = rw (none, transcript) (Printed.nothing (rw (none, start_of)))
  printed_by false some (Err c) found = rw (some, found, transcript) (Printed.refused c (rw (some, found, start_of)))
  printed_by false some (Ok tt) found =
      let s : Settings = settings_in recording in
      let starts : start_of recording ≡ Ok (Some s) = rw (some, found, start_of) in
      let pass = passed recording found in
      let exact = fit s starts in
      let b = begin_of s rows message in
      rw (some, found, transcript)
      (Printed.played s b (played_from s recording) starts refl
      (all_fillings recording buffer b.player b.rows b.message (played_from s recording)
      (from_start recording rows message s pass.0 pass.1 exact.0 exact.1)
      (λ i. rw (length-replicate {A = ℕ} (length message) 0) (exact.2 i))))

-- every recording: what its fillings hand out, one after another, is its transcript, and they end
pub played_through : Playing
unfolding Playing
played_through recording rows message buffer fit =
    printed_by recording rows message buffer fit (eqb (length recording) 0) refl (recording_cause recording) refl
