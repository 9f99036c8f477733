-- The lines of the steps, one after another, are the transcript, and the steps end.
use Rattle.std.specs.Prelude.{Ok, Err}
use mathlib.Core.Path.{◌≡◌, refl, ap}
use mathlib.Core.Bool.{Bool, true, false}
use mathlib.Core.List.{List, ◌∷◌, ◌++◌, append-nil}
use Prim.Native.Nat.{ℕ, zero, suc, ◌+◌, ◌-◌, ◌*◌, ◌/◌, ◌%◌, ◌≤◌, ◌<◌, zero-le}
use native.Mathlib.Nat.{div-add-mod', suc-mul}
use native.Mathlib.Omega.{arith}
use lib.Dec.{T}
use lib.ListN.{length, take, drop, replicate, length-replicate}
use lib.Seq.{drop-drop}
use Rattle.code.specs.declared.settings.Settings.{Settings}
use Rattle.code.specs.Settings.{accepted}
use Rattle.protocol.specs.declared.Receiver.{Receiver}
use Rattle.protocol.specs.Lengths.{message_len, frame_len, receiver_len}
use Rattle.protocol.specs.States.{opened_receiver, reported_on}
use Rattle.protocol.specs.Answers.{Answer}
use Rattle.protocol.specs.Calls.{opened_rows, Reported, loss_of, heard_of}
use Rattle.protocol.proofs.ReportChain.{opened_receiver_lem}
use Rattle.frames.specs.Fields.{slot_in}
use Rattle.stops.specs.Stops.{frame_stop}
use Rattle.stops.proofs.StopLaws.{passing_stop, passing_onward}
use Rattle.progress.specs.declared.Player.{Player}
use Rattle.progress.specs.Refusal.{refuses}
use Rattle.reporting.specs.Acts.{Act, stop_act, report_act}
use Rattle.steps.specs.Steps.{begin_of, end_act, act_of}
use Rattle.steps.proofs.Acts.{loss_onward, heard_onward, player_at, act_end, act_stop, act_loss, act_heard}
use Rattle.player.specs.Transcript.{pieces, Rest, and_then, skipped, played, played_from}

-- the steps from here on end, and this is what they print
pub data Steps (recording : List ℕ) : Player → List ℕ → List ℕ → List ℕ → Type 0 where
  last : (p : Player) (rows message : List ℕ) (a : Act) → act_of p recording rows message ≡ a → a.over ≡ true
      → Steps recording p rows message a.text
  next : (p : Player) (rows message rest : List ℕ) (a : Act) → act_of p recording rows message ≡ a → a.over ≡ false
      → Steps recording a.player a.rows a.message rest
      → Steps recording p rows message (a.text ++ rest)

module _ (recording : List ℕ) (p : Player) (rows message : List ℕ) where
  -- a first step that reports, followed by what the rest prints, unless the report is refused
  report_by : (offset : ℕ) (r : Reported) (k : Rest)
      → act_of p recording rows message ≡ report_act p.receiver offset r
      → (refuses r.reply ≡ false
      → Steps recording (player_at r.receiver offset) r.rows r.message (k r.receiver r.rows r.message))
      → Steps recording p rows message (and_then p.receiver r k)
  unfolding and_then report_act
  report_by offset r k e after = go (refuses r.reply) refl
    where
      go : (b : Bool) → refuses r.reply ≡ b → Steps recording p rows message (and_then p.receiver r k)
      go true is = rw (is, append-nil) (Steps.last p rows message (report_act p.receiver offset r) e is)
      go false is =
          rw is
          (Steps.next p rows message (k r.receiver r.rows r.message) (report_act p.receiver offset r) e is (after is))

-- ---- the frames

module _ (recording : List ℕ) (offset : ℕ) (frames : List (List ℕ)) where
  -- the frame at the offset
  abbrev here : Settings → List ℕ
  here s = take (frame_len s) (drop offset recording)

  -- its report, and what the frames after it print
  abbrev finish : Settings → Rest
  finish s = λ y rows message. and_then y (heard_of y rows (here s) message) (played frames)

  -- from the frame after it on, at any receiver with these settings
  abbrev After : Settings → Type 0
  After s =
      (y : Receiver) → y.settings ≡ s → (rows message : List ℕ)
      → Steps recording (player_at y (offset + frame_len s)) rows message (played frames y rows message)

  -- the report of a frame at the slot due, and what comes after it
  heard_steps : (y : Receiver) → offset + frame_len y.settings ≤ length recording → After y.settings → (rows message : List ℕ)
      → frame_stop y (here y.settings) ≡ Ok tt → slot_in (here y.settings) ≤ y.due
      → Steps recording (player_at y offset) rows message (finish y.settings y rows message)
  heard_steps y fits after rows message e reached =
      let r : Reported = heard_of y rows (here y.settings) message in
      report_by recording (player_at y offset) rows message (offset + frame_len y.settings) r (played frames)
      (act_heard recording (player_at y offset) fits rows message e reached)
      (λ free. rw (heard_onward y rows (here y.settings) message free) (after (reported_on y) refl r.rows r.message))

  -- the skipped slots, then the frame
  skip_steps : (m : ℕ) (y : Receiver) → offset + frame_len y.settings ≤ length recording → After y.settings → (rows message : List ℕ)
      → frame_stop y (here y.settings) ≡ Ok tt → slot_in (here y.settings) - y.due ≡ m
      → Steps recording (player_at y offset) rows message (skipped m (finish y.settings) y rows message)
  unfolding skipped
  skip_steps zero y fits after rows message e left = heard_steps y fits after rows message e (omega arith)
  skip_steps (suc m) y fits after rows message e left =
      let frame : List ℕ = here y.settings in
      let above : y.due < slot_in frame = omega arith in
      let r : Reported = loss_of y rows message in
      let onto : frame_stop (reported_on y) frame ≡ Ok tt =
      passing_stop (reported_on y) frame (passing_onward y frame e above) in
      report_by recording (player_at y offset) rows message offset r (skipped m (finish y.settings))
      (act_loss recording (player_at y offset) fits rows message e above)
      (λ free. rw (loss_onward y rows message free) (skip_steps m (reported_on y) fits after r.rows r.message onto (omega arith)))

  -- a frame and those after it: it stops the player, or its skipped slots are lost and it is reported
  frame_steps : (y : Receiver) → offset + frame_len y.settings ≤ length recording → After y.settings → (rows message : List ℕ)
      → Steps recording (player_at y offset) rows message (played (here y.settings ∷ frames) y rows message)
  unfolding played stop_act
  frame_steps y fits after rows message = go (frame_stop y (here y.settings)) refl
    where
      go : (f : Answer) → frame_stop y (here y.settings) ≡ f
          → Steps recording (player_at y offset) rows message (played (here y.settings ∷ frames) y rows message)
      go (Ok tt) e = rw (e, played) (skip_steps (slot_in (here y.settings) - y.due) y fits after rows message e refl)
      go (Err c) e =
          rw (e, played)
          (Steps.last (player_at y offset) rows message (stop_act (player_at y offset) rows message c)
          (act_stop recording (player_at y offset) fits rows message c e) refl)

-- the frames left, one after another
pieces_steps : (recording : List ℕ) (m offset : ℕ) (y : Receiver) (rows message : List ℕ)
    → offset + m * frame_len y.settings ≡ length recording
    → Steps recording (player_at y offset) rows message (played (pieces m (frame_len y.settings) (drop offset recording)) y rows message)
unfolding pieces played end_act
pieces_steps recording zero offset y rows message left =
    Steps.last (player_at y offset) rows message (end_act (player_at y offset) rows message)
    (act_end recording (player_at y offset) rows message (omega arith)) refl
pieces_steps recording (suc m) offset y rows message left =
    let size : ℕ = frame_len y.settings in
    let more : suc m * size ≡ m * size + size = suc-mul m size in
    rw (drop-drop size offset recording)
    (frame_steps recording offset (pieces m size (drop (offset + size) recording)) y (omega arith)
    (λ z e rows' message'.
    let same : frame_len z.settings ≡ size = ap frame_len e in
    rw same at (pieces_steps recording m (offset + size) z rows' message' (rw same (omega arith))))
    rows message)

-- ---- from the start

-- a recording that passes, from its start: the steps print what it prints, and end
pub from_start : (recording rows message : List ℕ) (s : Settings) → T (accepted s) → length recording % frame_len s ≡ 0
    → length rows ≡ receiver_len s → length message ≡ message_len s
    → Steps recording (begin_of s rows message).player (begin_of s rows message).rows (begin_of s rows message).message
    (played_from s recording)
unfolding begin_of played_from
from_start recording rows message s ok whole rows_exact message_exact =
    let frames : ℕ = length recording / frame_len s in
    let zeros : List ℕ = replicate (receiver_len s) 0 in
    rw (
      opened_receiver_lem s 0 rows record { settings = ok; exact = rows_exact; in_time_lem = zero-le },
      opened_receiver_lem s 0 zeros record { settings = ok; exact = length-replicate (receiver_len s) 0; in_time_lem = zero-le },
      message_exact,
    )
    (pieces_steps recording frames 0 (opened_receiver s 0) (opened_rows s 0) (replicate (message_len s) 0)
    (omega (arith, div-add-mod' (length recording) (frame_len s))))
