-- A recording beside an empty one: what the pair prints slot by slot is what the recording prints frame by frame.
use Rattle.std.specs.Prelude.{Ok}
use mathlib.Core.Path.{◌≡◌, refl, sym, ap, ◌∙◌}
use mathlib.Core.Bool.{Bool, true, false}
use mathlib.Core.Logic.{⊎_elim}
use mathlib.Core.List.{List, ◌++◌}
use Prim.Native.Nat.{ℕ, zero, suc, ◌+◌, ◌-◌, ◌*◌, ◌≤◌, ◌<◌}
use native.Mathlib.Nat.{suc-mul, le_refl}
use native.Mathlib.Omega.{arith}
use lib.ListN.{length, drop}
use lib.Seq.{drop-drop}
use borrow.Author.Tests.{ne_eqb}
use Rattle.galois.proofs.Cases.{le_or_lt}
use Rattle.code.specs.declared.settings.Settings.{Settings}
use Rattle.protocol.specs.declared.Receiver.{Receiver}
use Rattle.protocol.specs.Lengths.{frame_len}
use Rattle.protocol.specs.Frame.{mark, five}
use Rattle.protocol.specs.States.{receiver_at}
use Rattle.protocol.specs.Causes.{agree, header_cause}
use Rattle.protocol.specs.Calls.{Reported, message_due, loss_of, heard_of}
use Rattle.protocol.specs.TwoLists.{heard, missed, report_of}
use Rattle.protocol.proofs.CauseTables.{fails}
use Rattle.aerials.specs.Pair.{frames_in, frame_of, slot_of, has, pair_cause}
use Rattle.aerials.specs.Sound.{Sound, Rising}
use Rattle.aerials.proofs.FrameLaws.{frame_long, frame_length}
use Rattle.aerials.proofs.PartLaws.{has_frame, frame_had}
use Rattle.aerials.proofs.NextLaws.{no_lower}
use Rattle.feeding.specs.Fed.{lent, fed_by}
use Rattle.lines.specs.Text.{line_of}
use Rattle.stops.proofs.StopLaws.{stop_above, passing_stop}
use Rattle.progress.specs.Refusal.{refuses}
use Rattle.player.specs.Transcript.{pieces, Rest, and_then, skipped, played}
use Rattle.pairplay.specs.Transcript.{slots_in, fed_on}
use Rattle.pairplay.proofs.Slots.{either, has_within, last_had, silent_far, silent_near}
use Rattle.pairplay.proofs.NextActs.{lent_none, fed_missed, report_onward}

-- what two texts say after a report is the same, if it is where the report is not refused
then_same : (x : Receiver) (r : Reported) (k k' : Rest)
    → (refuses r.reply ≡ false → k r.receiver r.rows r.message ≡ k' r.receiver r.rows r.message)
    → and_then x r k ≡ and_then x r k'
unfolding and_then
then_same x r k k' same = go (refuses r.reply) refl
  where
    go : (b : Bool) → refuses r.reply ≡ b → and_then x r k ≡ and_then x r k'
    go true e = rw e
    go false e = rw e (ap (λ (rest : List ℕ). line_of (message_due x.settings x.due) r.reply r.message ++ rest) (same e))

-- an accepted pair has the slots and lends the frames of this recording
pub record Beside (s : Settings) (first second recording : List ℕ) : Type 0 where
  pub accepted : pair_cause s first second ≡ 0
  pub sound : Sound s recording
  pub either_is : (slot : ℕ) → either s first second slot ≡ has s recording slot
  pub lends : (i : ℕ) → i < frames_in s recording → lent s first second (slot_of s recording i) ≡ frame_of s recording i

module _ (s : Settings) (first second recording : List ℕ) (b : Beside s first second recording) (opening : ℕ) where
  -- the receiver with this slot due
  abbrev at : ℕ → Receiver
  at = receiver_at s opening

  -- what is printed of the slots from this one on
  abbrev slots_from : ℕ → List ℕ → List ℕ → List ℕ
  slots_from d rows message = fed_on s first second (slots_in s recording - d) (at d) rows message

  rises : Rising s recording
  unfolding Rising
  rises = b.sound.rising

  -- before its last frame, slot by slot: the slot due is reported by what is lent for it
  slot_first : (d n : ℕ) → d ≤ n → n ≤ d + 4095 → has s recording n ≡ true → (rows message : List ℕ)
      → slots_from d rows message
      ≡ and_then (at d) (report_of (at d) rows (fed_by (lent s first second d) message))
      (fed_on s first second (slots_in s recording - (d + 1)))
  unfolding fed_on
  slot_first d n onward near there rows message =
      let within = has_within s recording rises n there in
      let more : slots_in s recording - d ≡ suc (slots_in s recording - (d + 1)) = omega arith in
      rw (more, fed_on, silent_near s first second d n onward near (b.either_is n ∙ there))

  -- a slot that it has not is reported as a loss
  slot_missed : (d : ℕ) → has s recording d ≡ false → (message : List ℕ) → fed_by (lent s first second d) message ≡ missed message
  slot_missed d none message =
      fed_missed s first second b.accepted d (lent_none s first second b.accepted d (b.either_is d ∙ none)) message

  module _ (j : ℕ) (within : j < frames_in s recording) where
    abbrev frame : List ℕ
    frame = frame_of s recording j

    abbrev n : ℕ
    n = slot_of s recording j

    -- and one that it has by its frame
    slot_heard : (message : List ℕ) → fed_by (lent s first second n) message ≡ heard frame message
    unfolding fed_by
    slot_heard message =
        let long = frame_long s in
        let some : fed_by frame message ≡ heard frame message
        = rw (ne_eqb (length frame) 0 (λ z. omega (arith, frame_length s recording j within)), fed_by) in
        ap (λ (part : List ℕ). fed_by part message) (b.lends j within) ∙ some

    -- its mark and settings are those of the receiver
    own : header_cause 1 s frame ≡ Ok tt
    unfolding header_cause
    own =
        rw (
          fails (agree 5 frame (mark 1)) (b.sound.marked j within),
          fails (agree 5 (drop 5 frame) (five s)) (b.sound.settled j within),
        )

    module _ (frames : List (List ℕ))
        (after : (rows message : List ℕ) → played frames (at (n + 1)) rows message ≡ slots_from (n + 1) rows message) where
      -- the skipped slots, and then the frame
      skipped_same : (g d : ℕ) → n ≡ d + g → n ≤ d + 4095 → ((k : ℕ) → d ≤ k → k < n → has s recording k ≡ false)
          → (rows message : List ℕ)
          → skipped g (λ y rows' message'. and_then y (heard_of y rows' frame message') (played frames)) (at d) rows message
          ≡ slots_from d rows message
      unfolding skipped report_of
      skipped_same zero d here near none rows message =
          let same : d ≡ n = omega arith in
          rw (same, slot_first n n (le_refl n) (omega arith) (has_frame s recording j within) rows message, slot_heard message)
          (then_same (at n) (heard_of (at n) rows frame message) (played frames) (fed_on s first second (slots_in s recording - (n + 1)))
          (λ free.
          rw (report_onward (at n) rows (heard frame message) free)
          (after (heard_of (at n) rows frame message).rows (heard_of (at n) rows frame message).message)))
      skipped_same (suc g) d here near none rows message =
          let r : Reported = loss_of (at d) rows message in
          rw (
            slot_first d n (omega arith) near (has_frame s recording j within) rows message,
            slot_missed d (none d (le_refl d) (omega arith)) message,
          )
          (then_same (at d) r (skipped g (λ y rows' message'. and_then y (heard_of y rows' frame message') (played frames)))
          (fed_on s first second (slots_in s recording - (d + 1)))
          (λ free.
          rw (report_onward (at d) rows (missed message) free)
          (skipped_same g (d + 1) (omega arith) (omega arith) (λ k low high. none k (omega arith) high) r.rows r.message)))

  -- no slot before the next frame's is one of its own
  none_between : (j d : ℕ) → j < frames_in s recording → ((i : ℕ) → i < j → slot_of s recording i < d)
      → (k : ℕ) → d ≤ k → k < slot_of s recording j → has s recording k ≡ false
  none_between j d within past k low high = go (has s recording k) refl
    where
      go : (c : Bool) → has s recording k ≡ c → has s recording k ≡ false
      go false e = e
      go true e =
          let (i, inside, stands) = frame_had s recording k e in
          absurd
          (⊎_elim (λ later. omega (arith, no_lower s recording rises j i later inside)) (λ before. omega (arith, past i before))
          (le_or_lt j i))

  -- the frames left, one after another
  pub frames_same : (m j d : ℕ) → j + m ≡ frames_in s recording → ((i : ℕ) → i < j → slot_of s recording i < d)
      → (j < frames_in s recording → d ≤ slot_of s recording j) → (rows message : List ℕ)
      → played (pieces m (frame_len s) (drop (j * frame_len s) recording)) (at d) rows message ≡ slots_from d rows message
  unfolding pieces played fed_on frame_of slot_of Rising
  frames_same zero j d left past onward rows message =
      let none : slots_in s recording ≤ d
      = ⊎_elim (λ l. l)
      (λ more.
      let (n, low, there) = last_had s recording d more in
      let (i, inside, stands) = frame_had s recording n there in
      absurd (omega (arith, past i (omega arith))))
      (le_or_lt (slots_in s recording) d) in
      let over : slots_in s recording - d ≡ 0 = omega arith in
      rw over
  frames_same (suc m) j d left past onward rows message =
      let within : j < frames_in s recording = omega arith in
      let n : ℕ = slot_of s recording j in
      let low : d ≤ n = onward within in
      let frame : List ℕ = frame_of s recording j in
      let size : ℕ = frame_len s in
      let frames : List (List ℕ) = pieces m size (drop (suc j * size) recording) in
      let between = none_between j d within past in
      let rest : drop size (drop (j * size) recording) ≡ drop (suc j * size) recording
      = drop-drop size (j * size) recording ∙ ap (λ (k : ℕ). drop k recording) (sym (suc-mul j size)) in
      rw rest
      (⊎_elim
      (λ near.
      rw (passing_stop (at d) frame record { own = own j within; low = low; high = near }, played)
      (skipped_same j within frames
      (λ rows' message'.
      frames_same m (suc j) (n + 1) (omega arith) (λ i h. omega (arith, no_lower s recording rises i j (omega arith) within))
      (λ more. omega (arith, rises j (suc j) (omega arith) more)) rows' message')
      (n - d) d (omega arith) near between rows message))
      (λ far.
      let inside = has_within s recording rises n (has_frame s recording j within) in
      let more : slots_in s recording - d ≡ suc (slots_in s recording - (d + 1)) = omega arith in
      rw (
        sym (stop_above (at d) frame (own j within) low far),
        more,
        played,
        fed_on,
        silent_far s first second d n (λ k l h. b.either_is k ∙ between k l h) far,
      ))
      (le_or_lt n (d + 4095)))
