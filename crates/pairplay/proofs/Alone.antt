-- A pair of which one recording is empty: `one_empty`, whose statement is `OneEmpty` of specs/Alone.antt.
use Rattle.std.specs.Prelude.{Ok, Err}
use mathlib.Core.Path.{◌≡◌, refl, sym, ap, ◌∙◌}
use mathlib.Core.Bool.{Bool, true, false, not, ◌||◌, or-false}
use mathlib.Core.Logic.{◌≢◌, ◌⊎◌, inl, inr, ⊎_elim}
use mathlib.Core.List.{List, [], ◌∷◌}
use Prim.Native.Nat.{ℕ, zero, suc, ◌+◌, ◌-◌, ◌/◌, ◌%◌, ◌≤◌, ◌<◌, zero-le}
use native.Mathlib.Nat.{zero-mod, zero-mul, div-add-mod'}
use native.Mathlib.Omega.{arith}
use lib.Dec.{T, eqb, ltb}
use lib.ListN.{length, take, replicate, length-replicate}
use borrow.Author.Tests.{ne_eqb, lt-ltb, le-ltb, ltb-false, eqb-true, not-false}
use Rattle.galois.specs.Bounded.{any}
use Rattle.galois.proofs.Cases.{any-one, any_none, le_or_lt}
use Rattle.code.specs.declared.settings.Settings.{Settings}
use Rattle.code.specs.Settings.{accepted}
use Rattle.protocol.specs.declared.Cause.{Cause}
use Rattle.protocol.specs.declared.Cause.TheVariants.{BadSettings, BadLength, OtherMark}
use Rattle.protocol.specs.Lengths.{message_len, frame_len, receiver_len}
use Rattle.protocol.specs.Frame.{mark}
use Rattle.protocol.specs.States.{opened_receiver}
use Rattle.protocol.specs.Causes.{number_of, agree, header_cause}
use Rattle.protocol.specs.Calls.{opened_rows}
use Rattle.protocol.proofs.CauseTables.{check_clear, passes, fails}
use Rattle.protocol.proofs.ReportChain.{opened_receiver_lem}
use Rattle.protocol.proofs.LookUps.{neither}
use Rattle.frames.specs.Fields.{settings_in}
use Rattle.lines.specs.Text.{stop_text}
use Rattle.aerials.specs.Tables.{numbered, first_number}
use Rattle.aerials.specs.Pair.{frames_in, frame_of, has, unfit, other_mark, other_settings, falling, unlike, pair_cause}
use Rattle.aerials.proofs.FrameLaws.{frames_few}
use Rattle.aerials.proofs.PairLaws.{checked}
use Rattle.aerials.proofs.Lent.{joining}
use Rattle.stops.specs.Stops.{recording_cause}
use Rattle.stops.proofs.StopLaws.{stop_header}
use Rattle.player.specs.Transcript.{pieces, played, played_from, transcript}
use Rattle.pairplay.specs.Transcript.{shown_by, pair_stop, slots_in, slots_of, pair_played, pair_transcript}
use Rattle.pairplay.specs.Alone.{AsAlone, OneEmpty}
use Rattle.pairplay.proofs.Beside.{Beside, frames_same}

-- ---- an empty recording

module _ (s : Settings) where
  -- it has no frame
  no_frames : frames_in s [] ≡ 0
  no_frames = omega (arith, frames_few s [])

  has_none : (slot : ℕ) → has s [] slot ≡ false
  unfolding has any
  has_none slot = rw no_frames

  no_slots : slots_in s [] ≡ 0
  unfolding slots_in
  no_slots = rw (no_frames, slots_in)

  -- and nothing is wrong with it
  fit : unfit s [] ≡ false
  unfolding unfit
  fit = rw (zero-mod (frame_len s))

  marks : other_mark s [] ≡ false
  unfolding other_mark any
  marks = rw no_frames

  settles : other_settings s [] ≡ false
  unfolding other_settings any
  settles = rw no_frames

  rises : falling s [] ≡ false
  unfolding falling any
  rises = rw no_frames

  -- nor beside another
  unlike_second : (recording : List ℕ) → unlike s recording [] ≡ false
  unfolding unlike any
  unlike_second recording = any_none (frames_in s recording) _ (λ i h t. rw no_frames at t)

  unlike_first : (recording : List ℕ) → unlike s [] recording ≡ false
  unfolding unlike any
  unlike_first recording = rw no_frames

  -- so the check of the pair is the same in either place
  either_place : (recording : List ℕ) → pair_cause s [] recording ≡ pair_cause s recording []
  unfolding pair_cause
  either_place recording =
      rw (
        fit,
        marks,
        settles,
        rises,
        unlike_first recording,
        unlike_second recording,
        or-false (unfit s recording),
        or-false (other_mark s recording),
        or-false (other_settings s recording),
        or-false (falling s recording),
      )

-- ---- an accepted recording

module _ (s : Settings) (recording : List ℕ) where
  -- what an accepted pair plays of its slots is what the recording plays
  played_same : (first second : List ℕ) → Beside s first second recording → slots_of s first second ≡ slots_in s recording
      → T (accepted s) → pair_played s first second ≡ played_from s recording
  unfolding pair_played played_from frames_in
  played_same first second b slots ok =
      let zeros : List ℕ = replicate (receiver_len s) 0 in
      let left : slots_of s first second ≡ slots_in s recording - 0 = omega arith in
      rw (opened_receiver_lem s 0 zeros record { settings = ok; exact = length-replicate (receiver_len s) 0; in_time_lem = zero-le }, left)
      (sym
      (rw (zero-mul (frame_len s)) at
      (frames_same s first second recording b 0 (frames_in s recording) 0 0 (omega arith) (λ i h. absurd (omega arith)) (λ h. zero-le)
      (opened_rows s 0) (replicate (message_len s) 0))))

  -- as the first of a pair
  first_played : pair_cause s recording [] ≡ 0 → pair_played s recording [] ≡ played_from s recording
  unfolding slots_of
  first_played e =
      let pair = checked s recording [] e in
      let b : Beside s recording [] recording = record {
        accepted = e;
        sound = pair.one;
        either_is = λ slot. rw (has_none s slot) (or-false (has s recording slot));
        lends = λ i h. (joining.of_first s recording [] e i h).1;
      } in
      played_same recording [] b (omega (arith, no_slots s)) pair.settings

  -- and as the second
  second_played : pair_cause s [] recording ≡ 0 → pair_played s [] recording ≡ played_from s recording
  unfolding slots_of
  second_played e =
      let pair = checked s [] recording e in
      let b : Beside s [] recording recording = record {
        accepted = e;
        sound = pair.two;
        either_is = λ slot. rw (has_none s slot);
        lends = λ i h. (joining.of_second s [] recording e i h (has_none s _)).1;
      } in
      played_same [] recording b (omega (arith, no_slots s)) pair.settings

-- ---- a recording that is not empty

module _ (recording : List ℕ) (some : length recording ≢ 0) where
  abbrev s : Settings
  s = settings_in recording

  -- the settings are its own, in either place
  shown_first : shown_by recording [] ≡ recording
  unfolding shown_by
  shown_first = rw (ne_eqb (length recording) 0 some, shown_by)

  shown_second : shown_by [] recording ≡ recording
  unfolding shown_by
  shown_second = refl

  -- shorter than a header it meets 2
  stop_short : length recording < 14 → (pair_stop recording [] ≡ 2) × (pair_stop [] recording ≡ 2)
  unfolding pair_stop
  stop_short h =
      let short : (shown : List ℕ) → shown ≡ recording → ltb (length shown) 14 ≡ true
      = λ shown is. ap (λ (l : List ℕ). ltb (length l) 14) is ∙ lt-ltb (length recording) 14 h in
      (rw (short (shown_by recording []) shown_first, pair_stop), rw (short (shown_by [] recording) shown_second, pair_stop))

  -- else the check of the pair
  stop_headed : 14 ≤ length recording
      → (pair_stop recording [] ≡ pair_cause s recording []) × (pair_stop [] recording ≡ pair_cause s recording [])
  unfolding pair_stop
  stop_headed h =
      let long : (shown : List ℕ) → shown ≡ recording → ltb (length shown) 14 ≡ false
      = λ shown is. ap (λ (l : List ℕ). ltb (length l) 14) is ∙ le-ltb (length recording) 14 h in (
        rw (long (shown_by recording []) shown_first, pair_stop, shown_first),
        rw (long (shown_by [] recording) shown_second, pair_stop, shown_second) (either_place s recording),
      )

  stop_second : pair_stop [] recording ≡ pair_stop recording []
  stop_second =
      ⊎_elim (λ long. let (a, b) = stop_headed long in b ∙ sym a) (λ short. let (a, b) = stop_short short in b ∙ sym a)
      (le_or_lt 14 (length recording))

  -- what it prints in a pair that is refused, and alone
  first_stops : (n : ℕ) → pair_stop recording [] ≡ suc n → pair_transcript recording [] ≡ stop_text (suc n)
  unfolding pair_transcript
  first_stops n e = rw (ne_eqb (length recording + 0) 0 (λ z. some (omega arith)), e, pair_transcript)

  second_stops : (n : ℕ) → pair_stop recording [] ≡ suc n → pair_transcript [] recording ≡ stop_text (suc n)
  unfolding pair_transcript
  second_stops n e = rw (ne_eqb (0 + length recording) 0 (λ z. some (omega arith)), stop_second ∙ e, pair_transcript)

  alone_stops : (c : Cause) → recording_cause recording ≡ Err c → transcript recording ≡ stop_text (number_of c)
  unfolding transcript
  alone_stops c e = rw (ne_eqb (length recording) 0 some, e, transcript)

  -- the same, where both are of one number
  both_stop : (n : ℕ) (c : Cause) → pair_stop recording [] ≡ suc n → recording_cause recording ≡ Err c → number_of c ≡ suc n
      → AsAlone recording
  both_stop n c e found is =
      let alone : transcript recording ≡ stop_text (suc n) = alone_stops c found ∙ ap stop_text is in
      record { as_first = first_stops n e ∙ sym alone; as_second = second_stops n e ∙ sym alone }

  -- and where both are played
  both_play : 14 ≤ length recording → pair_stop recording [] ≡ 0 → recording_cause recording ≡ Ok tt → AsAlone recording
  unfolding transcript pair_transcript
  both_play headed e found =
      let alone : transcript recording ≡ played_from s recording = rw (ne_eqb (length recording) 0 some, found, transcript) in
      let clear : pair_cause s recording [] ≡ 0 = sym (stop_headed headed).0 ∙ e in
      let first : pair_transcript recording [] ≡ pair_played s recording []
      = rw (ne_eqb (length recording + 0) 0 (λ z. some (omega arith)), e, pair_transcript, shown_first) in
      let second : pair_transcript [] recording ≡ pair_played s [] recording
      = rw (ne_eqb (0 + length recording) 0 (λ z. some (omega arith)), stop_second ∙ e, pair_transcript, shown_second) in
      record {
        as_first = first ∙ first_played s recording clear ∙ sym alone;
        as_second = second ∙ second_played s recording (either_place s recording ∙ clear) ∙ sym alone;
      }

  -- ---- by what is wrong with it

  -- settings that are not accepted are 1 in a pair
  settings_first : accepted s ≡ false → pair_cause s recording [] ≡ 1
  unfolding pair_cause
  settings_first e = rw e

  -- a length that is not right is 2
  length-next : T (accepted s) → unfit s recording ≡ true → pair_cause s recording [] ≡ 2
  unfolding pair_cause
  length-next ok e = rw (fails (accepted s) ok, e)

  -- and with both right there is 4, 5, 9 or nothing
  pair_rest : T (accepted s) → unfit s recording ≡ false → pair_cause s recording [] ≤ 2 → pair_cause s recording [] ≡ 0
  unfolding pair_cause
  pair_rest ok e =
      rw (fails (accepted s) ok, e, fit s)
      (none_low (other_mark s recording || other_mark s []) (other_settings s recording || other_settings s [])
      (falling s recording || falling s []) (unlike s recording []))
    where
      none_low : (a b c d : Bool) → first_number (numbered a 4 ∷ numbered b 5 ∷ numbered c 9 ∷ numbered d 10 ∷ []) ≤ 2
          → first_number (numbered a 4 ∷ numbered b 5 ∷ numbered c 9 ∷ numbered d 10 ∷ []) ≡ 0
      none_low true b c d low = absurd (omega arith)
      none_low false true c d low = absurd (omega arith)
      none_low false false true d low = absurd (omega arith)
      none_low false false false true low = absurd (omega arith)
      none_low false false false false low = refl

  module _ (headed : 14 ≤ length recording) where
    -- alone, a length over 64 KiB comes first
    alone_long : 65536 < length recording → recording_cause recording ≡ Err BadLength
    unfolding recording_cause
    alone_long long = rw (le-ltb (length recording) 14 headed, lt-ltb 65536 (length recording) long)

    unfit_long : 65536 < length recording → unfit s recording ≡ true
    unfolding unfit
    unfit_long long = rw (lt-ltb 65536 (length recording) long)

    module _ (short : length recording ≤ 65536) where
      -- then the settings
      alone_settings : accepted s ≡ false → recording_cause recording ≡ Err BadSettings
      unfolding recording_cause
      alone_settings e = rw (le-ltb (length recording) 14 headed, le-ltb 65536 (length recording) short, e)

      -- and then whole frames
      by_frames : T (accepted s) → pair_stop recording [] ≤ 2 → AsAlone recording
      unfolding recording_cause unfit
      by_frames ok low = go (eqb (length recording % frame_len s) 0) refl
        where
          go : (b : Bool) → eqb (length recording % frame_len s) 0 ≡ b → AsAlone recording
          go false part =
              both_stop 1 BadLength
              ((stop_headed headed).0 ∙ length-next ok (rw (le-ltb 65536 (length recording) short, part)))
              (rw (le-ltb (length recording) 14 headed, le-ltb 65536 (length recording) short, fails (accepted s) ok, part)) refl
          go true whole =
              let same = (stop_headed headed).0 in
              both_play headed (same ∙ pair_rest ok (rw (le-ltb 65536 (length recording) short, whole)) (rw same at low))
              (rw (le-ltb (length recording) 14 headed, le-ltb 65536 (length recording) short, fails (accepted s) ok, whole))

    -- a recording with a header, by its settings
    by_settings : pair_stop recording [] ≤ 2 → (pair_stop recording [] ≡ 1 → length recording ≤ 65536) → AsAlone recording
    by_settings low known = go (accepted s) refl
      where
        go : (b : Bool) → accepted s ≡ b → AsAlone recording
        go false e =
            let stops : pair_stop recording [] ≡ 1 = (stop_headed headed).0 ∙ settings_first e in
            both_stop 0 BadSettings stops (alone_settings (known stops) e) refl
        go true e =
            let ok : T (accepted s) = rw e tt in
            ⊎_elim (λ short. by_frames short ok low)
            (λ long. both_stop 1 BadLength ((stop_headed headed).0 ∙ length-next ok (unfit_long long)) (alone_long long) refl)
            (le_or_lt (length recording) 65536)

  -- ---- the laws of a recording that is not empty

  some_same : pair_stop recording [] ≤ 2 → (pair_stop recording [] ≡ 1 → length recording ≤ 65536) → AsAlone recording
  unfolding recording_cause
  some_same low known =
      ⊎_elim (λ headed. by_settings headed low known)
      (λ short. both_stop 1 BadLength (stop_short short).0 (rw (lt-ltb (length recording) 14 short)) refl)
      (le_or_lt 14 (length recording))

  some_long : 65536 < length recording → accepted s ≡ false
      → (pair_transcript recording [] ≡ stop_text 1) × (pair_transcript [] recording ≡ stop_text 1) × (transcript recording ≡ stop_text 2)
  some_long long e =
      let headed : 14 ≤ length recording = omega arith in
      let stops : pair_stop recording [] ≡ 1 = (stop_headed headed).0 ∙ settings_first e in
      (first_stops 0 stops, second_stops 0 stops, alone_stops BadLength (alone_long headed long))

  -- the mark of its first frame
  module _ (found : recording_cause recording ≡ Ok tt) (other : agree 5 (frame_of s recording 0) (mark 1) ≡ false) where
    -- it has the length and the settings that are asked
    clear : (14 ≤ length recording) × (unfit s recording ≡ false) × T (accepted s) × (0 < frames_in s recording)
    unfolding recording_cause unfit frames_in
    clear =
        let at2 = check_clear (ltb (length recording) 14 || ltb 65536 (length recording)) BadLength _ found in
        let at1 = check_clear (not (accepted s)) BadSettings _ at2.1 in
        let part = check_clear (not (eqb (length recording % frame_len s) 0)) BadLength (Ok tt) at1.1 in
        let (headed, short) = neither (ltb (length recording) 14) (ltb 65536 (length recording)) at2.0 in
        let whole = eqb-true (length recording % frame_len s) 0 (not-false (eqb (length recording % frame_len s) 0) part.0) in
        let frames : 0 < length recording / frame_len s = go (length recording / frame_len s) refl whole in
        (ltb-false (length recording) 14 headed, rw (short, part.0), passes (accepted s) at1.0, frames)
      where
        go : (m : ℕ) → length recording / frame_len s ≡ m → length recording % frame_len s ≡ 0 → 0 < length recording / frame_len s
        go zero e whole = absurd (some (sym (div-add-mod' (length recording) (frame_len s)) ∙ rw (e, whole, zero-mul (frame_len s))))
        go (suc m) e whole = omega arith

    pair_marked : pair_stop recording [] ≡ 4
    unfolding pair_cause other_mark
    pair_marked =
        let (headed, right, ok, frames) = clear in
        let marked : other_mark s recording ≡ true
        = any-one (frames_in s recording) (λ i. not (agree 5 (frame_of s recording i) (mark 1))) 0 frames (rw other tt) in
        (stop_headed headed).0 ∙ rw (fails (accepted s) ok, right, fit s, marked)

    alone_marked : transcript recording ≡ stop_text 4
    unfolding transcript played_from frames_in frame_of pieces played header_cause
    alone_marked =
        let (headed, right, ok, frames) = clear in
        let zeros : List ℕ = replicate (receiver_len s) 0 in
        let opens = opened_receiver_lem s 0 zeros
        record { settings = ok; exact = length-replicate (receiver_len s) 0; in_time_lem = zero-le } in
        rw (ne_eqb (length recording) 0 some, found, transcript) (rw opens (go (length recording / frame_len s) refl))
      where
        go : (m : ℕ) → length recording / frame_len s ≡ m
            → played (pieces (length recording / frame_len s) (frame_len s) recording) (opened_receiver s 0) (opened_rows s 0)
            (replicate (message_len s) 0)
            ≡ stop_text 4
        go zero e = absurd (let (headed, right, ok, frames) = clear in omega arith)
        go (suc m) e =
            let frame : List ℕ = take (frame_len s) recording in
            let mark-other : agree 5 frame (mark 1) ≡ false = rw (zero-mul (frame_len s)) at other in
            let stops = stop_header (opened_receiver s 0) frame OtherMark (rw mark-other) in
            rw (e, ← stops, played)

    marked_same : AsAlone recording
    marked_same = record {
      as_first = first_stops 3 pair_marked ∙ sym alone_marked;
      as_second = second_stops 3 pair_marked ∙ sym alone_marked;
    }

-- ---- every recording

-- an empty one prints nothing
nothing : (recording : List ℕ) → length recording ≡ 0 → AsAlone recording
unfolding transcript pair_transcript
nothing [] none = record { as_first = refl; as_second = refl }
nothing (x ∷ xs) none = absurd (omega arith)

-- a recording is empty, or has bytes
none_or_some : (recording : List ℕ) → (length recording ≡ 0) ⊎ (length recording ≢ 0)
none_or_some recording = ⊎_elim (λ some. inr (λ none. omega arith)) (λ none. inl (omega arith)) (le_or_lt 1 (length recording))

-- Wrong pairs that agree with themselves, and what in the statement rules each out:
-- - the settings are those of the first recording, also where it is empty: `as_second`
-- - an empty recording is refused, or ends the pair before its first slot: both of `AsAlone`
-- - the slots that the recording skips are printed otherwise than alone, or its gaps judged otherwise: `same`
pub one_empty : OneEmpty
one_empty = record {
  same = λ recording low known.
      ⊎_elim (nothing recording) (λ some. some_same recording some low known) (none_or_some recording);
  too_long = λ recording long e. some_long recording (λ none. omega arith) long e;
  other_mark_lem = λ recording found other.
      ⊎_elim (nothing recording) (λ some. marked_same recording some found other) (none_or_some recording);
}
