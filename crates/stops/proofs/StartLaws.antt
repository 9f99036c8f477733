-- How a recording starts, by the tests before any line.
use Rattle.std.specs.Prelude.{Option, Some, None, Result, Ok, Err}
use mathlib.Core.Path.{◌≡◌, refl, subst}
use mathlib.Core.Bool.{Bool, true, false}
use mathlib.Core.Logic.{◌≢◌}
use mathlib.Core.List.{List, [], ◌∷◌}
use Prim.Native.Nat.{ℕ, ◌%◌, ◌≤◌, ◌<◌}
use native.Mathlib.Omega.{arith}
use lib.Dec.{T, eqb}
use lib.ListN.{length}
use borrow.Author.Tests.{eq-eqb, ne_eqb, eqb-true, lt-ltb, le-ltb, not-false}
use Rattle.code.specs.declared.settings.Settings.{Settings}
use Rattle.code.specs.Settings.{accepted}
use Rattle.protocol.specs.declared.Cause.{Cause}
use Rattle.protocol.specs.declared.Cause.TheVariants.{BadSettings, BadLength}
use Rattle.protocol.specs.Lengths.{frame_len}
use Rattle.protocol.specs.Answers.{Answer}
use Rattle.protocol.specs.Causes.{Row, first_of}
use Rattle.protocol.proofs.CauseTables.{check_clear, passes, fails}
use Rattle.frames.specs.Fields.{settings_in}
use Rattle.stops.specs.Stops.{recording_table, recording_cause, start_of}

module _ (recording : List ℕ) where
  pub starts_empty : length recording ≡ 0 → Ok None ≡ start_of recording
  unfolding start_of
  starts_empty e = rw (eq-eqb (length recording) 0 e, start_of)

  module _ (some : length recording ≢ 0) where
    stops : (c : Cause) → recording_cause recording ≡ Err c → Err c ≡ start_of recording
    unfolding start_of
    stops c e = rw (ne_eqb (length recording) 0 some, e, start_of)

    pub starts_short : length recording < 14 → Err BadLength ≡ start_of recording
    unfolding recording_cause
    starts_short h = stops BadLength (rw (lt-ltb (length recording) 14 h))

    module _ (headed : 14 ≤ length recording) where
      pub starts_long : 65536 < length recording → Err BadLength ≡ start_of recording
      unfolding recording_cause
      starts_long h = stops BadLength (rw (le-ltb (length recording) 14 headed, lt-ltb 65536 (length recording) h))

      module _ (short : length recording ≤ 65536) where
        pub starts_refused : accepted (settings_in recording) ≡ false → Err BadSettings ≡ start_of recording
        unfolding recording_cause
        starts_refused e =
            stops BadSettings (rw (le-ltb (length recording) 14 headed, le-ltb 65536 (length recording) short, e))

        module _ (ok : T (accepted (settings_in recording))) where
          pub starts_part : length recording % frame_len (settings_in recording) ≢ 0 → Err BadLength ≡ start_of recording
          unfolding recording_cause
          starts_part ne =
              stops BadLength
              (rw (
                le-ltb (length recording) 14 headed,
                le-ltb 65536 (length recording) short,
                fails (accepted (settings_in recording)) ok,
                ne_eqb (length recording % frame_len (settings_in recording)) 0 ne,
              ))

          -- a whole number of frames
          whole : length recording % frame_len (settings_in recording) ≡ 0 → recording_cause recording ≡ Ok tt
          unfolding recording_cause
          whole e =
              rw (
                le-ltb (length recording) 14 headed,
                le-ltb 65536 (length recording) short,
                fails (accepted (settings_in recording)) ok,
                eq-eqb (length recording % frame_len (settings_in recording)) 0 e,
              )

          pub starts_whole : length recording % frame_len (settings_in recording) ≡ 0
              → Ok (Some (settings_in recording)) ≡ start_of recording
          unfolding start_of
          starts_whole e = rw (ne_eqb (length recording) 0 some, whole e, start_of)

-- ---- a recording that passes

-- no condition of a table holds
abbrev AllClear : List Row → Type 0
AllClear [] = Unit {0}
AllClear (r ∷ rs) = (r.holds ≡ false) × AllClear rs

-- where it finds no cause
all-clear : (rs : List Row) → first_of rs ≡ Ok tt → AllClear rs
all-clear [] e = tt
all-clear (r ∷ rs) e = let x = check_clear r.holds r.why (first_of rs) e in (x.0, all-clear rs x.1)

-- it has accepted settings, and is whole frames
pub passed : (recording : List ℕ) → recording_cause recording ≡ Ok tt
    → T (accepted (settings_in recording)) × (length recording % frame_len (settings_in recording) ≡ 0)
unfolding recording_cause
passed recording e =
    let whole : Bool = eqb (length recording % frame_len (settings_in recording)) 0 in
    let free = all-clear (recording_table recording) e in (
      passes (accepted (settings_in recording)) free.1.0,
      eqb-true (length recording % frame_len (settings_in recording)) 0 (not-false whole free.1.1.0),
    )

-- its settings are accepted
pub play_accepted : (recording : List ℕ) (s : Settings) → start_of recording ≡ Ok (Some s) → T (accepted s)
unfolding start_of
play_accepted recording s e = go (eqb (length recording) 0) refl (recording_cause recording) refl
  where
    go : (b : Bool) → eqb (length recording) 0 ≡ b → (f : Answer) → recording_cause recording ≡ f → T (accepted s)
    go true none f found =
        let no : ◌≡◌ {A = Result (Option Settings) Cause} (Ok None) (Ok (Some s)) = rw (none, start_of) at e in
        let z : ◌≡◌ {A = ℕ} 0 1 = cc in absurd (omega arith)
    go false some (Err c) found =
        let no : ◌≡◌ {A = Result (Option Settings) Cause} (Err c) (Ok (Some s)) = rw (some, found, start_of) at e in
        let z : ◌≡◌ {A = ℕ} 0 1 = cc in absurd (omega arith)
    go false some (Ok tt) found =
        let own : ◌≡◌ {A = Result (Option Settings) Cause} (Ok (Some (settings_in recording))) (Ok (Some s)) =
        rw (some, found, start_of) at e in
        let same : settings_in recording ≡ s = cc in
        subst (λ (t : Settings). T (accepted t)) same (passed recording found).0
