-- The loop of a filling: what is printed so far stands at the buffer's start, and the rest of the room is filled by what is left to play.
use mathlib.Core.Path.{◌≡◌, refl, sym, ap, ◌∙◌, subst}
use mathlib.Core.Bool.{true, false}
use mathlib.Core.List.{List, [], ◌++◌, append_assoc, append-nil}
use Prim.Native.Nat.{ℕ, ◌+◌, ◌-◌, ◌≤◌, ◌<◌, zero-le}
use native.Mathlib.Nat.{sub-zero}
use native.Mathlib.Omega.{arith}
use lib.ListN.{length, take, drop, length-append, length-drop, take-append-drop, drop_of_length-le}
use lib.Seq.{take_all, take_at, drop_at, drop-drop, length-take-le}
use borrow.Rule.Slice.PartMut.{put_mid}
use Rattle.lines.specs.Text.{written}
use Rattle.lines.specs.Lent.{longest}
use Rattle.progress.specs.declared.Player.{Player}
use Rattle.reporting.specs.Acts.{Act}
use Rattle.steps.specs.Steps.{act_of}
use Rattle.reporting.specs.Outcomes.{Outcome, printed_on}
use Rattle.player.specs.Filling.{no_act, after, gathered, filled_of}
use Rattle.player.proofs.Gathering.{gathered_none, gathered_last, gathered_more}

-- a buffer that is as long as before has room for what was printed
pub print_fits : (out : List ℕ) (a : Act) → length (printed_on out a).out ≡ length out → (printed_on out a).len ≤ length out
unfolding printed_on written
print_fits out a e = omega (arith, length-append a.text (drop (length a.text) out))

-- ---- a part of the buffer that a step printed on

module _ (out : List ℕ) (at : ℕ) where
  -- the part from a place on
  abbrev pub part : List ℕ
  part = take (length out - at) (drop at out)

  -- the buffer with that part as a step leaves it
  abbrev pub put : List ℕ → List ℕ
  put line = put_mid at (length out - at) out line

  part_drop : part ≡ drop at out
  part_drop = take_all (length out - at) (drop at out) (omega (arith, length-drop at out))

  pub part_length : length part ≡ length out - at
  part_length = ap length part_drop ∙ length-drop at out

  module _ (text : List ℕ) where
    -- it has the text from that place on, between what stood there
    put_text : put (written text part) ≡ (take at out ++ text) ++ drop (at + length text) out
    unfolding written
    put_text =
        let none : drop (length out - at) (drop at out) ≡ [] =
        drop_of_length-le (drop at out) {i = length out - at} (omega (arith, length-drop at out)) in
        rw (none, part_drop, append-nil, drop-drop (length text) at out, append_assoc) refl

    module _ (within : at ≤ length out) where
      before_length : length (take at out ++ text) ≡ at + length text
      before_length = length-append (take at out) text ∙ ap (λ (n : ℕ). n + length text) (length-take-le at out within)

      put_before : take (at + length text) (put (written text part)) ≡ take at out ++ text
      put_before = ap (take (at + length text)) put_text ∙ take_at (take at out ++ text) _ (at + length text) before_length

      put_behind : drop (at + length text) (put (written text part)) ≡ drop (at + length text) out
      put_behind = ap (drop (at + length text)) put_text ∙ drop_at (take at out ++ text) _ (at + length text) before_length

      put_length : length text ≤ length out - at → length (put (written text part)) ≡ length out
      put_length fits =
          ap length put_text
          ∙ omega (
            arith,
            length-append (take at out ++ text) (drop (at + length text) out),
            before_length,
            length-drop (at + length text) out,
          )

-- ---- the loop

-- two texts printed before
after_after : (first second : List ℕ) (a : Act) → after first (after second a) ≡ after (first ++ second) a
unfolding after
after_after first second a = rw append_assoc refl

module _ (recording : List ℕ) (p : Player) (rows₀ message₀ out₀ : List ℕ) where
  -- a player has printed so many bytes of the buffer, and goes on with these rows and this message buffer
  pub record Going (q : Player) (at : ℕ) (rows message out : List ℕ) : Type 0 where
    pub within : at ≤ length out
    pub long : length out ≡ length out₀
    pub behind : drop at out ≡ drop at out₀
    pub whole : gathered recording (length out₀) p rows₀ message₀
        ≡ after (take at out) (gathered recording (length out - at) q rows message)

  pub goes : Going p 0 rows₀ message₀ out₀
  unfolding after
  goes = record { within = zero-le; long = refl; behind = refl; whole = rw (sub-zero (length out₀)) refl }

  module _ (q : Player) (at : ℕ) (rows message out : List ℕ) (going : Going q at rows message out) where
    -- the bytes before the place, and those behind it as they were lent
    on_lent : written (take at out) out₀ ≡ out
    unfolding written
    on_lent =
        rw (length-take-le at out going.within, ← going.behind) (take-append-drop at out)

    -- without room for the longest line the filling ends
    pub full : length out - at < longest message
        → record { player = q; rows = rows; message = message; out = out; len = at; over = false }
        ≡ filled_of p recording rows₀ message₀ out₀
    unfolding filled_of printed_on no_act after
    full short =
        rw (
          going.whole,
          gathered_none recording (length out - at) q rows message short,
          append-nil,
          on_lent,
          length-take-le at out going.within,
        ) refl

    module _ (fits : longest message ≤ length out - at) (a : Act) (is : act_of q recording rows message ≡ a)
        (short : length a.text ≤ length out - at) where
      -- the buffer after a step
      abbrev after_it : List ℕ
      after_it = put out at (written a.text (part out at))

      -- behind what it printed the buffer is as it was lent
      behind_it : drop (at + length a.text) out ≡ drop (at + length a.text) out₀
      behind_it =
          let n : ℕ = length a.text in
          sym (drop-drop n at out) ∙ ap (drop n) going.behind ∙ drop-drop n at out₀

      -- after a step that leaves more to play the filling goes on
      more : a.over ≡ false → Going a.player (at + length a.text) a.rows a.message after_it
      more e =
          let n : ℕ = length a.text in
          let same : length after_it ≡ length out = put_length out at a.text going.within short in
          let left : length out - at - n ≡ length after_it - (at + n) = omega arith in
          record {
            within = omega (arith, same, going.within);
            long = same ∙ going.long;
            behind = put_behind out at a.text going.within ∙ behind_it;
            whole =
                going.whole
                ∙ ap (after (take at out)) (gathered_more recording (length out - at) q rows message fits a is e)
                ∙ after_after (take at out) a.text (gathered recording (length out - at - n) a.player a.rows a.message)
                ∙ ap (λ (m : ℕ). after (take at out ++ a.text) (gathered recording m a.player a.rows a.message)) left
                ∙ ap (λ (t : List ℕ). after t (gathered recording (length after_it - (at + n)) a.player a.rows a.message))
                (sym (put_before out at a.text going.within));
          }

      -- after the last step it ends
      last : a.over ≡ true
          → record { player = a.player; rows = a.rows; message = a.message; out = after_it; len = at + length a.text; over = true }
          ≡ filled_of p recording rows₀ message₀ out₀
      unfolding filled_of printed_on after written
      last e =
          let whole : gathered recording (length out₀) p rows₀ message₀ ≡ after (take at out) a
          = going.whole ∙ ap (after (take at out)) (gathered_last recording (length out - at) q rows message fits a is e) in
          rw (whole, e, before_length out at a.text going.within, put_text out at a.text, behind_it) refl

    module _ (fits : longest message ≤ length out - at) (o : Outcome)
        (stepped : o ≡ printed_on (part out at) (act_of q recording rows message)) (kept : length o.out ≡ length (part out at)) where
      -- what a step prints fits
      pub fitting : o.len ≤ length out - at
      fitting =
          let a = act_of q recording rows message in
          let same : length (printed_on (part out at) a).out ≡ length (part out at) =
          sym (ap (λ (r : Outcome). length r.out) stepped) ∙ kept in
          omega (arith, print_fits (part out at) a same, part_length out at, ap (λ (r : Outcome). r.len) stepped)

      short : length (act_of q recording rows message).text ≤ length out - at
      unfolding printed_on
      short = omega (arith, fitting, ap (λ (r : Outcome). r.len) stepped)

      -- by what the step gives back
      pub onward : o.over ≡ false → Going o.player (at + o.len) o.rows o.message (put out at o.out)
      unfolding printed_on
      onward =
          subst (λ (r : Outcome). r.over ≡ false → Going r.player (at + r.len) r.rows r.message (put out at r.out)) (sym stepped)
          (more fits (act_of q recording rows message) refl short)

      pub ended : o.over ≡ true
          → record { player = o.player; rows = o.rows; message = o.message; out = put out at o.out; len = at + o.len; over = true }
          ≡ filled_of p recording rows₀ message₀ out₀
      unfolding printed_on
      ended =
          subst
          (λ (r : Outcome). r.over ≡ true
          → record { player = r.player; rows = r.rows; message = r.message; out = put out at r.out; len = at + r.len; over = true }
          ≡ filled_of p recording rows₀ message₀ out₀)
          (sym stepped) (last fits (act_of q recording rows message) refl short)
