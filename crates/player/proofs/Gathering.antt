-- The steps that a room is filled by: none without room for the longest line; else the first, and those that what is left is filled by.
use mathlib.Core.Path.{◌≡◌, refl, sym, ap, ◌∙◌, subst}
use mathlib.Core.Bool.{Bool, true, false}
use mathlib.Core.List.{List}
use Prim.Native.Nat.{ℕ, zero, suc, ◌-◌, ◌≤◌, ◌<◌}
use native.Mathlib.Omega.{arith}
use lib.Dec.{ltb}
use lib.ListN.{length}
use borrow.Author.Tests.{lt-ltb, le-ltb, ltb-true, ltb-false}
use Rattle.lines.specs.Lent.{longest}
use Rattle.progress.specs.declared.Player.{Player}
use Rattle.reporting.specs.Acts.{Act}
use Rattle.steps.specs.Steps.{act_of}
use Rattle.player.specs.Filling.{no_act, after, steps_within, enough_steps, gathered}
use Rattle.player.proofs.StepsLeft.{steps_left, few_left, fewer}

-- ---- the first of some steps

-- at most m steps after an act, in the room that it leaves
abbrev steps_after : ℕ → List ℕ → ℕ → Act → Act
steps_after m recording room a = steps_within m recording (room - length a.text) a.player a.rows a.message

module _ (m : ℕ) (recording : List ℕ) (room : ℕ) (p : Player) (rows message : List ℕ) where
  abbrev act : Act
  act = act_of p recording rows message

  -- without room for the longest line, none
  within_none : room < longest message → steps_within (suc m) recording room p rows message ≡ no_act p rows message
  unfolding steps_within
  within_none short = rw (lt-ltb room (longest message) short, steps_within)

  -- with room, by whether it is the last
  within_by : longest message ≤ room → (o : Bool) → act.over ≡ o
      → steps_within (suc m) recording room p rows message
      ≡ elim o [ true ↦ act | false ↦ after act.text (steps_after m recording room act) ]
  unfolding steps_within
  within_by fits o e =
      rw (le-ltb room (longest message) fits, steps_within)
      (ap (λ (b : Bool). elim b [ true ↦ act | false ↦ after act.text (steps_after m recording room act) ]) e)

-- ---- any number of steps above those left is enough

same_steps : (m n : ℕ) (recording : List ℕ) (room : ℕ) (p : Player) (rows message : List ℕ)
    → steps_left recording p < m → steps_left recording p < n
    → steps_within m recording room p rows message ≡ steps_within n recording room p rows message
same_steps zero n recording room p rows message below above = absurd (omega arith)
same_steps (suc m) zero recording room p rows message below above = absurd (omega arith)
same_steps (suc m) (suc n) recording room p rows message below above =
    let a = act_of p recording rows message in
    go
    (λ falls.
    same_steps m n recording (room - length a.text) a.player a.rows a.message (omega arith) (omega arith))
    (ltb room (longest message))
    refl
    a.over
    refl
  where
    go : (steps_left recording (act_of p recording rows message).player < steps_left recording p
        → steps_after m recording room (act_of p recording rows message) ≡ steps_after n recording room (act_of p recording rows message))
        → (b : Bool) → ltb room (longest message) ≡ b → (o : Bool) → (act_of p recording rows message).over ≡ o
        → steps_within (suc m) recording room p rows message ≡ steps_within (suc n) recording room p rows message
    go again true full o e =
        let short = ltb-true room (longest message) full in
        within_none m recording room p rows message short ∙ sym (within_none n recording room p rows message short)
    go again false free true e =
        let fits = ltb-false room (longest message) free in
        within_by m recording room p rows message fits true e ∙ sym (within_by n recording room p rows message fits true e)
    go again false free false e =
        let fits = ltb-false room (longest message) free in
        within_by m recording room p rows message fits false e
        ∙ ap (after (act_of p recording rows message).text) (again (fewer p recording rows message e))
        ∙ sym (within_by n recording room p rows message fits false e)

-- ---- what a room is filled by

-- so any such number gives it
by : (m : ℕ) (recording : List ℕ) (room : ℕ) (p : Player) (rows message : List ℕ) → steps_left recording p < m
    → gathered recording room p rows message ≡ steps_within m recording room p rows message
unfolding gathered
by m recording room p rows message enough =
    same_steps (enough_steps recording) m recording room p rows message (few_left recording p) enough

module _ (recording : List ℕ) (room : ℕ) (p : Player) (rows message : List ℕ) where
  -- one more than those left
  begins : gathered recording room p rows message ≡ steps_within (suc (steps_left recording p)) recording room p rows message
  begins = by (suc (steps_left recording p)) recording room p rows message (omega arith)

  -- without room for the longest line, it is filled by nothing
  pub gathered_none : room < longest message → gathered recording room p rows message ≡ no_act p rows message
  gathered_none short = begins ∙ within_none (steps_left recording p) recording room p rows message short

  module _ (fits : longest message ≤ room) (a : Act) (is : act_of p recording rows message ≡ a) where
    -- with room, by the last step
    pub gathered_last : a.over ≡ true → gathered recording room p rows message ≡ a
    gathered_last e =
        begins
        ∙ within_by (steps_left recording p) recording room p rows message fits true (ap (λ (b : Act). b.over) is ∙ e)
        ∙ is

    -- or by a step, and by those that what is left is filled by
    pub gathered_more : a.over ≡ false
        → gathered recording room p rows message
        ≡ after a.text (gathered recording (room - length a.text) a.player a.rows a.message)
    gathered_more e =
        let over : (act_of p recording rows message).over ≡ false = ap (λ (b : Act). b.over) is ∙ e in
        let falls : steps_left recording a.player < steps_left recording p
        = subst (λ (b : Act). steps_left recording b.player < steps_left recording p) is (fewer p recording rows message over) in
        begins
        ∙ within_by (steps_left recording p) recording room p rows message fits false over
        ∙ ap (λ (b : Act). after b.text (steps_after (steps_left recording p) recording room b)) is
        ∙ ap (after a.text)
        (sym (by (steps_left recording p) recording (room - length a.text) a.player a.rows a.message falls))

-- ---- a filling that leaves more to play leaves fewer steps

-- some steps leave no more steps than there were
no_more : (m : ℕ) (recording : List ℕ) (room : ℕ) (p : Player) (rows message : List ℕ)
    → (steps_within m recording room p rows message).over ≡ false
    → steps_left recording (steps_within m recording room p rows message).player ≤ steps_left recording p
unfolding steps_within no_act after
no_more zero recording room p rows message e = omega arith
no_more (suc m) recording room p rows message e =
    let a = act_of p recording rows message in
    go (no_more m recording (room - length a.text) a.player a.rows a.message) (ltb room (longest message)) refl a.over refl
  where
    go : ((steps_after m recording room (act_of p recording rows message)).over ≡ false
        → steps_left recording (steps_after m recording room (act_of p recording rows message)).player
        ≤ steps_left recording (act_of p recording rows message).player)
        → (b : Bool) → ltb room (longest message) ≡ b → (o : Bool) → (act_of p recording rows message).over ≡ o
        → steps_left recording (steps_within (suc m) recording room p rows message).player ≤ steps_left recording p
    go again true full o is =
        rw (within_none m recording room p rows message (ltb-true room (longest message) full)) (omega arith)
    go again false free true is =
        let last = within_by m recording room p rows message (ltb-false room (longest message) free) true is in
        let no : true ≡ false = sym is ∙ rw last at e in
        let z : ◌≡◌ {A = ℕ} 0 1 = cc in absurd (omega arith)
    go again false free false is =
        let more = within_by m recording room p rows message (ltb-false room (longest message) free) false is in
        rw more (omega (arith, fewer p recording rows message is, again (rw more at e)))

-- with room for the longest line there is a step at least
pub gathered_fewer : (recording : List ℕ) (room : ℕ) (p : Player) (rows message : List ℕ) → longest message ≤ room
    → (gathered recording room p rows message).over ≡ false
    → steps_left recording (gathered recording room p rows message).player < steps_left recording p
unfolding gathered after
gathered_fewer recording room p rows message fits e = go (act_of p recording rows message).over refl
  where
    go : (o : Bool) → (act_of p recording rows message).over ≡ o
        → steps_left recording (gathered recording room p rows message).player < steps_left recording p
    go true is =
        let last = gathered_last recording room p rows message fits (act_of p recording rows message) refl is in
        let no : true ≡ false = sym is ∙ rw last at e in
        let z : ◌≡◌ {A = ℕ} 0 1 = cc in absurd (omega arith)
    go false is =
        let a = act_of p recording rows message in
        let more = gathered_more recording room p rows message fits a refl is in
        let left = no_more (enough_steps recording) recording (room - length a.text) a.player a.rows a.message (rw more at e) in
        rw more (omega (arith, fewer p recording rows message is, left))
