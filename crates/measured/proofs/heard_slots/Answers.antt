-- Each turn asks for one slot.
use mathlib.Core.Path.{◌≡◌, refl, sym, ap, ◌∙◌}
use mathlib.Core.Bool.{Bool, true, false, not, cond}
use mathlib.Core.Logic.{◌≢◌}
use mathlib.Core.List.{List}
use native.Mathlib.Omega.{arith}
use Prim.Native.Nat.{ℕ, suc, ◌+◌, zero-le}
use lib.Dec.{eqb}
use lib.ListN.{length}
use Rattle.std.specs.Prelude.{is_ok}
use Rattle.galois.specs.Bounded.{count}
use Rattle.galois.proofs.Counting.{count_none}
use Rattle.frames.specs.Fields.{settings_at}
use Rattle.aerials.specs.Pair.{pair_cause}
use Rattle.aerials.proofs.PartLaws.{no_bytes, join_accepted}
use Rattle.aerials.proofs.CheckLaws.{number_of_ok, number_of_err}
use Rattle.aerials.proofs.Lent.{joining}
use Rattle.measured.specs.Timed.{joined_len, heard_slots}
use Rattle.measured.proofs.heard_slots.Goals as goal
use Rattle.measured.proofs.heard_slots.Goals.{then-not-is_empty, else-not-is_empty}

next_slot_lem : (settings first second : List ℕ) (slot : ℕ)
    → heard_slots settings first second (suc slot)
    ≡ heard_slots settings first second slot + cond (not (eqb (joined_len settings first second slot) 0)) 1 0
unfolding heard_slots count
next_slot_lem settings first second slot = refl

none_heard : (settings first second : List ℕ) (slots : ℕ) → pair_cause (settings_at 0 settings) first second ≢ 0
    → heard_slots settings first second slots ≡ 0
unfolding heard_slots joined_len
none_heard settings first second slots some =
    count_none slots (λ slot. not (eqb (joined_len settings first second slot) 0))
    (λ slot h t. rw (joining.of_refused (settings_at 0 settings) first second slot some, no_bytes first second) at t)

-- a slot more, by whether something is lent for it
counted : (settings first second : List ℕ) (slot len : ℕ) (none : Bool) → len ≡ joined_len settings first second slot → eqb len 0 ≡ none
    → heard_slots settings first second (slot + 1) ≡ heard_slots settings first second slot + cond (not none) 1 0
counted settings first second slot len none is tested =
    let next : slot + 1 ≡ suc slot = omega arith in
    rw (next, next_slot_lem settings first second slot, ← is, tested)

pub returns-then-is_err : goal.returns-then-is_err
returns-then-is_err c =
    let refused : is_ok c.pair_cause.result ≡ false = rw c.if-is_err.true at c.is_err.ensures.negation in
    sym
    (none_heard c.args.settings.now c.args.first.now c.args.second.now c.args.slots
    (rw (← c.settings_at-s.ensures) (λ e. number_of_err c.pair_cause.result refused (c.pair_cause.ensures.number ∙ e))))

pub loop-slot-init : goal.loop-slot-init
unfolding heard_slots count
loop-slot-init c = (zero-le, refl)

pub loop-slot-preserved : goal.loop-slot-preserved
unfolding joined_len
loop-slot-preserved c =
    let accepted : pair_cause c.settings_at-s.result c.args.first.now c.args.second.now ≡ 0 =
    sym c.pair_cause.ensures.number ∙ number_of_ok c.pair_cause.result (rw c.if-is_err.false at c.is_err.ensures.negation) in
    let lent : length c.part.result.now ≡ joined_len c.args.settings.now c.args.first.now c.args.second.now c.loop-slot.slot =
    ap length c.part.ensures.bytes
    ∙ rw (← c.settings_at-s.ensures, join_accepted _ c.args.first.now c.args.second.now c.loop-slot.slot accepted) in
    elim c.if-not-is_empty.branch [
      | then-not-is_empty w ↦
          let one = counted c.args.settings.now c.args.first.now c.args.second.now c.loop-slot.slot _ false lent
          (sym c.is_empty.ensures ∙ w.if-not-is_empty.true) in
          (omega arith, omega arith)
      | else-not-is_empty w ↦
          let no_more = counted c.args.settings.now c.args.first.now c.args.second.now c.loop-slot.slot _ true lent
          (sym c.is_empty.ensures ∙ w.if-not-is_empty.false) in
          (omega arith, omega arith)
    ]
