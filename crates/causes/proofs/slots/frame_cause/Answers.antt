-- A cause that every call in a slot meets is the first, then one of the header, then the slot.
use Rattle.std.specs.Prelude.{Ok, Err}
use mathlib.Core.Path.{◌≡◌, sym, ap, ◌∙◌}
use mathlib.Core.Bool.{Bool, true, false}
use mathlib.Core.List.{List}
use native.Mathlib.Omega.{arith}
use Prim.Native.Nat.{ℕ, ◌≤◌}
use lib.ListN.{length}
use Rattle.protocol.specs.declared.Receiver.{Receiver}
use Rattle.protocol.specs.declared.Cause.{Cause}
use Rattle.protocol.specs.declared.Cause.TheVariants.{OtherSlot}
use Rattle.protocol.specs.Answers.{Answer}
use Rattle.protocol.specs.Frame.{header}
use Rattle.protocol.specs.Lengths.{frame_len, receiver_len, exactly_framed}
use Rattle.protocol.specs.Causes.{slot_cause, header_cause, frame_cause_of}
use Rattle.protocol.proofs.CauseTables.{slot_open, framed_lengths}
use Rattle.protocol.proofs.QuestionMark.{refused_for}
use Rattle.protocol.proofs.HeaderTests.{agree_from, slot_test}
use Rattle.causes.proofs.Parts.{framed, of_slot, refused_in_slot, refused_by_header, other_slot, no_cause}
use Rattle.causes.proofs.slots.frame_cause.Goals as goal

-- what a call in a slot meets, by the lengths as the code tells them
module _ (version : ℕ) (x : Receiver) (rows frame message : List ℕ) (size : ℕ) (exact : Bool) (found : Answer)
    (is-size : size ≡ receiver_len x.settings)
    (is-exact : exact ≡ exactly_framed x.settings size (length rows) (length message) (length frame))
    (is-found : found ≡ slot_cause x.settings exact x.due) where
  met : slot_cause x.settings (framed version x rows frame message) x.due ≡ found
  met =
      ap (λ (b : Bool). slot_cause x.settings b x.due)
      (sym (is-exact ∙ ap (λ (n : ℕ). exactly_framed x.settings n (length rows) (length message) (length frame)) is-size))
      ∙ sym is-found

  in_slot : (c : Cause) → found ≡ Err c → Err c ≡ frame_cause_of version x rows frame message
  in_slot c e = refused_in_slot version x rows frame message c (met ∙ e)

  -- where it meets nothing, the frame has a header
  module _ (clear : found ≡ Ok tt) where
    long : 14 ≤ length frame
    unfolding frame_len
    long =
        let exact = framed_lengths x.settings (receiver_len x.settings) (length rows) (length message) (length frame)
        (slot_open x.settings (framed version x rows frame message) x.due (met ∙ clear)).lengths in
        omega (arith, exact.2)

    module _ (headed : Answer) (is-headed : headed ≡ header_cause version x.settings frame) where
      in_header : (c : Cause) → headed ≡ Err c → Err c ≡ frame_cause_of version x rows frame message
      in_header c e = refused_by_header version x rows frame message (met ∙ clear) c (sym is-headed ∙ e)

      -- and where that meets nothing either, the slot decides
      module _ (own : headed ≡ Ok tt) (head : List ℕ) (test : Bool) (is-head : head ≡ header version x.settings x.due)
          (is-test : test ≡ agree_from frame head 10 4) where
        tested : of_slot version x rows frame message ≡ test
        tested = sym (is-test ∙ slot_test version x.settings x.due frame head is-head)

        of_other : test ≡ false → Err OtherSlot ≡ frame_cause_of version x rows frame message
        of_other e = other_slot version x rows frame message (met ∙ clear) (sym is-headed ∙ own) (tested ∙ e)

        of_this : test ≡ true → (Ok tt) ≡ frame_cause_of version x rows frame message
        of_this e = no_cause version x rows frame message (met ∙ clear) (sym is-headed ∙ own) (tested ∙ e)

pub returns-in_err-slot_cause : goal.returns-in_err-slot_cause
returns-in_err-slot_cause c =
    refused_for _ _ c.from_residual.ensures.1
    ∙ in_slot c.args.version c.args.x c.args.rows.now c.args.frame.now c.args.message.now _ _ _ c.receiver_len.ensures
    c.exactly_framed-exact.ensures c.slot_cause.ensures _ c.in_err-slot_cause.was

pub header_cause-requires : goal.header_cause-requires
header_cause-requires c =
    long c.args.version c.args.x c.args.rows.now c.args.frame.now c.args.message.now _ _ _ c.receiver_len.ensures
    c.exactly_framed-exact.ensures c.slot_cause.ensures c.in_ok-slot_cause.was

pub returns-in_err-header_cause : goal.returns-in_err-header_cause
returns-in_err-header_cause c =
    refused_for _ _ c.from_residual-in_err-header_cause.ensures.1
    ∙ in_header c.args.version c.args.x c.args.rows.now c.args.frame.now c.args.message.now _ _ _ c.receiver_len.ensures
    c.exactly_framed-exact.ensures c.slot_cause.ensures c.in_ok-slot_cause.was _ c.header_cause.ensures _ c.in_err-header_cause.was

pub agrees-requires : goal.agrees-requires
agrees-requires c =
    let a = c.args in
    let has_header = long a.version a.x a.rows.now a.frame.now a.message.now _ _ _ c.receiver_len.ensures
    c.exactly_framed-exact.ensures c.slot_cause.ensures c.in_ok-slot_cause.was in
    (omega arith, omega arith, has_header)

pub returns-then-not-agrees : goal.returns-then-not-agrees
returns-then-not-agrees c =
    of_other c.args.version c.args.x c.args.rows.now c.args.frame.now c.args.message.now _ _ _ c.receiver_len.ensures
    c.exactly_framed-exact.ensures c.slot_cause.ensures c.in_ok-slot_cause.was _ c.header_cause.ensures c.in_ok-header_cause.was
    _ _ c.header_bytes.ensures c.agrees.ensures c.if-not-agrees.true

pub returns : goal.returns
returns c =
    of_this c.args.version c.args.x c.args.rows.now c.args.frame.now c.args.message.now _ _ _ c.receiver_len.ensures
    c.exactly_framed-exact.ensures c.slot_cause.ensures c.in_ok-slot_cause.was _ c.header_cause.ensures c.in_ok-header_cause.was
    _ _ c.header_bytes.ensures c.agrees.ensures c.if-not-agrees.false
