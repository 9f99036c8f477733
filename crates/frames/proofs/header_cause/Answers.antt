-- Each way out is one test of the header.
use mathlib.Core.Path.{◌≡◌, sym, ◌∙◌}
use mathlib.Core.Bool.{Bool}
use mathlib.Core.List.{List}
use Prim.Native.Nat.{ℕ}
use lib.ListN.{drop}
use Rattle.code.specs.declared.settings.Settings.{Settings}
use Rattle.protocol.specs.Frame.{mark, five, header}
use Rattle.protocol.specs.Causes.{agree, header_cause}
use Rattle.protocol.proofs.HeaderTests.{agree_from, mark_test, five_test}
use Rattle.frames.proofs.header_cause.Goals as goal

-- what the two tests of the header due say of the frame
module _ (version : ℕ) (s : Settings) (frame head : List ℕ) (due : head ≡ header version s 0) (test told : Bool) where
  marked : test ≡ agree_from frame head 0 5 → test ≡ told → agree 5 frame (mark version) ≡ told
  marked tested is = sym (mark_test version s 0 frame head due) ∙ sym tested ∙ is

  settled : test ≡ agree_from frame head 5 5 → test ≡ told → agree 5 (drop 5 frame) (five s) ≡ told
  settled tested is = sym (five_test version s 0 frame head due) ∙ sym tested ∙ is

pub returns-then-not-agrees : goal.returns-then-not-agrees
unfolding header_cause
returns-then-not-agrees c =
    rw (marked _ _ _ _ c.header_bytes-head.ensures _ _ c.agrees.ensures c.if-not-agrees.true)

pub returns-then-not-agrees-2 : goal.returns-then-not-agrees-2
unfolding header_cause
returns-then-not-agrees-2 c =
    rw (
      marked _ _ _ _ c.header_bytes-head.ensures _ _ c.agrees.ensures c.if-not-agrees.false,
      settled _ _ _ _ c.header_bytes-head.ensures _ _ c.agrees-2.ensures c.if-not-agrees-2.true,
    )

pub returns : goal.returns
unfolding header_cause
returns c =
    rw (
      marked _ _ _ _ c.header_bytes-head.ensures _ _ c.agrees.ensures c.if-not-agrees.false,
      settled _ _ _ _ c.header_bytes-head.ensures _ _ c.agrees-2.ensures c.if-not-agrees-2.false,
    )
