-- A frame's first 14 bytes, compared with the header due part by part, are the tests of causes 4, 5 and 6.
use mathlib.Core.Path.{◌≡◌, refl, ap, ◌∙◌}
use mathlib.Core.Bool.{Bool}
use mathlib.Core.List.{List}
use Prim.Native.Nat.{ℕ, ◌+◌}
use lib.Dec.{eqb}
use lib.ListN.{get_or, drop}
use lib.Seq.{get_or-drop}
use Rattle.galois.specs.Bounded.{every}
use Rattle.code.specs.declared.settings.Settings.{Settings}
use Rattle.protocol.specs.Frame.{mark, five, slot_bytes, header}
use Rattle.protocol.specs.Causes.{agree}

-- the frame and this header agree at the m places from first on
abbrev pub agree_from : List ℕ → List ℕ → ℕ → ℕ → Bool
agree_from frame head first m = every m (λ i. eqb (get_or frame (first + i) 0) (get_or head (first + i) 0))

module _ (version : ℕ) (s : Settings) (due : ℕ) (frame head : List ℕ) (due-head : head ≡ header version s due) where
  pub mark_test : agree_from frame head 0 5 ≡ agree 5 frame (mark version)
  unfolding agree every header mark five slot_bytes
  mark_test = ap (λ (h : List ℕ). agree_from frame h 0 5) due-head

  pub five_test : agree_from frame head 5 5 ≡ agree 5 (drop 5 frame) (five s)
  unfolding agree every header mark five slot_bytes
  five_test =
      ap (λ (h : List ℕ). agree_from frame h 5 5) due-head
      ∙ rw (get_or-drop 5 frame 0 0, get_or-drop 5 frame 1 0, get_or-drop 5 frame 2 0, get_or-drop 5 frame 3 0, get_or-drop 5 frame 4 0)
      refl

  pub slot_test : agree_from frame head 10 4 ≡ agree 4 (drop 10 frame) (slot_bytes due)
  unfolding agree every header mark five slot_bytes
  slot_test =
      ap (λ (h : List ℕ). agree_from frame h 10 4) due-head
      ∙ rw (get_or-drop 10 frame 0 0, get_or-drop 10 frame 1 0, get_or-drop 10 frame 2 0, get_or-drop 10 frame 3 0) refl
