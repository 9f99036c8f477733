-- The four bytes of a slot: a frame of bytes has those of the number that they make.
use mathlib.Core.Path.{◌≡◌, refl, subst⁻¹}
use mathlib.Core.List.{List, [], ◌∷◌}
use Prim.Native.Nat.{ℕ, zero, suc, ◌<◌}
use native.Mathlib.Omega.{arith}
use lib.Dec.{T}
use lib.ListN.{get_or, drop}
use lib.Seq.{get_or-drop}
use borrow.Author.Tests.{eq-eqb}
use Rattle.std.proofs.lemmas.Nat.{be_bytes_4}
use Rattle.galois.specs.Bounded.{every}
use Rattle.protocol.specs.Frame.{slot_bytes}
use Rattle.protocol.specs.Causes.{agree}
use Rattle.frames.specs.Fields.{slot_at, slot_in}

-- a list of four bytes has a byte at every place, 0 past its end
each_byte : (a b c d : ℕ) → a < 256 → b < 256 → c < 256 → d < 256 → (i : ℕ) → get_or (a ∷ b ∷ c ∷ d ∷ []) i 0 < 256
each_byte a b c d ha hb hc hd zero = ha
each_byte a b c d ha hb hc hd (suc zero) = hb
each_byte a b c d ha hb hc hd (suc (suc zero)) = hc
each_byte a b c d ha hb hc hd (suc (suc (suc zero))) = hd
each_byte a b c d ha hb hc hd (suc (suc (suc (suc i)))) = omega arith

-- so a frame of bytes has those of its slot
pub slot_agrees : (frame : List ℕ) → ((j : ℕ) → j < 14 → get_or frame j 0 < 256) → T (agree 4 (drop 10 frame) (slot_bytes (slot_in frame)))
unfolding agree every slot_at slot_bytes
slot_agrees frame byte =
    let at : ℕ → ℕ = λ j. get_or frame j 0 in
    let same : slot_bytes (slot_in frame) ≡ at 10 ∷ at 11 ∷ at 12 ∷ at 13 ∷ [] =
    be_bytes_4 (at 10 ∷ at 11 ∷ at 12 ∷ at 13 ∷ []) (slot_in frame) refl
    (each_byte (at 10) (at 11) (at 12) (at 13)
    (byte 10 (omega arith)) (byte 11 (omega arith)) (byte 12 (omega arith)) (byte 13 (omega arith)))
    (omega arith) in
    subst⁻¹ (λ (l : List ℕ). T (agree 4 (drop 10 frame) l)) same
    (rw (
      eq-eqb (get_or (drop 10 frame) 0 0) (at 10) (get_or-drop 10 frame 0 0),
      eq-eqb (get_or (drop 10 frame) 1 0) (at 11) (get_or-drop 10 frame 1 0),
      eq-eqb (get_or (drop 10 frame) 2 0) (at 12) (get_or-drop 10 frame 2 0),
      eq-eqb (get_or (drop 10 frame) 3 0) (at 13) (get_or-drop 10 frame 3 0),
    ) tt)
