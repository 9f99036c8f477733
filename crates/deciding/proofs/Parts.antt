-- A part of a message written over: what stands before it stays, and it has the new bytes.
use mathlib.Core.Path.{◌≡◌, sym, ap, ◌∙◌}
use mathlib.Core.List.{List, ◌++◌}
use mathlib.Core.Logic.{⊎_elim}
use Prim.Native.Nat.{ℕ, ◌+◌, ◌-◌, ◌≤◌, ◌<◌}
use native.Mathlib.Omega.{arith}
use lib.ListN.{length, get_or, take, get_or-append}
use lib.Seq.{length-take-le, get_or-take, get_or-append-add}
use Rattle.galois.proofs.Cases.{le_or_lt}

module _ (message part rest : List ℕ) (first : ℕ) (inside : first ≤ length message) where
  front : length (take first message) ≡ first
  front = length-take-le first message inside

  part_before : (q : ℕ) → q < first → get_or (take first message ++ (part ++ rest)) q 0 ≡ get_or message q 0
  part_before q h =
      get_or-append (take first message) (part ++ rest) 0 q (omega (arith, front)) ∙ get_or-take first message q 0 h

  part_within : (v : ℕ) → v < length part → get_or (take first message ++ (part ++ rest)) (first + v) 0 ≡ get_or part v 0
  part_within v h =
      ap (λ (m : ℕ). get_or (take first message ++ (part ++ rest)) (m + v) 0) (sym front)
      ∙ get_or-append-add (take first message) (part ++ rest) v 0 ∙ get_or-append part rest 0 v h

  -- a message that is filled up to the part, whose bytes are next, is filled up to the part's end
  pub part_filled : (f : ℕ → ℕ) (size : ℕ) → length part ≡ size → ((q : ℕ) → q < first → get_or message q 0 ≡ f q)
      → ((v : ℕ) → v < size → get_or part v 0 ≡ f (first + v))
      → (q : ℕ) → q < first + size → get_or (take first message ++ (part ++ rest)) q 0 ≡ f q
  part_filled f size exact before within q h =
      ⊎_elim
      (λ past.
      let v : ℕ = q - first in
      let place : q ≡ first + v = omega arith in
      ap (λ (j : ℕ). get_or (take first message ++ (part ++ rest)) j 0) place ∙ part_within v (omega arith) ∙ within v (omega arith)
      ∙ ap f (sym place))
      (λ below. part_before q below ∙ before q below) (le_or_lt first q)
