-- Rows that are filled from the last one up.
use mathlib.Core.Path.{◌≡◌, ◌∙◌}
use mathlib.Core.List.{List}
use mathlib.Core.Logic.{⊎_elim}
use Prim.Native.Nat.{ℕ, ◌+◌, ◌≤◌, ◌<◌}
use native.Mathlib.Nat.{eq-or-lt_of_le}
use native.Mathlib.Omega.{arith}
use lib.ListN.{length, get_or, set}
use lib.Seq.{get_or-set_same, get_or-set_other}

-- a list that is filled from j + 1 up to m, with f j stored at j, is filled from j
pub filled_before : {A : Type 0} (m : ℕ) (f : ℕ → A) (d : A) (l : List A) (j : ℕ) (a : A) → j < length l → a ≡ f j
    → ((i : ℕ) → j + 1 ≤ i → i < m → get_or l i d ≡ f i) → (i : ℕ) → j ≤ i → i < m → get_or (set l j a) i d ≡ f i
filled_before m f d l j a h e after i low high =
    ⊎_elim
    (λ same.
    let at : i ≡ j = omega arith in
    rw at (get_or-set_same l j a d h ∙ e))
    (λ above. get_or-set_other l j i a d (λ same. omega arith) ∙ after i (omega arith) high)
    (eq-or-lt_of_le low)
