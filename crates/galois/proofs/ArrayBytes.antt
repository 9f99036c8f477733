-- What an array of bytes holds is bytes.
use mathlib.Core.List.{List, [], ◌∷◌}
use Prim.Native.Nat.{ℕ, zero, suc, ◌<◌}
use lib.Dec.{lit<}
use lib.ListN.{get_or}
use mir.Val.{Val}
use denote.Laws.{Is}
use denote.Shadow.{shadow}
use denote.Array.{Array, each}
use denote.Builtin.{u8}

each_below : (xs : List ℕ) (us : List Val) → shadow (each ℕ u8.own_val xs us) → (j : ℕ) → get_or xs j 0 < 256
each_below [] us s j = lit< tt
each_below (x ∷ xs) [] s j = absurd s
each_below (x ∷ xs) (u ∷ us) s zero = s.0.1
each_below (x ∷ xs) (u ∷ us) s (suc j) = each_below xs us s.1 j

pub array_below : (n : ℕ) (xs : List ℕ) (vs : List Val) → Is (Array u8 n) xs vs → (j : ℕ) → get_or xs j 0 < 256
array_below n xs vs p = each_below xs p.0 p.1.1
