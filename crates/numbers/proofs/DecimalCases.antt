-- Decimals that the definition gives, byte by byte.
use mathlib.Core.Path.{◌≡◌, refl}
use mathlib.Core.List.{[], ◌∷◌}
use Rattle.numbers.specs.Digits.{decimal_up_to, decimal}

-- `0`
number_zero : decimal 0 ≡ 48 ∷ []
unfolding decimal decimal_up_to
number_zero = refl

-- `10`
number_ten : decimal 10 ≡ 49 ∷ 48 ∷ []
unfolding decimal decimal_up_to
number_ten = refl

-- `3999999999`, the last slot
number_last : decimal 3999999999 ≡ 51 ∷ 57 ∷ 57 ∷ 57 ∷ 57 ∷ 57 ∷ 57 ∷ 57 ∷ 57 ∷ 57 ∷ []
unfolding decimal decimal_up_to
number_last = refl
