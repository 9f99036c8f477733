-- Lines that the definitions give, byte by byte.
use Rattle.std.specs.Prelude.{Ok}
use mathlib.Core.Path.{◌≡◌, refl}
use mathlib.Core.List.{[], ◌∷◌}
use Rattle.protocol.specs.declared.Told.TheVariants.{Whole}
use Rattle.protocol.specs.declared.Cause.TheVariants.{OtherSlot}
use Rattle.numbers.specs.Digits.{decimal_up_to, decimal}
use Rattle.lines.specs.Text.{stop_text, stop_line, line_of}

-- `12 whole 09ab`
whole_line : line_of 12 (Ok Whole) (9 ∷ 171 ∷ []) ≡ 49 ∷ 50 ∷ 32 ∷ 119 ∷ 104 ∷ 111 ∷ 108 ∷ 101 ∷ 32 ∷ 48 ∷ 57 ∷ 97 ∷ 98 ∷ 10 ∷ []
unfolding line_of decimal decimal_up_to
whole_line = refl

-- `stop 6`
stop_line_lem : stop_line OtherSlot ≡ 115 ∷ 116 ∷ 111 ∷ 112 ∷ 32 ∷ 54 ∷ 10 ∷ []
unfolding stop_text decimal decimal_up_to
stop_line_lem = refl
