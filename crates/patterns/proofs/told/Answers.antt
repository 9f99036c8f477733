-- The rows are those of the settings.
use native.Mathlib.Omega.{arith}
use Rattle.code.proofs.Shape.{shape}
use Rattle.places.proofs.Places.{rows_few}
use Rattle.patterns.proofs.told.Goals as goal

pub slice_bounds-rows-end : goal.slice_bounds-rows-end
slice_bounds-rows-end c =
    omega (arith, rows_few _ (shape _ c.requires.0))
