-- The rows are those of the settings, and slot i is one of 32 bits.
use borrow.Author.Rules.{rules}
use mathlib.Core.Path.{sym, ◌∙◌}
use native.Mathlib.Omega.{arith}
use Rattle.code.proofs.Shape.{shape}
use Rattle.patterns.proofs.told_in.Goals as goal

pub write_symbol-requires : goal.write_symbol-requires
write_symbol-requires c =
    let h = shape _ c.requires.0 in (
      record { settings = c.requires.0; rows_exact = search rules; slot_fits = omega arith },
      omega arith,
      c.requires.4,
      search rules,
      c.requires.3 ∙ sym c.requires.1,
    )
