-- Room for the longest line, without a sum that might not fit.
use borrow.Author.Tests.{leb-true, leb-false, le-leb, lt-leb}
use mathlib.Core.Path.{◌≡◌, refl, sym, ◌∙◌}
use mathlib.Core.Bool.{Bool, true, false}
use native.Mathlib.Omega.{arith}
use Prim.Native.Nat.{ℕ, ◌+◌, ◌-◌, ◌*◌, ◌/◌, ◌≤◌}
use lib.Dec.{leb}
use Rattle.lines.proofs.has_room.Goals as goal

halved : (line message : ℕ) → 18 ≤ line → leb message ((line - 18) / 2) ≡ leb (18 + 2 * message) line
halved line message some = go (leb (18 + 2 * message) line) refl
  where
    go : (b : Bool) → leb (18 + 2 * message) line ≡ b → leb message ((line - 18) / 2) ≡ leb (18 + 2 * message) line
    go true e = le-leb message ((line - 18) / 2) (omega (arith, leb-true (18 + 2 * message) line e)) ∙ sym e
    go false e = lt-leb message ((line - 18) / 2) (omega (arith, leb-false (18 + 2 * message) line e)) ∙ sym e

pub returns-then-line-ge18 : goal.returns-then-line-ge18
returns-then-line-ge18 c = halved c.args.line c.args.message c.if-line-ge18.true

pub returns-else-line-ge18 : goal.returns-else-line-ge18
returns-else-line-ge18 c =
    lt-leb 18 c.args.line c.if-line-ge18.false ∙ sym (lt-leb (18 + 2 * c.args.message) c.args.line (omega arith))
