-- With room the line of the report is written; without it a line stays as it was.
use borrow.Author.Tests.{leb-true, leb-false}
use mathlib.Core.Path.{sym, ap₂, ◌∙◌}
use mathlib.Core.List.{List}
use Prim.Native.Nat.{ℕ, ◌+◌, ◌*◌}
use lib.ListN.{length}
use Rattle.lines.specs.Lent.{longest, Line}
use Rattle.lines.proofs.LentLines.{line_stays, line_lent}
use Rattle.lines.proofs.write_line.Goals as goal

abbrev lent : List ℕ → ℕ → Line
lent line len = record { line = line; len = len }

pub put_line-requires : goal.put_line-requires
put_line-requires c =
    leb-true (18 + 2 * length c.args.message.now) (length c.args.line.now) (sym c.has_room.ensures ∙ c.if-has_room.true)

pub returns-then-has_room : goal.returns-then-has_room
unfolding longest
returns-then-has_room c =
    ap₂ lent c.put_line.ensures.1 c.put_line.ensures.0
    ∙ line_lent c.args.about c.args.reply c.args.message.now c.args.line.now
    (leb-true (18 + 2 * length c.args.message.now) (length c.args.line.now) (sym c.has_room.ensures ∙ c.if-has_room.true))

pub returns-else-has_room : goal.returns-else-has_room
unfolding longest
returns-else-has_room c =
    line_stays c.args.about c.args.reply c.args.message.now c.args.line.now
    (leb-false (18 + 2 * length c.args.message.now) (length c.args.line.now) (sym c.has_room.ensures ∙ c.if-has_room.false))
