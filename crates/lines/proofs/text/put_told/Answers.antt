-- Each tale has its line.
use mathlib.Core.Path.{refl}
use Rattle.lines.specs.Text.{line_of, written}
use Rattle.lines.proofs.text.put_told.Goals as goal

pub returns-in-NoneYet : goal.returns-in-NoneYet
unfolding line_of written
returns-in-NoneYet c =
    rw c.in-NoneYet.is (refl, refl)

pub returns-in-Lost : goal.returns-in-Lost
unfolding line_of
returns-in-Lost c =
    rw c.in-Lost.is c.write_word.ensures

pub returns-in-Clash : goal.returns-in-Clash
unfolding line_of
returns-in-Clash c =
    rw c.in-Clash.is c.write_word-in-Clash.ensures
