-- The first recording that is not empty shows the settings.
use borrow.Author.Tests.{ne_eqb}
use mathlib.Core.Path.{◌≡◌, sym, ◌∙◌}
use mathlib.Core.Bool.{true, false}
use native.Mathlib.Omega.{arith}
use Prim.Native.Nat.{ℕ, zero, suc, ◌+◌}
use lib.Dec.{eqb, eqb→eq}
use lib.ListN.{length}
use Rattle.pairplay.specs.Transcript.{shown_by}
use Rattle.pairs.proofs.Starts.{both_empty}
use Rattle.pairs.proofs.start.examine.Goals as goal

-- a sum is not 0 where the first number, or the second, is not
some_left : (a b : ℕ) → eqb a 0 ≡ false → eqb (a + b) 0 ≡ false
some_left zero b e = let no : true ≡ false = e in absurd (cc)
some_left (suc a) b e = ne_eqb (suc a + b) 0 (λ z. absurd (omega arith))

some_right : (a b : ℕ) → eqb b 0 ≡ false → eqb (a + b) 0 ≡ false
some_right a zero e = let no : true ≡ false = e in absurd (cc)
some_right a (suc b) e = ne_eqb (a + suc b) 0 (λ z. absurd (omega arith))

pub started-requires : goal.started-requires
unfolding shown_by
started-requires c =
    let some : eqb (length c.args.first.now) 0 ≡ false = sym c.is_empty.ensures ∙ c.if-not-is_empty.true in
    (some_left (length c.args.first.now) (length c.args.second.now) some, rw (some, shown_by))

pub started-requires-then-not-is_empty-2 : goal.started-requires-then-not-is_empty-2
unfolding shown_by
started-requires-then-not-is_empty-2 c =
    let none : eqb (length c.args.first.now) 0 ≡ true = sym c.is_empty.ensures ∙ c.if-not-is_empty.false in
    let some : eqb (length c.args.second.now) 0 ≡ false = sym c.is_empty-else-not-is_empty.ensures ∙ c.if-not-is_empty-2.true in
    (some_right (length c.args.first.now) (length c.args.second.now) some, rw (none, shown_by))

pub returns-else-not-is_empty-2 : goal.returns-else-not-is_empty-2
returns-else-not-is_empty-2 c =
    let none : eqb (length c.args.first.now) 0 ≡ true = sym c.is_empty.ensures ∙ c.if-not-is_empty.false in
    let neither : eqb (length c.args.second.now) 0 ≡ true = sym c.is_empty-else-not-is_empty.ensures ∙ c.if-not-is_empty-2.false in
    let first = eqb→eq (length c.args.first.now) 0 (rw none tt) in
    let second = eqb→eq (length c.args.second.now) 0 (rw neither tt) in
    both_empty c.args.first.now c.args.second.now (omega arith)
