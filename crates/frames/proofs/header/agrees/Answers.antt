-- The test of each place, over all places.
use Rattle.std.proofs.Common.{tests, ℕ, ◌-◌, Bool, get_or, eqb, refl, ◌∙◌, rules}
use Rattle.std.proofs.lemmas.Iterator.{YieldsList-from_range}
use Rattle.std.proofs.lemmas.Iterator.Search.{all_from_yields_List}
use Rattle.frames.proofs.EachPlace.{all_every}
use Rattle.frames.proofs.header.agrees.Goals as goal

pub returns : goal.returns
returns c =
    let test : ℕ → Bool = λ i. eqb (get_or c.args.frame.now i 0) (get_or c.args.head i 0) in
    all_from_yields_List test _ _ c.all.result c.all.ensures.ran
    (YieldsList-from_range c.args.first c.args.end (c.args.end - c.args.first) refl refl) (λ x b q k. search (rules, tests))
    ∙ all_every test c.args.first (c.args.end - c.args.first)
