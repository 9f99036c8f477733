-- What is lent of an accepted pair, or nothing of a refused one.
use mathlib.Core.Path.{refl, sym, ◌∙◌}
use native.Mathlib.Omega.{arith}
use Rattle.aerials.proofs.CheckLaws.{number_of_ok, number_of_err}
use Rattle.aerials.proofs.Lent.{joining}
use Rattle.aerials.proofs.PartLaws.{join_accepted, no_bytes}
use Rattle.joiner.proofs.lending.join.Goals as goal

pub part-requires : goal.part-requires
part-requires c = sym c.pair_cause.ensures.number ∙ number_of_ok c.pair_cause.result (sym c.is_ok.ensures.value ∙ c.if-is_ok.true)

pub returns-then-is_ok : goal.returns-then-is_ok
returns-then-is_ok c =
    let accepted = sym c.pair_cause.ensures.number ∙ number_of_ok c.pair_cause.result (sym c.is_ok.ensures.value ∙ c.if-is_ok.true) in
    rw (join_accepted c.args.s c.args.first.now c.args.second.now c.args.slot accepted) c.part.ensures

pub returns-else-is_ok : goal.returns-else-is_ok
returns-else-is_ok c =
    rw (joining.of_refused c.args.s c.args.first.now c.args.second.now c.args.slot
    (λ e. number_of_err c.pair_cause.result (sym c.is_ok.ensures.value ∙ c.if-is_ok.false) (c.pair_cause.ensures.number ∙ e)))
    (record { bytes = sym (no_bytes c.args.first.now c.args.second.now); whose = refl; start = omega arith })
