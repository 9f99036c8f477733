-- Slots rise in both.
use mathlib.Core.Path.{◌≡◌, ap₂, ◌∙◌}
use Rattle.aerials.specs.Sound.{Rising}
use Rattle.aerials.specs.Next.{next_in, earlier, next_of}
use Rattle.aerials.proofs.PairLaws.{checked}
use Rattle.joiner.proofs.onward.next_slot.Goals as goal

pub new-one-requires : goal.new-one-requires
unfolding Rising
new-one-requires c = (checked c.args.s c.args.first.now c.args.second.now c.requires).one.rising

pub new-two-requires : goal.new-two-requires
unfolding Rising
new-two-requires c = (checked c.args.s c.args.first.now c.args.second.now c.requires).two.rising

pub returns : goal.returns
unfolding next_of
returns c =
    let one : c.next.result ≡ next_in c.args.s c.args.first.now c.args.slot =
    rw (c.new-one.ensures.settings, c.new-one.ensures.bytes) at c.next.ensures in
    let two : c.next-2.result ≡ next_in c.args.s c.args.second.now c.args.slot =
    rw (c.new-two.ensures.settings, c.new-two.ensures.bytes) at c.next-2.ensures in
    c.earlier.ensures ∙ ap₂ earlier one two
