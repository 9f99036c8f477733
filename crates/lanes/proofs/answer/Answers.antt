-- Each way out is one case of the answer.
use mathlib.Core.Path.{sym, ap, ◌∙◌}
use native.Mathlib.Omega.{arith}
use Rattle.gathering.proofs.PairLaws.{blank_wide}
use Rattle.code.proofs.Shape.{shape}
use Rattle.elimination.specs.declared.grade.Grade.TheVariants.{Whole}
use Rattle.elimination.proofs.PivotSearch.{get_d_default}
use Rattle.lanes.proofs.Clashes.{own_differs}
use Rattle.lanes.proofs.Combined.{own_lanes}
use Rattle.lanes.proofs.Gathered.{put_paired, put_clash, put_sum}
use Rattle.lanes.proofs.Said.{answers, said_clash, said_lost, said_whole}
use Rattle.lanes.proofs.answer.Goals as goal

pub gather-requires : goal.gather-requires
gather-requires c = blank_wide

pub invariant_of-vectors : goal.invariant_of-vectors
invariant_of-vectors c =
    let words = c.args.words.now in
    record {
      paired = put_paired words.s (shape words.s words.settings) c.args.reduced.now words.places.now words.bytes.now c.gather.new.pairs
          c.gather.ensures;
    }

pub returns-then-clashing : goal.returns-then-clashing
returns-then-clashing c =
    let words = c.args.words.now in
    let checked = c.clashing.ensures
    ∙ put_clash words.s (shape words.s words.settings) c.args.reduced.now words.places.now words.bytes.now c.gather.new.pairs
    c.gather.ensures words.small c.args.flags.now in
    said_clash words.s c.args.reduced.now c.args.flags.now words.places.now words.bytes.now c.args.i c.args.out.now
    (sym checked ∙ c.if-clashing.true)

pub bounds-reduced-i : goal.bounds-reduced-i
bounds-reduced-i c = omega (arith, shape c.args.words.now.s c.args.words.now.settings)

pub write_own-requires : goal.write_own-requires
write_own-requires c = (omega (arith, shape c.args.words.now.s c.args.words.now.settings), c.requires.1)

pub returns-then-reduced-i : goal.returns-then-reduced-i
returns-then-reduced-i c =
    let words = c.args.words.now in
    let x = c.args.reduced.now in
    let h = shape words.s words.settings in
    let checked = c.clashing.ensures
    ∙ put_clash words.s h x words.places.now words.bytes.now c.gather.new.pairs c.gather.ensures words.small c.args.flags.now in
    let role = get_d_default x.roles c.args.i 16 0 (omega arith) ∙ c.if-reduced-i.true in
    ap (answers Whole)
    (c.write_own.ensures ∙ own_lanes words.s x words.places.now words.bytes.now c.args.i c.requires.2 role h c.requires.0 words.small)
    ∙ said_whole words.s x c.args.flags.now words.places.now words.bytes.now c.args.i c.args.out.now
    (sym checked ∙ c.if-clashing.false) (own_differs words.s x c.args.i c.requires.2 role h c.requires.0)

pub differing-requires : goal.differing-requires
differing-requires c =
    let h = shape c.args.words.now.s c.args.words.now.settings in
    (omega arith, omega arith)

pub returns-then-differing : goal.returns-then-differing
returns-then-differing c =
    let words = c.args.words.now in
    let checked = c.clashing.ensures
    ∙ put_clash words.s (shape words.s words.settings) c.args.reduced.now words.places.now words.bytes.now c.gather.new.pairs
    c.gather.ensures words.small c.args.flags.now in
    said_lost words.s c.args.reduced.now c.args.flags.now words.places.now words.bytes.now c.args.i c.args.out.now
    (sym checked ∙ c.if-clashing.false) (sym c.differing.ensures ∙ c.if-differing.true)

pub write_sum-requires : goal.write_sum-requires
write_sum-requires c =
    let h = shape c.args.words.now.s c.args.words.now.settings in
    (omega arith, c.requires.1)

pub returns : goal.returns
returns c =
    let words = c.args.words.now in
    let x = c.args.reduced.now in
    let h = shape words.s words.settings in
    let checked = c.clashing.ensures
    ∙ put_clash words.s h x words.places.now words.bytes.now c.gather.new.pairs c.gather.ensures words.small c.args.flags.now in
    ap (answers Whole)
    (c.write_sum.ensures
    ∙ put_sum words.s h x words.places.now words.bytes.now c.gather.new.pairs c.gather.ensures words.small c.args.i)
    ∙ said_whole words.s x c.args.flags.now words.places.now words.bytes.now c.args.i c.args.out.now
    (sym checked ∙ c.if-clashing.false) (sym c.differing.ensures ∙ c.if-differing.false)
