-- The flags, the roles and the places are those of the codewords that start at slot t - i, so the answer is what is told of symbol i.
use mathlib.Core.Path.{◌≡◌, ap, ◌∙◌, subst⁻¹}
use mathlib.Core.List.{List}
use Prim.Native.Nat.{ℕ, ◌+◌, ◌≤◌}
use native.Mathlib.Omega.{arith}
use lib.ListN.{length, get_or}
use Rattle.galois.proofs.Cases.{is_true}
use Rattle.code.proofs.Shape.{Shape, shape}
use Rattle.elimination.specs.declared.reduced.Reduced.{Reduced}
use Rattle.elimination.specs.Elimination.{eliminated, known_in, reduced_of}
use Rattle.elimination.proofs.OwnColumns.{own_reduced}
use Rattle.elimination.proofs.Reductions.{eliminated_reduced}
use Rattle.shares.specs.Shares.{lane_byte}
use Rattle.clashes.specs.Clashes.{ParityOnly}
use Rattle.lanes.specs.Lanes.{Own, lanes_said}
use Rattle.places.specs.Places.{places_of, flags_of}
use Rattle.places.proofs.Places.{place_inside}
use Rattle.symbols.proofs.LaneSaid.{lane_below, flag_cases, lane_said}
use Rattle.symbols.proofs.ParityFlags.{Unsolved, located_eliminated, located_only, located_left}
use Rattle.symbols.proofs.Pivots.{left_said}
use Rattle.symbols.proofs.Answers.{told_and_kept}
use Rattle.symbols.proofs.write_symbol.Goals as goal

pub overflow_add-due : goal.overflow_add-due
overflow_add-due c = omega (arith, shape c.args.s c.requires.0.settings)

pub answer-requires : goal.answer-requires
answer-requires c =
    let s = c.args.s in
    let passed = c.requires.0.settings in
    let flags : List ℕ = flags_of s c.args.rows.now (c.args.due + c.args.i) c.args.t c.args.i in
    let reduced : c.eliminate-reduced.result ≡ reduced_of s flags =
    c.eliminate-reduced.ensures.reduced
    ∙ located_eliminated s passed flags _ _ _ c.requires.3 c.locate.ensures.flags c.locate.ensures.roles
    ∙ eliminated_reduced s flags (is_true _ passed) in (
      c.requires.2,
      c.requires.4,
      subst⁻¹ (λ (x : Reduced). Own s x c.args.i) reduced (own_reduced s c.args.i c.requires.2 passed flags),
      subst⁻¹ (ParityOnly s) c.eliminate-reduced.ensures.left
          (located_only s passed flags _ _ _ c.requires.3 c.locate.ensures.flags c.locate.ensures.roles),
    )

pub returns : goal.returns
returns c =
    let s = c.args.s in
    let passed = c.requires.0.settings in
    let h : Shape s = shape s passed in
    let rows : List ℕ = c.args.rows.now in
    let flags : List ℕ = flags_of s rows (c.args.due + c.args.i) c.args.t c.args.i in
    let places : List ℕ = places_of s c.args.t c.args.i in
    let x : Reduced = eliminated s (known_in s flags) in
    let left : List ℕ = c.eliminate-reduced.new.flags in
    let small : (q : ℕ) → _ = λ q. (c.type_inv.rows q).fits in
    let left_by : Unsolved s flags x.roles left =
    subst⁻¹ (Unsolved s flags x.roles) c.eliminate-reduced.ensures.left
    (located_left s passed flags _ _ _ c.requires.3 c.locate.ensures.flags c.locate.ensures.roles
    (λ q source. flag_cases s passed rows c.args.due c.args.t c.args.i q (omega arith))) in
    let reduced : c.eliminate-reduced.result ≡ x =
    c.eliminate-reduced.ensures.reduced
    ∙ located_eliminated s passed flags _ _ _ c.requires.3 c.locate.ensures.flags c.locate.ensures.roles in
    let both_told =
    told_and_kept s rows c.args.due c.args.t c.args.i x left places h.lanes_positive
    (λ v.
    left_said s passed flags left (lane_byte s places rows v) (lane_below s places rows small v) left_by c.args.i
    ∙ lane_said s passed rows c.args.due c.args.t c.args.i small c.requires.2 v)
    c.answer.result c.args.out.now _
    (c.answer.ensures
    ∙ ap (λ (x : Reduced). lanes_said s x left c.locate.new.located.places rows c.args.i c.args.out.now) reduced
    ∙ ap (λ (l : List ℕ). lanes_said s x left l rows c.args.i c.args.out.now) c.locate.ensures.places) in
    record { told = both_told.0; kept = both_told.1 }

pub invariant_of-words : goal.invariant_of-words
invariant_of-words c = record {
  settings = c.requires.0.settings;
  inside = λ p below.
      subst⁻¹ (λ (l : List ℕ). get_or l p 0 + c.args.s.lanes ≤ length c.args.rows.now) c.locate.ensures.places
      (omega (
        arith,
        c.requires.0.rows_exact,
        place_inside c.args.s (shape c.args.s c.requires.0.settings) c.args.t c.args.i p below,
      ));
  small = λ j. (c.type_inv.rows j).fits;
}
