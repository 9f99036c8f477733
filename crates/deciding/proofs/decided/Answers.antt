-- One source symbol a turn: the grade is that of the symbols before i, and while it is whole the message is done up to symbol i.
use mathlib.Core.Path.{◌≡◌, refl, sym, ap, ap₂, ◌∙◌}
use mathlib.Core.List.{List}
use Prim.Native.Nat.{ℕ, ◌+◌, ◌-◌, ◌*◌, ◌<◌, ◌≤◌}
use native.Mathlib.Nat.{zero-mul, suc-mul, mul-le-mul_right}
use native.Mathlib.Numerals.{add-one}
use native.Mathlib.Omega.{arith}
use borrow.Rule.Slice.PartMut.{same_len_mid}
use lib.ListN.{length, take, drop, replicate, length-take, length-drop}
use Rattle.galois.specs.Bounded.{any}
use Rattle.galois.proofs.ByIndex.{is_table}
use Rattle.code.specs.declared.settings.Settings.{Settings}
use Rattle.code.specs.Settings.{k_of}
use Rattle.code.proofs.Shape.{shape}
use Rattle.elimination.specs.declared.grade.Grade.{Grade}
use Rattle.protocol.specs.Lengths.{message_len}
use Rattle.protocol.specs.Verdict.{shared_bytes, buffer_of, verdict}
use Rattle.std.specs.Prelude.{Ok}
use Rattle.symbols.specs.Decision.{grade, symbols_grade, shared_byte}
use Rattle.symbols.proofs.LaneSaid.{byte_said}
use Rattle.deciding.proofs.Grades.{worse, max_worse, worse_whole, symbols_more, told_by, verdict_graded}
use Rattle.deciding.proofs.Parts.{part_filled}
use Rattle.deciding.proofs.decided.Goals as goal

-- symbol i of a message ends within it
ends : (s : Settings) (message : List ℕ) (i : ℕ) → length message ≡ message_len s → i < k_of s → i * s.lanes + s.lanes ≤ length message
unfolding message_len
ends s message i long below = omega (arith, long, mul-le-mul_right s.lanes below, suc-mul i s.lanes)

-- the grade after the last symbol gives what is told
told_all : (s : Settings) (rows : List ℕ) (due t i : ℕ) → i ≡ k_of s → (worst g : Grade) → worst ≡ symbols_grade s rows due t i
    → worst ≡ g → Ok (told_by g) ≡ verdict s rows due t
told_all s rows due t i all worst g graded is =
    ap (λ (h : Grade). Ok (told_by h)) (sym is ∙ graded ∙ ap (symbols_grade s rows due t) all) ∙ verdict_graded s rows due t

pub loop-i-init : goal.loop-i-init
unfolding symbols_grade grade any
loop-i-init c =
    let none = zero-mul c.args.s.lanes in record {
      shaped = shape c.args.s c.requires.0.settings;
      long = c.requires.2;
      graded = refl;
      done = λ whole q h. absurd (omega arith);
    }

pub slice_bounds-symbol-end : goal.slice_bounds-symbol-end
slice_bounds-symbol-end c =
    omega (arith, ends c.args.s c.loop-i.message c.loop-i.i c.loop-i.invariant.long (omega arith))

pub loop-i-preserved : goal.loop-i-preserved
unfolding message_len
loop-i-preserved c =
    let first : ℕ = c.loop-i.i * c.args.s.lanes in
    let within : first + c.args.s.lanes ≤ length c.loop-i.message =
    ends c.args.s c.loop-i.message c.loop-i.i c.loop-i.invariant.long (omega arith) in
    let part-exact : length (take (first + c.args.s.lanes - first) (drop first c.loop-i.message)) ≡ c.args.s.lanes =
    omega (
      arith,
      within,
      length-take (first + c.args.s.lanes - first) (drop first c.loop-i.message),
      length-drop first c.loop-i.message,
    ) in
    let rest : List ℕ = drop (first + c.args.s.lanes - first) (drop first c.loop-i.message) in
    let exact = c.write_symbol-grade.auto.out ∙ part-exact in
    let grown : (c.loop-i.i + 1) * c.args.s.lanes ≡ first + c.args.s.lanes =
    rw (add-one c.loop-i.i) (suc-mul c.loop-i.i c.args.s.lanes) in
    let larger : c.max-worst.result ≡ worse c.loop-i.worst c.write_symbol-grade.result =
    c.max-worst.ensures ∙ max_worse c.loop-i.worst c.write_symbol-grade.result in record {
      shaped = c.loop-i.invariant.shaped;
      long = same_len_mid first (first + c.args.s.lanes - first) c.loop-i.message c.write_symbol-grade.new.out
          c.write_symbol-grade.auto.out ∙ c.loop-i.invariant.long;
      graded = larger ∙ ap₂ worse c.loop-i.invariant.graded c.write_symbol-grade.ensures.told.graded
          ∙ symbols_more c.args.s c.args.rows.now c.args.due c.args.t c.loop-i.i;
      done = λ whole q h.
          let both = worse_whole c.loop-i.worst c.write_symbol-grade.result (sym larger ∙ whole) in
          part_filled c.loop-i.message c.write_symbol-grade.new.out rest first (omega (arith, within))
          (shared_byte c.args.s c.args.rows.now c.args.due c.args.t) c.args.s.lanes exact (c.loop-i.invariant.done both.0)
          (λ v lane.
          c.write_symbol-grade.ensures.told.shared both.1 v lane
          ∙ byte_said c.args.s c.args.rows.now c.args.due c.args.t c.loop-i.i v lane)
          q (omega arith);
    }

pub returns-in-Whole : goal.returns-in-Whole
unfolding buffer_of shared_bytes shared_byte message_len
returns-in-Whole c =
    let all : c.loop-i.i ≡ k_of c.args.s = omega arith in
    let done : c.loop-i.i * c.args.s.lanes ≡ k_of c.args.s * c.args.s.lanes = ap (λ (m : ℕ). m * c.args.s.lanes) all in record {
      said = told_all c.args.s c.args.rows.now c.args.due c.args.t _ all _ _ c.loop-i.invariant.graded c.in-Whole.is;
      message = is_table (message_len c.args.s) (shared_byte c.args.s c.args.rows.now c.args.due c.args.t) 0 c.loop-i.message
          c.loop-i.invariant.long (λ q h. c.loop-i.invariant.done c.in-Whole.is q (omega arith));
    }

pub returns-in-Lost : goal.returns-in-Lost
unfolding buffer_of
returns-in-Lost c = record {
  said = told_all c.args.s c.args.rows.now c.args.due c.args.t c.loop-i.i (omega arith) _ _ c.loop-i.invariant.graded c.in-Lost.is;
  message = c.clear.ensures ∙ ap (λ (m : ℕ). replicate m 0) c.loop-i.invariant.long;
}

pub returns-in-Clash : goal.returns-in-Clash
unfolding buffer_of
returns-in-Clash c = record {
  said = told_all c.args.s c.args.rows.now c.args.due c.args.t c.loop-i.i (omega arith) _ _ c.loop-i.invariant.graded c.in-Clash.is;
  message = c.clear-in-Clash.ensures ∙ ap (λ (m : ℕ). replicate m 0) c.loop-i.invariant.long;
}
