-- The loop fills the places, the flags and the roles from the front.
use borrow.Author.Tests.{lt-ltb, le-ltb, eq-eqb, ne_eqb}
use mathlib.Core.Path.{◌≡◌, sym, ap, ◌∙◌}
use mathlib.Core.Bool.{Bool, cond, and-false}
use mathlib.Core.List.{List}
use mathlib.Core.Logic.{⊎_elim}
use native.Mathlib.Nat.{zero-mul, suc-mul, mul-le-mul}
use native.Mathlib.Numerals.{add-one}
use native.Mathlib.Omega.{arith}
use Prim.Native.Nat.{ℕ, ◌+◌, ◌<◌, ◌≤◌}
use lib.Dec.{ltb}
use lib.ListN.{get_or}
use Rattle.galois.specs.Table.{table}
use Rattle.galois.proofs.Cases.{le_or_lt}
use Rattle.code.specs.Settings.{k_of, n_of}
use Rattle.code.proofs.Shape.{shape}
use Rattle.elimination.proofs.Roles.{first_flags}
use Rattle.protocol.specs.Lengths.{row_len, receiver_len}
use Rattle.places.specs.declared.starts.Located.{Located}
use Rattle.places.specs.Places.{places_to, places_of, known_flag, flags_of, parity_flags}
use Rattle.places.proofs.Filled.{up_to, filled_none, filled_kept, filled_next, filled_all}
use Rattle.places.proofs.Places.{place_of, row_ends, row_next, first_inside, row_at_few}
use Rattle.places.proofs.Flags.{parity_flag, first_role, flag_at}
use Rattle.places.proofs.starts.locate.Goals as goal
use Rattle.places.proofs.starts.locate.Goals.{then-is_known+then-p-sources, then-is_known+else-p-sources, else-is_known}

pub loop-p-init : goal.loop-p-init
loop-p-init c =
    let s = c.args.s in
    let read : List ℕ = flags_of s c.args.rows.now c.args.end c.args.t c.args.i in record {
      shaped = shape s c.requires.0.settings;
      starts = c.first_start-start.ensures;
      offsets = omega (arith, zero-mul s.lanes);
      placed = filled_none 0 0 (place_of s c.args.t c.args.i) (λ q none. omega arith);
      flagged = filled_none 0 0 (parity_flag s read) (λ q none. omega arith);
      roled = filled_none 16 0 (first_role s read) (λ q none. omega arith);
    }

pub overflow_add-located : goal.overflow_add-located
overflow_add-located c =
    let few : c.loop-p.p ≤ 16 = omega (arith, c.loop-p.invariant.shaped) in
    omega (
      arith,
      c.loop-p.invariant,
      row_at_few c.args.s c.loop-p.invariant.shaped c.args.t c.args.i c.loop-p.p,
      mul-le-mul few c.loop-p.invariant.shaped.lanes_few,
    )

pub is_known-requires : goal.is_known-requires
is_known-requires c =
    omega (
      arith,
      c.loop-p.invariant.starts,
      c.requires.0.rows_exact,
      first_inside c.args.s c.loop-p.invariant.shaped c.args.t c.args.i c.loop-p.p,
    )

pub next_start-start-requires : goal.next_start-start-requires
next_start-start-requires c = (
  c.requires.0.settings,
  omega (arith, c.loop-p.invariant.starts, row_ends c.args.s c.loop-p.invariant.shaped c.args.t c.args.i c.loop-p.p),
)

pub loop-p-preserved : goal.loop-p-preserved
loop-p-preserved c =
    let s = c.args.s in
    let p : ℕ = c.loop-p.p in
    let h = c.loop-p.invariant.shaped in
    let few : p < 16 = omega (arith, h) in
    let read : List ℕ = flags_of s c.args.rows.now c.args.end c.args.t c.args.i in
    let is : cond c.is_known.result 1 0 ≡ get_or read p 0 =
    c.is_known.ensures ∙ ap (known_flag c.args.rows.now c.args.end (c.args.t + p)) c.loop-p.invariant.starts
    ∙ sym (flag_at s h c.args.t c.args.i p (omega arith) c.args.rows.now c.args.end) in
    let placed =
    filled_next 0 p (place_of s c.args.t c.args.i) c.loop-p.located.places (c.loop-p.start + c.loop-p.offset) few
    c.loop-p.invariant.placed (omega (arith, c.loop-p.invariant.starts, c.loop-p.invariant.offsets)) in
    let next : ℕ → ℕ = λ row. cond (ltb (row + row_len s) (receiver_len s)) (row + row_len s) 0 in
    record {
      shaped = h;
      starts = c.next_start-start.ensures ∙ ap next c.loop-p.invariant.starts ∙ row_next s h c.args.t c.args.i p c.requires.1;
      offsets = rw (add-one p) (omega (arith, c.loop-p.invariant.offsets, suc-mul p s.lanes));
      placed = elim c.if-is_known.branch [
        | then-is_known+then-p-sources w ↦ ap (λ (x : Located). x.places) w.located-is ∙ placed
        | then-is_known+else-p-sources w ↦ ap (λ (x : Located). x.places) w.located-is ∙ placed
        | else-is_known w ↦ ap (λ (x : Located). x.places) w.located-is ∙ placed
      ];
      flagged = elim c.if-is_known.branch [
        | then-is_known+then-p-sources w ↦ ap (λ (x : Located). x.flags) w.located-is ∙ c.loop-p.invariant.flagged
            ∙ filled_kept 0 p (parity_flag s read) (rw (lt-ltb p (k_of s) (omega arith)))
        | then-is_known+else-p-sources w ↦ ap (λ (x : Located). x.flags) w.located-is
            ∙ filled_next 0 p (parity_flag s read) c.loop-p.located.flags 1 few c.loop-p.invariant.flagged
            (rw (le-ltb p (k_of s) (omega arith)) (sym (ap (λ (b : Bool). cond b 1 0) w.if-is_known.true) ∙ is))
        | else-is_known w ↦ ap (λ (x : Located). x.flags) w.located-is ∙ c.loop-p.invariant.flagged
            ∙ filled_kept 0 p (parity_flag s read)
            (⊎_elim
            (λ past. rw (le-ltb p (k_of s) past) (sym is ∙ ap (λ (b : Bool). cond b 1 0) w.if-is_known.false))
            (λ source. rw (lt-ltb p (k_of s) source)) (le_or_lt (k_of s) p))
      ];
      roled = elim c.if-is_known.branch [
        | then-is_known+then-p-sources w ↦ ap (λ (x : Located). x.roles) w.located-is
            ∙ filled_next 16 p (first_role s read) c.loop-p.located.roles p few c.loop-p.invariant.roled
            (let one : get_or read p 0 ≡ 1 = sym is ∙ ap (λ (b : Bool). cond b 1 0) w.if-is_known.true in
            rw (lt-ltb p (k_of s) (omega arith), eq-eqb (get_or read p 0) 1 one))
        | then-is_known+else-p-sources w ↦ ap (λ (x : Located). x.roles) w.located-is ∙ c.loop-p.invariant.roled
            ∙ filled_kept 16 p (first_role s read) (rw (le-ltb p (k_of s) (omega arith)))
        | else-is_known w ↦ ap (λ (x : Located). x.roles) w.located-is ∙ c.loop-p.invariant.roled
            ∙ filled_kept 16 p (first_role s read)
            (let nought : get_or read p 0 ≡ 0 = sym is ∙ ap (λ (b : Bool). cond b 1 0) w.if-is_known.false in
            rw (ne_eqb (get_or read p 0) 1 (λ one. omega arith), and-false (ltb p (k_of s))))
      ];
    }

pub returns : goal.returns
unfolding places_to places_of parity_flags
returns c =
    let s = c.args.s in
    let read : List ℕ = flags_of s c.args.rows.now c.args.end c.args.t c.args.i in
    let all : c.loop-p.p ≡ n_of s = omega arith in
    let h = c.loop-p.invariant.shaped in record {
      places = c.loop-p.invariant.placed ∙ ap (λ (m : ℕ). table 16 (up_to 0 m (place_of s c.args.t c.args.i))) all;
      flags = c.loop-p.invariant.flagged ∙ ap (λ (m : ℕ). table 16 (up_to 0 m (parity_flag s read))) all;
      roles = c.loop-p.invariant.roled
          ∙ filled_all 16 c.loop-p.p (first_role s read) (λ q past. rw (le-ltb q (k_of s) (omega arith)))
          ∙ first_flags s h read;
    }
