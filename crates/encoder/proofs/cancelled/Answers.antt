-- The loop adds one multiple a turn: before m it has cancelled the source symbols i + 1 to m - 1.
use borrow.Author.Rules.{rules}
use mathlib.Core.Path.{◌≡◌, sym, ap, ◌∙◌}
use mathlib.Core.List.{[], List}
use native.Mathlib.Omega.{arith}
use Prim.Native.Nat.{ℕ, suc, ◌+◌, ◌-◌, ◌≤◌}
use lib.ListN.{length, get_or}
use Rattle.galois.specs.Byte.{◌⊕◌, ◌⊗◌}
use Rattle.galois.specs.Sum.{sum}
use Rattle.galois.proofs.Xor.{plus_assoc, plus_zero}
use Rattle.galois.specs.Table.{table}
use Rattle.galois.proofs.ByIndex.{is_table, get_or-table, table_equal}
use Rattle.encoder.proofs.cancelled.Invariants.{reached}
use Rattle.encoder.proofs.cancelled.Goals as goal

reached_none : (row : List ℕ) (done : List (List ℕ)) (i p : ℕ) → get_or row p 0 ≡ reached row done i (i + 1) p
unfolding sum
reached_none row done i p =
    let none : i + 1 - (i + 1) ≡ 0 = omega arith in
    rw none (sym (plus_zero (get_or row p 0)))

reached_more : (row : List ℕ) (done : List (List ℕ)) (i m p : ℕ) → i + 1 ≤ m
    → reached row done i m p ⊕ get_or row m 0 ⊗ get_or (get_or done m []) p 0 ≡ reached row done i (m + 1) p
unfolding sum
reached_more row done i m p h =
    let term : ℕ → ℕ = λ q. get_or row q 0 ⊗ get_or (get_or done q []) p 0 in
    let last : i + 1 + (m - (i + 1)) ≡ m = omega arith in
    let count : m + 1 - (i + 1) ≡ suc (m - (i + 1)) = omega arith in
    rw count
    (plus_assoc (get_or row p 0) (sum (m - (i + 1)) (λ e. term (i + 1 + e))) (term m)
    ∙ ap (λ (x : ℕ). get_or row p 0 ⊕ (sum (m - (i + 1)) (λ e. term (i + 1 + e)) ⊕ x)) (ap term (sym last)))

pub loop-m-init : goal.loop-m-init
loop-m-init c =
    let sixteen : length c.args.row ≡ 16 = search rules in
    is_table 16 (reached c.args.row c.args.done.now c.args.i (c.args.i + 1)) 0 c.args.row sixteen
    (λ p h. reached_none c.args.row c.args.done.now c.args.i p)

pub loop-m-preserved : goal.loop-m-preserved
loop-m-preserved c =
    let m : ℕ = c.loop-m.m in
    let done : List (List ℕ) = c.args.done.now in
    let f : ℕ → ℕ → ℕ = reached c.args.row done c.args.i in
    let more : ℕ → ℕ = λ p. get_or c.args.row m 0 ⊗ get_or (get_or done m []) p 0 in
    c.plus_multiple-sum.ensures
    ∙ table_equal 16 (λ p. get_or c.loop-m.out p 0 ⊕ more p) (f (m + 1))
    (λ p h.
    ap (λ (x : ℕ). x ⊕ more p) (ap (λ (l : List ℕ). get_or l p 0) c.loop-m.invariant ∙ get_or-table 16 (f m) p 0 h)
    ∙ reached_more c.args.row done c.args.i m p (omega arith))

pub returns : goal.returns
returns c =
    let all : c.loop-m.m ≡ c.args.end = omega arith in
    c.loop-m.invariant ∙ ap (λ (m : ℕ). table 16 (reached c.args.row c.args.done.now c.args.i m)) all
