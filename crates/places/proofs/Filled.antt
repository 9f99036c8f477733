-- A list of 16 equal numbers that a loop fills from the front.
use mathlib.Core.Path.{◌≡◌, refl, sym, ap, ◌∙◌}
use mathlib.Core.Bool.{cond}
use mathlib.Core.List.{List}
use mathlib.Core.Logic.{⊎_elim}
use Prim.Native.Nat.{ℕ, ◌+◌, ◌≤◌, ◌<◌}
use native.Mathlib.Omega.{arith}
use borrow.Author.Tests.{lt-ltb, le-ltb}
use lib.Dec.{ltb}
use lib.ListN.{length, get_or, set, replicate, length-set, get_or-replicate}
use lib.Seq.{get_or-set_same, get_or-set_other}
use Rattle.galois.specs.Table.{table}
use Rattle.galois.proofs.ByIndex.{length-table, get_or-table, is_table, table_equal}
use Rattle.galois.proofs.Cases.{le_or_lt}

-- f below p, and d from p on
abbrev pub up_to : ℕ → ℕ → (ℕ → ℕ) → ℕ → ℕ
up_to d p f q = cond (ltb q p) (f q) d

pub up_below : (d p : ℕ) (f : ℕ → ℕ) (q : ℕ) → q < p → up_to d p f q ≡ f q
up_below d p f q h = rw (lt-ltb q p h)

up_past : (d p : ℕ) (f : ℕ → ℕ) (q : ℕ) → p ≤ q → up_to d p f q ≡ d
up_past d p f q h = rw (le-ltb q p h)

-- nothing filled yet, where f is d below p
pub filled_none : (d p : ℕ) (f : ℕ → ℕ) → ((q : ℕ) → q < p → f q ≡ d) → replicate 16 d ≡ table 16 (up_to d p f)
filled_none d p f before =
    is_table 16 (up_to d p f) 0 (replicate 16 d) refl
    (λ q h.
    get_or-replicate 16 q d 0 h
    ∙ ⊎_elim (λ past. sym (up_past d p f q past)) (λ below. sym (up_below d p f q below ∙ before q below)) (le_or_lt p q))

-- filled up to p, where f is d from p on
pub filled_all : (d p : ℕ) (f : ℕ → ℕ) → ((q : ℕ) → p ≤ q → f q ≡ d) → table 16 (up_to d p f) ≡ table 16 f
filled_all d p f rest =
    table_equal 16 (up_to d p f) f
    (λ q h.
    ⊎_elim (λ past. up_past d p f q past ∙ sym (rest q past)) (λ below. up_below d p f q below) (le_or_lt p q))

-- nothing stored at p, where f is d
pub filled_kept : (d p : ℕ) (f : ℕ → ℕ) → f p ≡ d → table 16 (up_to d p f) ≡ table 16 (up_to d (p + 1) f)
filled_kept d p f is =
    table_equal 16 (up_to d p f) (up_to d (p + 1) f)
    (λ q h.
    ⊎_elim
    (λ from. up_past d p f q from
    ∙ ⊎_elim (λ past. sym (up_past d (p + 1) f q past))
    (λ here. sym (up_below d (p + 1) f q here ∙ ap f (omega arith) ∙ is)) (le_or_lt (p + 1) q))
    (λ below. up_below d p f q below ∙ sym (up_below d (p + 1) f q (omega arith)))
    (le_or_lt p q))

-- f p stored at p
pub filled_next : (d p : ℕ) (f : ℕ → ℕ) (l : List ℕ) (a : ℕ) → p < 16 → l ≡ table 16 (up_to d p f) → a ≡ f p
    → set l p a ≡ table 16 (up_to d (p + 1) f)
filled_next d p f l a few e is =
    is_table 16 (up_to d (p + 1) f) 0 (set l p a) (simp length-set sixteen)
    (λ q h.
    ⊎_elim
    (λ from. ⊎_elim
    (λ past. get_or-set_other l p q a 0 (λ same. omega arith) ∙ at q h ∙ up_past d p f q from ∙ sym (up_past d (p + 1) f q past))
    (λ here.
    let same : q ≡ p = omega arith in
    ap (λ (j : ℕ). get_or (set l p a) j 0) same ∙ get_or-set_same l p a 0 (omega (arith, sixteen)) ∙ is ∙ ap f (sym same)
    ∙ sym (up_below d (p + 1) f q here))
    (le_or_lt (p + 1) q))
    (λ below.
    get_or-set_other l p q a 0 (λ same. omega arith) ∙ at q h ∙ up_below d p f q below ∙ sym (up_below d (p + 1) f q (omega arith)))
    (le_or_lt p q))
  where
    sixteen : length l ≡ 16
    sixteen = ap length e ∙ length-table 16 (up_to d p f)

    at : (q : ℕ) → q < 16 → get_or l q 0 ≡ up_to d p f q
    at q h = ap (λ (l : List ℕ). get_or l q 0) e ∙ get_or-table 16 (up_to d p f) q 0 h
