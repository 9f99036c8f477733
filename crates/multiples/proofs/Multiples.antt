-- The multiples that the quarters of a row are made of: how each byte follows from others, and how the 16 rows are filled with them.
use mathlib.Core.Path.{◌≡◌, refl, sym, ap, ap₂, ◌∙◌, subst, subst⁻¹}
use mathlib.Core.Bool.{Bool, true, false}
use mathlib.Core.List.{List, []}
use mathlib.Core.Logic.{◌≢◌, ⊎_elim}
use Prim.Native.Nat.{ℕ, suc, ◌+◌, ◌*◌, ◌/◌, ◌%◌, ◌^◌, ◌<◌, ◌≤◌}
use native.Mathlib.Nat.{not-suc-le-zero, le_of_suc-le-suc, eq-or-lt_of_le, ne_of_lt, zero-mul}
use native.Mathlib.Numerals.{add-one}
use native.Mathlib.Omega.{arith}
use lib.Dec.{eqb}
use lib.ListN.{length, get_or, set, length-set, get_or-eq_default}
use lib.Seq.{get_or-set_same, get_or-set_other}
use borrow.Author.Tests.{eqb-true, eqb-false}
use Rattle.galois.specs.Byte.{◌⊕◌, ◌⊗◌}
use Rattle.galois.specs.Table.{table}
use Rattle.galois.proofs.Arithmetic.{arithmetic}
use Rattle.galois.proofs.ByIndex.{is_table, get_or-table, length-table}
use Rattle.galois.proofs.ByteProduct.{distributes_left, times_assoc, zero_times}
use Rattle.galois.proofs.Cases.{equal, le_or_lt}
use Rattle.multiples.specs.Quarters.{quarters_of}
use Rattle.multiples.proofs.Digits.{weight}

-- ---- one byte

-- z times a byte is its double where no half of it leaves its four bits: a byte below 8
pub twice_low : (w : ℕ) → w < 8 → 2 ⊗ w ≡ w * 2
unfolding arithmetic
twice_low = equal 8 (λ w. 2 ⊗ w) (λ w. w * 2) tt

-- and 16 times one
pub twice_high : (w : ℕ) → w < 8 → 2 ⊗ (w * 16) ≡ w * 32
unfolding arithmetic
twice_high = equal 8 (λ w. 2 ⊗ (w * 16)) (λ w. w * 32) tt

-- z times the multiple by w is the multiple by z times w
pub next_multiple : (w v x y z : ℕ) → 2 ⊗ w ≡ v → y ≡ w ⊗ x → z ≡ 2 ⊗ y → z ≡ v ⊗ x
next_multiple w v x y z t e d = d ∙ ap (λ (s : ℕ). 2 ⊗ s) e ∙ sym (times_assoc 2 w x) ∙ ap (λ (s : ℕ). s ⊗ x) t

-- the sum of two multiples is the multiple by the sum
pub both_multiples : (a b x y z : ℕ) → y ≡ a ⊗ x → z ≡ b ⊗ x → y ⊕ z ≡ (a ⊕ b) ⊗ x
both_multiples a b x y z e f = ap₂ ◌⊕◌ e f ∙ sym (distributes_left x a b)

-- ---- the 16 rows

-- out with v at place j of row e
abbrev pub put : List (List ℕ) → ℕ → ℕ → ℕ → List (List ℕ)
put out e j v = set out e (set (get_or out e []) j v)

-- the quarters of a row, filled up to place j, and at place j up to row m
pub record Filled (row : List ℕ) (j m : ℕ) (out : List (List ℕ)) : Type 0 where
  pub rows : length out ≡ 16
  pub wide : (e : ℕ) → e < 16 → length (get_or out e []) ≡ 16
  pub places : (e i : ℕ) → e < 16 → i < j → get_or (get_or out e []) i 0 ≡ weight e ⊗ get_or row i 0
  pub column : (e : ℕ) → e < m → get_or (get_or out e []) j 0 ≡ weight e ⊗ get_or row j 0
  pub zeros : (t i : ℕ) → t < 4 → get_or (get_or out (t * 4) []) i 0 ≡ 0

-- row e after row m was replaced: the new row where e is m, else the old one
replaced_row : (P : List ℕ → Type 0) (out : List (List ℕ)) (m e : ℕ) (l : List ℕ) → m < length out
    → (e ≡ m → P l) → (e ≢ m → P (get_or out e [])) → P (get_or (set out m l) e [])
replaced_row P out m e l h new old = go (eqb e m) refl
  where
    go : (t : Bool) → eqb e m ≡ t → P (get_or (set out m l) e [])
    go true t =
        subst⁻¹ P (ap (λ (k : ℕ). get_or (set out m l) k []) (eqb-true e m t) ∙ get_or-set_same out m l [] h) (new (eqb-true e m t))
    go false t = subst⁻¹ P (get_or-set_other out m e l [] (eqb-false e m t)) (old (eqb-false e m t))

-- a row of zeros
blank : List ℕ
blank = table 16 (λ i. 0)

-- it is 0 at every place, and past its end
blank_at : (i : ℕ) → get_or blank i 0 ≡ 0
unfolding blank
blank_at i =
    ⊎_elim (λ past. get_or-eq_default blank 0 (omega (arith, length-table {A = ℕ} 16 (λ i. 0))))
    (λ inside. get_or-table {A = ℕ} 16 (λ i. 0) i 0 inside) (le_or_lt 16 i)

-- nothing is filled yet
pub none_filled : (row : List ℕ) → Filled row 0 0 (table 16 (λ e. table 16 (λ i. 0)))
unfolding blank
none_filled row =
    record {
      rows = length-table 16 (λ e. blank);
      wide = λ e h. ap length (get_or-table 16 (λ e. blank) e [] h) ∙ length-table {A = ℕ} 16 (λ i. 0);
      places = λ e i h l. absurd (not-suc-le-zero l);
      column = λ e l. absurd (not-suc-le-zero l);
      zeros = λ t i h. ap (λ (l : List ℕ). get_or l i 0) (get_or-table 16 (λ e. blank) (t * 4) [] (omega arith)) ∙ blank_at i;
    }

module _ (row : List ℕ) (j m : ℕ) (out : List (List ℕ)) (hj : j < 16) (hm : m < 16) (f : Filled row j m out) where
  -- row m is filled at place j
  pub fill : (v : ℕ) → 0 < m % 4 → v ≡ weight m ⊗ get_or row j 0 → Filled row j (suc m) (put out m j v)
  fill v h e =
      let l = set (get_or out m []) j v in
      let inside : m < length out = omega (arith, f.rows) in
      record {
        rows = length-set out m l ∙ f.rows;
        wide =
            λ e he. replaced_row (λ r. length r ≡ 16) out m e l inside (λ _. length-set (get_or out m []) j v ∙ f.wide m hm)
            (λ _. f.wide e he);
        places =
            λ k i hk hi. replaced_row (λ r. get_or r i 0 ≡ weight k ⊗ get_or row i 0) out m k l inside
            (λ same. get_or-set_other (get_or out m []) j i v 0 (ne_of_lt hi)
            ∙ subst (λ (n : ℕ). get_or (get_or out n []) i 0 ≡ weight k ⊗ get_or row i 0) same (f.places k i hk hi))
            (λ _. f.places k i hk hi);
        column =
            λ k hk. replaced_row (λ r. get_or r j 0 ≡ weight k ⊗ get_or row j 0) out m k l inside
            (λ same. get_or-set_same (get_or out m []) j v 0 (omega (arith, f.wide m hm)) ∙ e
            ∙ ap (λ (n : ℕ). weight n ⊗ get_or row j 0) (sym same))
            (λ other. f.column k (omega arith));
        zeros = λ t i ht. replaced_row (λ r. get_or r i 0 ≡ 0) out m (t * 4) l inside (λ same. omega arith) (λ _. f.zeros t i ht);
      }

  -- row m is 0 at every place
  pub leave : m % 4 ≡ 0 → Filled row j (suc m) out
  unfolding weight
  leave h =
      record {
        rows = f.rows;
        wide = f.wide;
        places = f.places;
        column =
            λ k hk. ⊎_elim
            (λ same. subst⁻¹ (λ (n : ℕ). get_or (get_or out n []) j 0 ≡ weight n ⊗ get_or row j 0) same
            (ap (λ (n : ℕ). get_or (get_or out n []) j 0) (omega arith)
            ∙ f.zeros (m / 4) j (omega arith)
            ∙ sym (ap (λ (w : ℕ). w ⊗ get_or row j 0) (ap (λ (d : ℕ). d * 4 ^ (m / 4)) h ∙ zero-mul (4 ^ (m / 4)))
            ∙ zero_times (get_or row j 0))))
            (λ below. f.column k below)
            (eq-or-lt_of_le (le_of_suc-le-suc hk));
        zeros = f.zeros;
      }

-- all rows are filled at place j
pub next_place : (row : List ℕ) (j : ℕ) (out : List (List ℕ)) → Filled row j 16 out → Filled row (j + 1) 0 out
next_place row j out f =
    record {
      rows = f.rows;
      wide = f.wide;
      places =
          λ e i he hi. ⊎_elim
          (λ same. subst⁻¹ (λ (k : ℕ). get_or (get_or out e []) k 0 ≡ weight e ⊗ get_or row k 0) same (f.column e he))
          (λ below. f.places e i he below)
          (eq-or-lt_of_le (le_of_suc-le-suc (rw add-one at hi)));
      column = λ e l. absurd (not-suc-le-zero l);
      zeros = f.zeros;
    }

-- rows that are filled at all places are the quarters
pub all-filled : (row : List ℕ) (j : ℕ) (out : List (List ℕ)) → 16 ≤ j → Filled row j 0 out → out ≡ quarters_of row
unfolding quarters_of weight
all-filled row j out h f =
    is_table 16 (λ e. table 16 (λ i. weight e ⊗ get_or row i 0)) [] out f.rows
    (λ e he. is_table 16 (λ i. weight e ⊗ get_or row i 0) 0 (get_or out e []) (f.wide e he) (λ i hi. f.places e i he (omega arith)))
