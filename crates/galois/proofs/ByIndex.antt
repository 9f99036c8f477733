-- The laws of lists given by index.
use mathlib.Core.Path.{◌≡◌, refl, sym, ap, ap₂, ◌∙◌}
use mathlib.Core.List.{List, ◌∷◌}
use mathlib.Core.Logic.{⊎_elim}
use Prim.Native.Nat.{ℕ, zero, suc, ◌+◌, ◌≤◌, ◌<◌, zero-le, suc-le-suc}
use native.Mathlib.Nat.{not-suc-le-zero, le_of_suc-le-suc, eq-or-lt_of_le, ne_of_lt}
use native.Mathlib.Numerals.{add-one}
use native.Mathlib.Omega.{arith}
use lib.ListN.{length, get_or, set}
use lib.Seq.{ext_get_or, get_or-set_same, get_or-set_other}
use Rattle.galois.specs.Table.{table}

pub length-table : {A : Type 0} (m : ℕ) (f : ℕ → A) → length (table m f) ≡ m
unfolding table
length-table zero f = refl
length-table (suc m) f = ap suc (length-table m (λ i. f (suc i)))

pub get_or-table : {A : Type 0} (m : ℕ) (f : ℕ → A) (i : ℕ) (d : A) → i < m → get_or (table m f) i d ≡ f i
unfolding table
get_or-table zero f i d h = absurd (not-suc-le-zero h)
get_or-table (suc m) f zero d h = refl
get_or-table (suc m) f (suc i) d h = get_or-table m (λ i. f (suc i)) i d (le_of_suc-le-suc h)

-- a list of m elements whose element i is f i is the table of f
pub is_table : {A : Type 0} (m : ℕ) (f : ℕ → A) (d : A) (l : List A) → length l ≡ m
    → ((i : ℕ) → i < m → get_or l i d ≡ f i) → l ≡ table m f
is_table m f d l n e =
    ext_get_or d l (table m f) (n ∙ sym (length-table m f))
    (λ i h. let below : i < m = rw n at h in e i below ∙ sym (get_or-table m f i d below))

pub table_equal : {A : Type 0} (m : ℕ) (f g : ℕ → A) → ((i : ℕ) → i < m → f i ≡ g i) → table m f ≡ table m g
unfolding table
table_equal zero f g e = refl
table_equal (suc m) f g e =
    ap₂ ◌∷◌ (e 0 (suc-le-suc zero-le)) (table_equal m (λ i. f (suc i)) (λ i. g (suc i)) (λ i h. e (suc i) (suc-le-suc h)))

-- a list that is filled up to j, with f j stored at j, is filled up to j + 1
pub filled_more : {A : Type 0} (f : ℕ → A) (d : A) (l : List A) (j : ℕ) (a : A) → j < length l → a ≡ f j
    → ((i : ℕ) → i < j → get_or l i d ≡ f i) → (i : ℕ) → i < j + 1 → get_or (set l j a) i d ≡ f i
filled_more f d l j a h e before i hi =
    ⊎_elim (λ same. rw same (get_or-set_same l j a d h ∙ e))
    (λ below. get_or-set_other l j i a d (ne_of_lt below) ∙ before i below)
    (eq-or-lt_of_le (le_of_suc-le-suc (rw add-one at hi)))

-- and what stands after j stays as it was
pub kept_more : {A : Type 0} (g : ℕ → A) (d : A) (l : List A) (j : ℕ) (a : A)
    → ((i : ℕ) → j ≤ i → get_or l i d ≡ g i) → (i : ℕ) → j + 1 ≤ i → get_or (set l j a) i d ≡ g i
kept_more g d l j a after i hi = get_or-set_other l j i a d (λ same. omega arith) ∙ after i (omega arith)
