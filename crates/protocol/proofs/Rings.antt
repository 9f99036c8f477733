-- A ring of R rows of one size: slot t sits in row t mod R. One lemma serves both ends, for any first contents.
use mathlib.Core.Path.{◌≡◌, refl, sym, ap, ap₂, ◌∙◌, subst⁻¹}
use mathlib.Core.Bool.{cond}
use mathlib.Core.Logic.{◌≢◌, ⊎_elim}
use mathlib.Core.List.{List, ◌++◌}
use Prim.Native.Nat.{ℕ, zero, suc, ◌+◌, ◌-◌, ◌*◌, ◌/◌, ◌%◌, ◌≤◌, ◌<◌}
use native.Mathlib.Nat.{zero-mul, suc-mul, add-mod_right, add-sub_cancel, mod-lt, div-add-mod', mul-le-mul_right, not-suc-le-zero}
use native.Mathlib.Nat.{le_of_suc-le-suc, eq-or-lt_of_le}
use native.Mathlib.Omega.{arith}
use lib.Dec.{ltb}
use lib.ListN.{length, get_or, take, drop, length-append, length-drop, get_or-append}
use lib.Seq.{length-take-le, get_or-take, get_or-drop, get_or-append-add}
use borrow.Author.Tests.{lt-ltb, le-ltb}
use Rattle.galois.proofs.Cases.{le_or_lt}
use Rattle.protocol.specs.Rows.{put_row, joined}

-- row q lies before row r
before : (size q r j : ℕ) → q < r → j < size → q * size + j < r * size
before size q r j h hj = omega (arith, mul-le-mul_right size h, suc-mul q size)

module _ (R size : ℕ) (rows row : List ℕ) (full : length rows ≡ R * size) (fits : length row ≡ size) (r : ℕ) (hr : r < R) where
  ends : r * size + size ≤ length rows
  ends = omega (arith, mul-le-mul_right size hr, suc-mul r size)

  head_length : length (take (r * size) rows) ≡ r * size
  head_length = length-take-le (r * size) rows (omega (arith, ends))

  pub length-put_row : length (put_row size r row rows) ≡ R * size
  unfolding put_row
  length-put_row =
      length-append (take (r * size) rows ++ row) (drop (r * size + size) rows)
      ∙ ap₂ ◌+◌ (length-append (take (r * size) rows) row ∙ ap₂ ◌+◌ head_length fits) (length-drop (r * size + size) rows)
      ∙ (omega (arith, ends, full))

  -- the row that was written
  pub put_row_same : (j : ℕ) → j < size → get_or (put_row size r row rows) (r * size + j) 0 ≡ get_or row j 0
  unfolding put_row
  put_row_same j hj =
      get_or-append (take (r * size) rows ++ row) (drop (r * size + size) rows) 0 (r * size + j)
      (subst⁻¹ (λ (m : ℕ). r * size + j < m) (length-append (take (r * size) rows) row ∙ ap₂ ◌+◌ head_length fits) (omega arith))
      ∙ ap (λ (m : ℕ). get_or (take (r * size) rows ++ row) (m + j) 0) (sym head_length)
      ∙ get_or-append-add (take (r * size) rows) row j 0

  -- the others are as they were: those before it
  earlier : (q j : ℕ) → q < r → j < size → get_or (put_row size r row rows) (q * size + j) 0 ≡ get_or rows (q * size + j) 0
  unfolding put_row
  earlier q j hq hj =
      let at : q * size + j < r * size = before size q r j hq hj in
      get_or-append (take (r * size) rows ++ row) (drop (r * size + size) rows) 0 (q * size + j)
      (subst⁻¹ (λ (m : ℕ). q * size + j < m) (length-append (take (r * size) rows) row ∙ ap₂ ◌+◌ head_length fits) (omega arith))
      ∙ get_or-append (take (r * size) rows) row 0 (q * size + j) (subst⁻¹ (λ (m : ℕ). q * size + j < m) head_length at)
      ∙ get_or-take (r * size) rows (q * size + j) 0 at

  -- and those after it
  later : (q j : ℕ) → r < q → j < size → get_or (put_row size r row rows) (q * size + j) 0 ≡ get_or rows (q * size + j) 0
  unfolding put_row
  later q j hq hj =
      let past : ℕ = r * size + size in
      let start : past ≤ q * size = omega (arith, mul-le-mul_right size hq, suc-mul r size) in
      let m : ℕ = q * size + j - past in
      let place : q * size + j ≡ past + m = omega arith in
      let head : length (take (r * size) rows ++ row) ≡ past = length-append (take (r * size) rows) row ∙ ap₂ ◌+◌ head_length fits in
      ap (λ (i : ℕ). get_or (take (r * size) rows ++ row ++ drop past rows) i 0) (place ∙ ap (λ (i : ℕ). i + m) (sym head))
      ∙ get_or-append-add (take (r * size) rows ++ row) (drop past rows) m 0 ∙ get_or-drop past rows m 0
      ∙ ap (λ (i : ℕ). get_or rows i 0) (sym place)

  pub put_row_other : (q j : ℕ) → q ≢ r → j < size → get_or (put_row size r row rows) (q * size + j) 0 ≡ get_or rows (q * size + j) 0
  put_row_other q j ne hj =
      ⊎_elim (λ le. ⊎_elim (λ same. absurd (ne same)) (λ less. earlier q j less hj) (eq-or-lt_of_le le))
      (λ more. later q j more hj) (le_or_lt q r)

-- ---- rows given one by one

pub length-joined : (size m : ℕ) (f : ℕ → List ℕ) → ((r : ℕ) → length (f r) ≡ size) → length (joined m f) ≡ m * size
unfolding joined
length-joined size zero f h = sym (zero-mul size)
length-joined size (suc m) f h =
    length-append (f 0) (joined m (λ r. f (suc r))) ∙ ap₂ ◌+◌ (h 0) (length-joined size m (λ r. f (suc r)) (λ r. h (suc r)))
    ∙ (omega (arith, suc-mul m size))

pub get_or-joined : (size m : ℕ) (f : ℕ → List ℕ) → ((r : ℕ) → length (f r) ≡ size) → (r j : ℕ) → r < m → j < size
    → get_or (joined m f) (r * size + j) 0 ≡ get_or (f r) j 0
unfolding joined
get_or-joined size zero f h r j hr hj = absurd (not-suc-le-zero hr)
get_or-joined size (suc m) f h zero j hr hj =
    ap (λ (i : ℕ). get_or (f 0 ++ joined m (λ r. f (suc r))) i 0) (omega (arith, zero-mul size))
    ∙ get_or-append (f 0) (joined m (λ r. f (suc r))) 0 j (omega (arith, h 0))
get_or-joined size (suc m) f h (suc r) j hr hj =
    ap (λ (i : ℕ). get_or (f 0 ++ joined m (λ r. f (suc r))) i 0) (omega (arith, suc-mul r size, h 0))
    ∙ get_or-append-add (f 0) (joined m (λ r. f (suc r))) (r * size + j) 0
    ∙ get_or-joined size m (λ r. f (suc r)) (λ r. h (suc r)) r j (le_of_suc-le-suc hr) hj

-- the same rows
pub joined_same : (m : ℕ) (f g : ℕ → List ℕ) → ((r : ℕ) → r < m → f r ≡ g r) → joined m f ≡ joined m g
unfolding joined
joined_same zero f g h = refl
joined_same (suc m) f g h =
    ap₂ ◌++◌ (h 0 (omega arith)) (joined_same m (λ r. f (suc r)) (λ r. g (suc r)) (λ r hr. h (suc r) (omega arith)))

-- ---- the ring

-- two numbers less than R apart have different remainders
apart : (R x y : ℕ) → x < y → y < x + R → y % R ≢ x % R
apart R x y h near same =
    let ex : x / R * R + x % R ≡ x = div-add-mod' x R in
    let ey : y / R * R + y % R ≡ y = div-add-mod' y R in
    ⊎_elim (λ le. omega (arith, mul-le-mul_right R le)) (λ more. omega (arith, mul-le-mul_right R more, suc-mul (x / R) R))
    (le_or_lt (y / R) (x / R))

-- the rows of the slots, counted from R slots before slot 0: those that `first` says before slot d, and then each slot's own
unfoldable pub since : ℕ → ℕ → (ℕ → List ℕ) → (ℕ → List ℕ) → ℕ → List ℕ
since R d first own σ = cond (ltb σ (d + R)) (first σ) (own (σ - R))

pub since_first : (R d : ℕ) (first own : ℕ → List ℕ) (σ : ℕ) → σ < d + R → since R d first own σ ≡ first σ
unfolding since
since_first R d first own σ h = rw (lt-ltb σ (d + R) h)

pub since_slot : (R d : ℕ) (first own : ℕ → List ℕ) (t : ℕ) → d ≤ t → since R d first own (t + R) ≡ own t
unfolding since
since_slot R d first own t h = rw (le-ltb (t + R) (d + R) (omega arith), add-sub_cancel t R)

-- row σ mod R holds the row that f says, for the R slots before due; f counts from R slots before slot 0
abbrev pub Ring : ℕ → ℕ → List ℕ → ℕ → (ℕ → List ℕ) → Type 0
Ring R size rows due f = (σ j : ℕ) → due ≤ σ → σ < due + R → j < size → get_or rows (σ % R * size + j) 0 ≡ get_or (f σ) j 0

-- rows given one by one, at any first slot
pub ring_start : (R size : ℕ) (row : ℕ → List ℕ) (due : ℕ) (f : ℕ → List ℕ) → ((r : ℕ) → length (row r) ≡ size)
    → ((σ : ℕ) → due ≤ σ → σ < due + R → row (σ % R) ≡ f σ) → Ring R size (joined R row) due f
ring_start R size row due f sized same σ j low high hj =
    get_or-joined size R row sized (σ % R) j (mod-lt σ (omega arith)) hj ∙ ap (λ (l : List ℕ). get_or l j 0) (same σ low high)

-- and one slot later, once row due mod R is written over
pub ring_step : (R size : ℕ) (rows row : List ℕ) (due : ℕ) (f : ℕ → List ℕ) → 0 < R → length rows ≡ R * size → length row ≡ size
    → row ≡ f (due + R) → Ring R size rows due f → Ring R size (put_row size (due % R) row rows) (due + 1) f
ring_step R size rows row due f pos full fits new ring σ j low high hj =
    ⊎_elim
    (λ more.
    let newest : σ ≡ due + R = omega arith in
    rw newest
    (ap (λ (r : ℕ). get_or (put_row size (due % R) row rows) (r * size + j) 0) (add-mod_right due R)
    ∙ put_row_same R size rows row full fits (due % R) (mod-lt due pos) j hj ∙ ap (λ (l : List ℕ). get_or l j 0) new))
    (λ older.
    put_row_other R size rows row full fits (due % R) (mod-lt due pos) (σ % R) j (apart R due σ (omega arith) older) hj
    ∙ ring σ j (omega arith) older hj)
    (le_or_lt (due + R) σ)
