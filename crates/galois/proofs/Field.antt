-- What both fields share: the laws of a field whose elements are the numbers below a bound, and what follows from them.
use mathlib.Core.Path.{◌≡◌, refl, sym, ap, ◌∙◌, subst⁻¹}
use mathlib.Core.List.{List}
use mathlib.Core.Logic.{◌≢◌}
use Prim.Native.Nat.{ℕ, zero, suc, ◌<◌}
use native.Mathlib.Nat.{le_of_lt, suc-ne-zero}
use lib.ListN.{get_or}
use Rattle.std.specs.Prelude.{Option, None, Some, MatchOption}
use Rattle.galois.specs.Reciprocal.{Reciprocal, none, element, numbered, answered, divided_by}

-- an answer is known by its number and values
pub numbered_tells : (a b : Reciprocal) → numbered a ≡ numbered b → a ≡ b
numbered_tells none none e = refl
numbered_tells none (element y) e = absurd (suc-ne-zero 0 (sym (ap (λ (n : ℕ × List ℕ). n.0) e)))
numbered_tells (element x) none e = absurd (suc-ne-zero 0 (ap (λ (n : ℕ × List ℕ). n.0) e))
numbered_tells (element x) (element y) e = ap element (ap (λ (n : ℕ × List ℕ). get_or n.1 0 0) e)

module _ (bound : ℕ) (◌+◌ ◌·◌ : ℕ → ℕ → ℕ) (reciprocal : ℕ → Reciprocal) (◌÷◌ : ℕ → ℕ → ℕ) where
  infixl 60 ◌+◌
  infixl 70 ◌·◌
  infixl 70 ◌÷◌
  pub record Field : Type 0 where
    pub one_below : 1 < bound
    pub plus_below : (x y : ℕ) → x < bound → y < bound → x + y < bound
    pub plus_comm : (x y : ℕ) → x < bound → y < bound → x + y ≡ y + x
    pub plus_assoc : (x y z : ℕ) → x < bound → y < bound → z < bound → (x + y) + z ≡ x + (y + z)
    pub zero_plus : (x : ℕ) → x < bound → 0 + x ≡ x
    pub plus_self : (x : ℕ) → x < bound → x + x ≡ 0
    pub times_below : (x y : ℕ) → x < bound → y < bound → x · y < bound
    pub times_comm : (x y : ℕ) → x < bound → y < bound → x · y ≡ y · x
    pub times_assoc : (x y z : ℕ) → x < bound → y < bound → z < bound → (x · y) · z ≡ x · (y · z)
    pub zero_times : (x : ℕ) → x < bound → 0 · x ≡ 0
    pub one_times : (x : ℕ) → x < bound → 1 · x ≡ x
    pub distributes : (x y z : ℕ) → x < bound → y < bound → z < bound → x · (y + z) ≡ x · y + x · z
    -- 0 has no reciprocal, and every other element has one
    pub none_of_zero : reciprocal 0 ≡ none
    pub has_reciprocal : (x : ℕ) → x < bound → x ≢ 0 → (y : ℕ) × (reciprocal x ≡ element y) × (y < bound) × (x · y ≡ 1)
    -- to divide is to multiply by the reciprocal, and gives 0 where there is none
    pub divides : (x y : ℕ) → x ÷ y ≡ divided_by ◌·◌ x (reciprocal y)

module _ {bound : ℕ} {◌+◌ ◌·◌ : ℕ → ℕ → ℕ} {reciprocal : ℕ → Reciprocal} {◌÷◌ : ℕ → ℕ → ℕ} (F : Field bound ◌+◌ ◌·◌ reciprocal ◌÷◌) where
  infixl 70 ◌·◌
  infixl 70 ◌÷◌
  zero_below : 0 < bound
  zero_below = le_of_lt F.one_below

  times_zero : (x : ℕ) → x < bound → x · 0 ≡ 0
  times_zero x hx = F.times_comm x 0 hx zero_below ∙ F.zero_times x hx

  times_one : (x : ℕ) → x < bound → x · 1 ≡ x
  times_one x hx = F.times_comm x 1 hx F.one_below ∙ F.one_times x hx

  -- ---- the reciprocal

  -- what brings x to 1 is unique
  unique : (x y z : ℕ) → x < bound → y < bound → z < bound → x · y ≡ 1 → x · z ≡ 1 → y ≡ z
  unique x y z hx hy hz xy xz =
      sym (F.one_times y hy) ∙ ap (λ (u : ℕ). u · y) (sym xz ∙ F.times_comm x z hx hz) ∙ F.times_assoc z x y hz hx hy
      ∙ ap (λ (u : ℕ). z · u) xy ∙ times_one z hz

  -- so it is the reciprocal
  pub only_reciprocal : (x y : ℕ) → x < bound → y < bound → x · y ≡ 1 → reciprocal x ≡ element y
  only_reciprocal zero y hx hy xy = absurd (suc-ne-zero 0 (sym xy ∙ F.zero_times y hy))
  only_reciprocal (suc x) y hx hy xy =
      let r = F.has_reciprocal (suc x) hx (suc-ne-zero x) in
      r.1 ∙ ap element (unique (suc x) r.0 y hx r.2 hy r.3 xy)

  -- ---- the quotient: by a number that has no reciprocal, and by one that has

  pub by_none : (x y : ℕ) → reciprocal y ≡ none → x ÷ y ≡ 0
  unfolding divided_by
  by_none x y e = F.divides x y ∙ ap (divided_by ◌·◌ x) e

  pub by_element : (x y r : ℕ) → reciprocal y ≡ element r → x ÷ y ≡ x · r
  unfolding divided_by
  by_element x y r e = F.divides x y ∙ ap (divided_by ◌·◌ x) e

  -- by the answer of code: what holds of the result where there is none makes it 0, and what holds where there is one makes it the product
  pub by_answer : {A : Type 0} (number : A → ℕ) (answer : Option A) (x y q : ℕ) (Zero : Type 0) (Product : A → Type 0)
      → answered number answer ≡ reciprocal y → MatchOption answer Zero Product
      → (Zero → q ≡ 0) → ((r : A) → Product r → q ≡ x · number r) → q ≡ x ÷ y
  by_answer number None x y q Zero Product e is to_zero to_product = to_zero is ∙ sym (by_none x y (sym e))
  by_answer number (Some r) x y q Zero Product e is to_zero to_product = to_product r is ∙ sym (by_element x y (number r) (sym e))

  -- it is an element
  pub quotient_below : (x y : ℕ) → x < bound → y < bound → x ÷ y < bound
  quotient_below x zero hx hy = subst⁻¹ (λ (q : ℕ). q < bound) (by_none x 0 F.none_of_zero) zero_below
  quotient_below x (suc y) hx hy =
      let r = F.has_reciprocal (suc y) hy (suc-ne-zero y) in
      subst⁻¹ (λ (q : ℕ). q < bound) (by_element x (suc y) r.0 r.1) (F.times_below x r.0 hx r.2)

  -- 1 divided by a number that is not 0 is its reciprocal
  one_quotient : (y : ℕ) (hy : y < bound) (ne : y ≢ 0) → 1 ÷ y ≡ (F.has_reciprocal y hy ne).0
  one_quotient y hy ne =
      let r = F.has_reciprocal y hy ne in
      by_element 1 y r.0 r.1 ∙ F.one_times r.0 r.2

  -- to divide is to multiply by 1 divided
  pub quotient_times : (x y : ℕ) → x < bound → y < bound → x ÷ y ≡ x · (1 ÷ y)
  quotient_times x zero hx hy =
      let none-for : (z : ℕ) → z ÷ 0 ≡ 0 = λ z. by_none z 0 F.none_of_zero in
      none-for x ∙ sym (ap (λ (u : ℕ). x · u) (none-for 1) ∙ times_zero x hx)
  quotient_times x (suc y) hx hy =
      let r = F.has_reciprocal (suc y) hy (suc-ne-zero y) in
      by_element x (suc y) r.0 r.1 ∙ ap (λ (u : ℕ). x · u) (sym (one_quotient (suc y) hy (suc-ne-zero y)))

  -- which brings a number that is not 0 to 1
  pub times_quotient : (x : ℕ) → x < bound → x ≢ 0 → x · (1 ÷ x) ≡ 1
  times_quotient x hx ne = ap (λ (u : ℕ). x · u) (one_quotient x hx ne) ∙ (F.has_reciprocal x hx ne).3

  -- a factor that is not 0 can be divided out
  pub divide_out : (x y : ℕ) → x < bound → y < bound → x ≢ 0 → (1 ÷ x) · (x · y) ≡ y
  divide_out x y hx hy ne =
      let hr : 1 ÷ x < bound = quotient_below 1 x F.one_below hx in
      sym (F.times_assoc (1 ÷ x) x y hr hx hy)
      ∙ ap (λ (u : ℕ). u · y) (F.times_comm (1 ÷ x) x hr hx ∙ times_quotient x hx ne) ∙ F.one_times y hy

  -- no zero divisors
  pub no_zero_divisors : (x y : ℕ) → x < bound → y < bound → x ≢ 0 → x · y ≡ 0 → y ≡ 0
  no_zero_divisors x y hx hy ne e =
      let hr : 1 ÷ x < bound = quotient_below 1 x F.one_below hx in
      sym (divide_out x y hx hy ne) ∙ ap (λ (u : ℕ). (1 ÷ x) · u) e ∙ times_zero (1 ÷ x) hr

  -- 0 divided by anything is 0
  pub zero_quotient : (y : ℕ) → y < bound → 0 ÷ y ≡ 0
  zero_quotient y hy = quotient_times 0 y zero_below hy ∙ F.zero_times (1 ÷ y) (quotient_below 1 y F.one_below hy)

  -- a number that is not 0, divided by itself, is 1
  pub quotient_self : (x : ℕ) → x < bound → x ≢ 0 → x ÷ x ≡ 1
  quotient_self x hx ne = quotient_times x x hx hx ∙ times_quotient x hx ne

  -- a number divided by 1 stays as it is
  pub quotient_one : (x : ℕ) → x < bound → x ÷ 1 ≡ x
  quotient_one x hx =
      by_element x 1 1 (only_reciprocal 1 1 F.one_below F.one_below (F.one_times 1 F.one_below))
      ∙ times_one x hx
