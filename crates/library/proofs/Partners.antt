-- Of two lists that are alike place by place, an entry of one has its partner in the other.
use mathlib.Core.Path.{refl, subst⁻¹}
use mathlib.Core.Logic.{⊎_elim}
use mathlib.Core.List.Memᴰ
use mathlib.Core.List.{List, Memᴰ, Forall₂}

module _ {A B : Type 0} {R : A → B → Type 0} where
  pub second : {a : A} {xs : List A} {ys : List B} → Forall₂ R xs ys → Memᴰ a xs → (b : B) × Memᴰ b ys × R a b
  second Forall₂.nil listed = absurd (Memᴰ.not-nil listed)
  second (Forall₂.cons {b = b} r rest) listed =
      ⊎_elim (λ e. (b, Memᴰ.head refl, subst⁻¹ (λ (a : A). R a b) e r))
      (λ later. let found = second rest later in (found.0, Memᴰ.tail found.1, found.2))
      (Memᴰ.cases_cons listed)

  pub first : {b : B} {xs : List A} {ys : List B} → Forall₂ R xs ys → Memᴰ b ys → (a : A) × Memᴰ a xs × R a b
  first Forall₂.nil listed = absurd (Memᴰ.not-nil listed)
  first (Forall₂.cons {a = a} r rest) listed =
      ⊎_elim (λ e. (a, Memᴰ.head refl, subst⁻¹ (λ (b : B). R a b) e r))
      (λ later. let found = first rest later in (found.0, Memᴰ.tail found.1, found.2))
      (Memᴰ.cases_cons listed)
