-- Runs of bytes that differ at some place, and the sums of all lanes held against the bytes that arrived.
use mathlib.Core.Path.{◌≡◌, refl, sym, ap, ◌∙◌, subst, subst⁻¹}
use mathlib.Core.Bool.{Bool, true, false, not}
use mathlib.Core.List.{List}
use Prim.Native.Nat.{ℕ, ◌≤◌, ◌<◌}
use native.Mathlib.Omega.{arith}
use lib.Dec.{T, eqb}
use lib.ListN.{length, get_or, take}
use lib.Seq.{length-take-le, get_or-take, ext_get_or}
use borrow.Author.Tests.{eq-eqb, eqb-true}
use Rattle.std.specs.Str.{bytes_eq}
use Rattle.std.proofs.lemmas.Slice.Eq.{bytes_eq-Decides}
use Rattle.galois.specs.Bounded.{any}
use Rattle.galois.proofs.Cases.{some_any, any_none}
use Rattle.gathering.specs.Pairs.{pairs_of}
use Rattle.vectors.specs.Weighted.{weighted_of}
use Rattle.code.specs.declared.settings.Settings.{Settings}
use Rattle.code.specs.Settings.{k_of}
use Rattle.shares.specs.Shares.{lane_byte}
use Rattle.clashes.specs.Clashes.{sum_clash}

-- two bytes differ
abbrev pub unlike : ℕ → ℕ → Bool
unlike a b = not (eqb a b)

pub unlike_differs : (a b : ℕ) → T (unlike a b) → (a ≡ b → ⊥)
unlike_differs a b t e = subst (λ (e : Bool). T (not e)) (eq-eqb a b e) t

like_same : (a b : ℕ) → (T (unlike a b) → ⊥) → a ≡ b
like_same a b never = go (eqb a b) refl
  where
    go : (t : Bool) → eqb a b ≡ t → a ≡ b
    go true e = eqb-true a b e
    go false e = absurd (never (subst⁻¹ (λ (t : Bool). T (not t)) e tt))

-- two runs of m bytes are equal exactly if no byte differs
compared : (m : ℕ) (f g : ℕ → ℕ) (xs ys : List ℕ) → length xs ≡ m → length ys ≡ m
    → ((i : ℕ) → i < m → get_or xs i 0 ≡ f i) → ((i : ℕ) → i < m → get_or ys i 0 ≡ g i)
    → not (bytes_eq xs ys) ≡ any m (λ i. unlike (f i) (g i))
compared m f g xs ys long as_long left right = go (bytes_eq xs ys) (any m test) refl refl
  where
    test : ℕ → Bool
    test i = unlike (f i) (g i)

    none : xs ≡ ys → any m test ≡ false
    none same =
        any_none m test
        (λ i h t. unlike_differs (f i) (g i) t (sym (left i h) ∙ ap (λ (l : List ℕ). get_or l i 0) same ∙ right i h))

    all : any m test ≡ false → xs ≡ ys
    all e =
        ext_get_or 0 xs ys (long ∙ sym as_long)
        (λ i h.
        let below : i < m = omega arith in
        left i below ∙ like_same (f i) (g i) (λ t. subst T e (some_any m test i below t)) ∙ sym (right i below))

    go : (b t : Bool) → bytes_eq xs ys ≡ b → any m test ≡ t → not (bytes_eq xs ys) ≡ any m test
    go true t e _ = ap not e ∙ sym (none ((bytes_eq-Decides xs ys).0 e))
    go false true e a = ap not e ∙ sym a
    go false false e a = absurd (subst T (sym ((bytes_eq-Decides xs ys).1 (all a)) ∙ e) tt)

-- the weighted sums of all lanes at a position, held against its bytes
pub sum_compared : (s : Settings) (rows : List (List ℕ)) (q : ℕ) (pairs : List (List ℕ)) (places bytes sums part : List ℕ)
    → s.lanes ≤ length sums → length part ≡ s.lanes → sums ≡ weighted_of rows q pairs (pairs_of (k_of s))
    → ((v : ℕ) → v < s.lanes → get_or part v 0 ≡ lane_byte s places bytes v q)
    → not (bytes_eq (take s.lanes sums) part) ≡ sum_clash s rows pairs places bytes q
unfolding sum_clash
sum_compared s rows q pairs places bytes sums part inside long made here =
    compared s.lanes (λ v. get_or (weighted_of rows q pairs (pairs_of (k_of s))) v 0) (λ v. lane_byte s places bytes v q)
    (take s.lanes sums) part (length-take-le s.lanes sums inside) long
    (λ v lane. get_or-take s.lanes sums v 0 lane ∙ ap (λ (l : List ℕ). get_or l v 0) made) here
