-- Clashes, position by position: some lane clashes exactly if at some known position the sums of all lanes are not the bytes.
use mathlib.Core.Path.{◌≡◌, refl, sym, ap, ◌∙◌, subst, subst⁻¹}
use mathlib.Core.Bool.{Bool, true, false, cond, ◌&&◌}
use mathlib.Core.List.{List}
use Prim.Native.Nat.{ℕ, ◌<◌}
use native.Mathlib.Omega.{arith}
use lib.Dec.{T}
use lib.ListN.{get_or}
use borrow.Author.Tests.{ne_eqb, eqb-true}
use Rattle.galois.specs.Bounded.{any}
use Rattle.galois.proofs.Cases.{is_true, and_left, and_right, both_pass, any_at, some_any, any-one, any_none, any_same}
use Rattle.gathering.specs.Pairs.{pairs_of}
use Rattle.vectors.specs.Weighted.{weighted_of}
use Rattle.code.specs.declared.settings.Settings.{Settings}
use Rattle.code.specs.Settings.{k_of, n_of}
use Rattle.code.proofs.Shape.{Shape}
use Rattle.elimination.specs.declared.reduced.Reduced.{Reduced}
use Rattle.elimination.specs.Elimination.{free, cell, combined, clashes, differs, known_in}
use Rattle.elimination.proofs.Terms.{free_differs}
use Rattle.shares.specs.Shares.{lane_byte}
use Rattle.shares.proofs.Shares.{Shared}
use Rattle.clashes.specs.Clashes.{sum_clash, sums_clash}
use Rattle.clashes.proofs.Unlike.{unlike, unlike_differs}
use Rattle.lanes.specs.Lanes.{Own, clash_at, lanes_clash}
use Rattle.lanes.proofs.Combined.{weighted_combined}

module _ (s : Settings) (x : Reduced) (flags places bytes : List ℕ) where
  -- lane v differs from its combined sum at position q
  abbrev differing : ℕ → ℕ → Bool
  differing v q = unlike (combined s x (lane_byte s places bytes v) q) (lane_byte s places bytes v q)

  -- at a known position
  pub clash_found : (q : ℕ) → q < n_of s → known_in s flags q ≡ true → clash_at s x places bytes q ≡ true
      → lanes_clash s x flags places bytes ≡ true
  unfolding clash_at lanes_clash clashes
  clash_found q below known e =
      let found = any_at s.lanes (λ v. differing v q) (subst⁻¹ T e tt) in
      let v : ℕ = found.0 in
      any-one s.lanes (λ v. clashes s x (known_in s flags) (lane_byte s places bytes v)) v found.1
      (some_any (n_of s) (λ q. known_in s flags q && differing v q) q below
      (both_pass (known_in s flags q) (differing v q) (subst⁻¹ T known tt) found.2))

  -- at none
  pub clash_none : ((q : ℕ) → q < n_of s → T (known_in s flags q && clash_at s x places bytes q) → ⊥)
      → lanes_clash s x flags places bytes ≡ false
  unfolding clash_at lanes_clash clashes
  clash_none none =
      any_none s.lanes (λ v. clashes s x (known_in s flags) (lane_byte s places bytes v))
      (λ v h t.
      let found = any_at (n_of s) (λ q. known_in s flags q && differing v q) t in
      let q : ℕ = found.0 in
      let known : Bool = known_in s flags q in
      let differs : Bool = differing v q in
      none q found.1
      (both_pass known (clash_at s x places bytes q) (and_left known differs found.2)
      (some_any s.lanes (λ v. differing v q) v h (and_right known differs found.2))))

  module _ (pairs : List (List ℕ)) (h : Shape s) (shared : Shared s x.roles places bytes pairs) where
    -- the weighted sums clash where the combined sums do
    clash_sum : (q : ℕ) → sum_clash s x.rows pairs places bytes q ≡ clash_at s x places bytes q
    unfolding sum_clash clash_at
    clash_sum q =
        any_same s.lanes (λ v. unlike (get_or (weighted_of x.rows q pairs (pairs_of (k_of s))) v 0) (lane_byte s places bytes v q))
        (λ v. unlike (combined s x (lane_byte s places bytes v) q) (lane_byte s places bytes v q))
        (λ v lane. ap (λ (b : ℕ). unlike b (lane_byte s places bytes v q)) (weighted_combined s x places bytes pairs h shared q v lane))

    pub clash_sums : sums_clash s x.rows pairs flags places bytes ≡ lanes_clash s x flags places bytes
    unfolding sums_clash
    clash_sums = go (any (n_of s) test) refl
      where
        test : ℕ → Bool
        test q = known_in s flags q && sum_clash s x.rows pairs places bytes q

        go : (t : Bool) → any (n_of s) test ≡ t → t ≡ lanes_clash s x flags places bytes
        go true e =
            let found = any_at (n_of s) test (subst⁻¹ T e tt) in
            let q : ℕ = found.0 in
            let known : Bool = known_in s flags q in
            let clash : Bool = sum_clash s x.rows pairs places bytes q in
            sym
            (clash_found q found.1 (is_true known (and_left known clash found.2))
            (sym (clash_sum q) ∙ is_true clash (and_right known clash found.2)))
        go false e =
            sym
            (clash_none
            (λ q below t.
            subst T e
            (some_any (n_of s) test q below (subst⁻¹ (λ (b : Bool). T (known_in s flags q && b)) (clash_sum q) t))))

-- ---- a row that is the pivot of its own position

-- where column i is a unit, no free row is not 0 there
pub own_differs : (s : Settings) (x : Reduced) (i : ℕ) → Own s x i → get_or x.roles i 16 ≡ i → Shape s → i < k_of s → differs s x i ≡ false
unfolding differs free
own_differs s x i own role h below =
    any_none (k_of s) (free_differs x i)
    (λ r few t.
    let f : Bool = free x.roles r in
    let u : Bool = unlike (cell x.rows r i) 0 in
    let idle : get_or x.roles r 16 ≡ 16 = eqb-true (get_or x.roles r 16) 16 (is_true f (and_left f u t)) in
    unlike_differs (cell x.rows r i) 0 (and_right f u t)
    (own role r few ∙ ap (λ (b : Bool). cond b 1 0) (ne_eqb r i (λ same. other r idle same))))
  where
    other : (r : ℕ) → get_or x.roles r 16 ≡ 16 → r ≡ i → ⊥
    other r idle same =
        let here : i ≡ 16 = sym role ∙ ap (λ (r : ℕ). get_or x.roles r 16) (sym same) ∙ idle in
        omega arith
