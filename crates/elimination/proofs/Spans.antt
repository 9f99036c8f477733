-- The words of a matrix, as sums of byte multiples of its rows, and the steps of elimination that keep them.
use mathlib.Core.Path.{◌≡◌, refl, sym, ap, ap₂, ◌∙◌}
use mathlib.Core.Bool.{Bool, true, false, cond}
use mathlib.Core.Logic.{◌≢◌}
use Prim.Native.Nat.{ℕ, ◌<◌}
use lib.Dec.{eqb, lit<}
use borrow.Author.Tests.{eq-eqb, ne_eqb, eqb-true, eqb-false}
use Rattle.galois.specs.Byte.{◌⊕◌, ◌⊗◌}
use Rattle.galois.specs.Sum.{sum}
use Rattle.galois.proofs.Xor.{plus_assoc, plus_zero, plus_self}
use Rattle.galois.proofs.ByteProduct.{times_below, times_assoc, zero_times, one_times}
use Rattle.galois.proofs.Sums.{sum-equal, sum_single, sum_below, sum_exchange, sum_times, weights_plus, weights_times}
use Rattle.code.specs.Word.{OfWord}

-- the word of the multipliers u over the k rows of M, at position p
abbrev pub word : ℕ → (ℕ → ℕ → ℕ) → (ℕ → ℕ) → ℕ → ℕ
word k M u p = sum k (λ r. u r ⊗ M r p)

-- every word of M is a word of G, at the first n positions
abbrev pub Within : ℕ → ℕ → (ℕ → ℕ → ℕ) → (ℕ → ℕ → ℕ) → Type 0
Within k n M G = (u : ℕ → ℕ) → OfWord u → (v : ℕ → ℕ) × OfWord v × ((p : ℕ) → p < n → word k M u p ≡ word k G v p)

-- M and G have the same words
pub record Spans (k n : ℕ) (M G : ℕ → ℕ → ℕ) : Type 0 where
  pub there : Within k n M G
  pub back : Within k n G M

-- ---- same words: reflexive and transitive

-- words of M are words of G, and those are words of H
within_again : (k n : ℕ) (M G H : ℕ → ℕ → ℕ) → Within k n M G → Within k n G H → Within k n M H
within_again k n M G H first second u hu =
    let v = first u hu in
    let w = second v.0 v.1 in
    (w.0, w.1, λ p hp. v.2 p hp ∙ w.2 p hp)

-- matrices that are equal have the same words
pub spans_equal : (k n : ℕ) (M G : ℕ → ℕ → ℕ) → ((r p : ℕ) → r < k → p < n → M r p ≡ G r p) → Spans k n M G
spans_equal k n M G e = record {
  there = λ u hu. (u, hu, λ p hp. equal u p hp);
  back = λ u hu. (u, hu, λ p hp. sym (equal u p hp));
}
  where
    equal : (u : ℕ → ℕ) (p : ℕ) → p < n → word k M u p ≡ word k G u p
    equal u p hp =
        sum-equal k (λ r. u r ⊗ M r p) (λ r. u r ⊗ G r p) (λ r hr. ap (λ (x : ℕ). u r ⊗ x) (e r p hr hp))

pub spans_refl : (k n : ℕ) (M : ℕ → ℕ → ℕ) → Spans k n M M
spans_refl k n M = spans_equal k n M M (λ r p hr hp. refl)

pub spans_trans : (k n : ℕ) (M G H : ℕ → ℕ → ℕ) → Spans k n M G → Spans k n G H → Spans k n M H
spans_trans k n M G H a b = record {
  there = within_again k n M G H a.there b.there;
  back = within_again k n H G M b.back a.back;
}

-- ---- words of few rows

-- the multipliers that are b at row q, and 0 else
unfoldable pub only : ℕ → ℕ → ℕ → ℕ
only q b j = cond (eqb j q) b 0

pub only_self : (q b : ℕ) → only q b q ≡ b
unfolding only
only_self q b = rw (eq-eqb q q refl)

pub only_other : (q b j : ℕ) → j ≢ q → only q b j ≡ 0
unfolding only
only_other q b j ne = rw (ne_eqb j q ne)

pub only_below : (q b : ℕ) → b < 256 → OfWord (only q b)
unfolding only
only_below q b hb j = go (eqb j q)
  where
    go : (t : Bool) → cond t b 0 < 256
    go true = hb
    go false = lit< tt

-- the word of one row
pub word_only : (k : ℕ) (M : ℕ → ℕ → ℕ) (q b p : ℕ) → q < k → word k M (only q b) p ≡ b ⊗ M q p
word_only k M q b p hq =
    sum_single k q (λ j. only q b j ⊗ M j p) hq
    (λ j hj ne. ap (λ (x : ℕ). x ⊗ M j p) (only_other q b j ne) ∙ zero_times (M j p))
    ∙ ap (λ (x : ℕ). x ⊗ M q p) (only_self q b)

-- the word of a sum of multipliers is the sum of the words
pub word_plus : (k : ℕ) (M : ℕ → ℕ → ℕ) (u v : ℕ → ℕ) (p : ℕ) → word k M (λ r. u r ⊕ v r) p ≡ word k M u p ⊕ word k M v p
word_plus k M u v p = weights_plus k (λ r. M r p) u v

-- ---- a matrix whose rows are words of another

-- where every row of M is a word of G, so is every word of M
pub within_rows : (k n : ℕ) (M G w : ℕ → ℕ → ℕ) → ((r p : ℕ) → r < k → p < n → M r p ≡ word k G (w r) p) → Within k n M G
within_rows k n M G w e u hu = (
  λ q. sum k (λ r. u r ⊗ w r q),
  λ q. sum_below 8 k (λ r. u r ⊗ w r q) (λ r _. times_below (u r) (w r q)),
  λ p hp.
      sum-equal k (λ r. u r ⊗ M r p) (λ r. sum k (λ q. (u r ⊗ w r q) ⊗ G q p))
      (λ r hr. ap (λ (x : ℕ). u r ⊗ x) (e r p hr hp) ∙ sym (weights_times k (λ q. G q p) (u r) (w r)))
      ∙ sum_exchange k k (λ r q. (u r ⊗ w r q) ⊗ G q p)
      ∙ sum-equal k (λ q. sum k (λ r. (u r ⊗ w r q) ⊗ G q p)) (λ q. sum k (λ r. u r ⊗ w r q) ⊗ G q p)
      (λ q _. sym (sum_times k (λ r. u r ⊗ w r q) (G q p))),
)

-- where every row q of M is a multiple of G's row q and a multiple of G's row r
within_two : (k n : ℕ) (M G : ℕ → ℕ → ℕ) (r : ℕ) (a b : ℕ → ℕ) → r < k
    → ((q p : ℕ) → q < k → p < n → M q p ≡ a q ⊗ G q p ⊕ b q ⊗ G r p) → Within k n M G
within_two k n M G r a b hr e =
    within_rows k n M G (λ q j. only q (a q) j ⊕ only r (b q) j)
    (λ q p hq hp. e q p hq hp
    ∙ sym (word_plus k G (only q (a q)) (only r (b q)) p
    ∙ ap₂ ◌⊕◌ (word_only k G q (a q) p hq) (word_only k G r (b q) p hr)))

-- ---- one step: row r is scaled by c, and a multiple of it is added to every other row

-- the multiple of row q, and of row r, that the new row q has
scale_of : ℕ → ℕ → ℕ → ℕ
scale_of r c q = cond (eqb q r) c 1

share_of : ℕ → (ℕ → ℕ) → ℕ → ℕ
share_of r e q = cond (eqb q r) 0 (e q)

-- a law of both, by the law at row r and the law at the others
mixed : (r c : ℕ) (e : ℕ → ℕ) (q m x y : ℕ) → (q ≡ r → m ≡ c ⊗ x) → (q ≢ r → m ≡ x ⊕ e q ⊗ y) → x < 256
    → m ≡ scale_of r c q ⊗ x ⊕ share_of r e q ⊗ y
unfolding scale_of share_of
mixed r c e q m x y same other hx = go (eqb q r) refl
  where
    go : (t : Bool) → eqb q r ≡ t → m ≡ cond t c 1 ⊗ x ⊕ cond t 0 (e q) ⊗ y
    go true at = same (eqb-true q r at) ∙ sym (ap (λ (z : ℕ). c ⊗ x ⊕ z) (zero_times y) ∙ plus_zero (c ⊗ x))
    go false at = other (eqb-false q r at) ∙ ap (λ (z : ℕ). z ⊕ e q ⊗ y) (sym (one_times x hx))

-- the step keeps the words
pub spans_step : (k n : ℕ) (N M : ℕ → ℕ → ℕ) (r c d : ℕ) (e : ℕ → ℕ) → r < k → d ⊗ c ≡ 1
    → ((q p : ℕ) → q < k → p < n → M q p < 256)
    → ((q p : ℕ) → q < k → p < n → N q p < 256)
    → ((p : ℕ) → p < n → N r p ≡ c ⊗ M r p)
    → ((q p : ℕ) → q < k → q ≢ r → p < n → N q p ≡ M q p ⊕ e q ⊗ N r p)
    → Spans k n N M
spans_step k n N M r c d e hr inverse bytes new-bytes pivot other = record {
  there =
      within_two k n N M r (scale_of r c) (share_of r (λ q. e q ⊗ c)) hr
      (λ q p hq hp. mixed r c (λ q. e q ⊗ c) q (N q p) (M q p) (M r p) (λ same. rw same (pivot p hp))
      (λ ne. other q p hq ne hp ∙ ap (λ (z : ℕ). M q p ⊕ z)
      (ap (λ (z : ℕ). e q ⊗ z) (pivot p hp) ∙ sym (times_assoc (e q) c (M r p))))
      (bytes q p hq hp));
  back =
      within_two k n M N r (scale_of r d) (share_of r e) hr
      (λ q p hq hp. mixed r d e q (M q p) (N q p) (N r p)
      (λ same. rw same (sym (ap (λ (z : ℕ). d ⊗ z) (pivot p hp) ∙ sym (times_assoc d c (M r p))
      ∙ ap (λ (z : ℕ). z ⊗ M r p) inverse ∙ one_times (M r p) (bytes r p hr hp))))
      (λ ne. sym (ap (λ (z : ℕ). z ⊕ e q ⊗ N r p) (other q p hq ne hp) ∙ plus_assoc (M q p) (e q ⊗ N r p) (e q ⊗ N r p)
      ∙ ap (λ (z : ℕ). M q p ⊕ z) (plus_self (e q ⊗ N r p)) ∙ plus_zero (M q p)))
      (new-bytes q p hq hp));
}
