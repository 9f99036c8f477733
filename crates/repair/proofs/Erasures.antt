-- What one codeword can repair, and how many zeros the few erased positions leave to a word.
use mathlib.Core.Path.{◌≡◌, refl, ap, ◌∙◌, subst⁻¹}
use mathlib.Core.Bool.{Bool, true, false, cond, not}
use mathlib.Core.Logic.{◌⊎◌, inl, inr}
use Prim.Native.Nat.{ℕ, ◌+◌, ◌-◌, ◌≤◌, ◌<◌}
use native.Mathlib.Nat.{add_assoc}
use native.Mathlib.Numerals.{add-one}
use native.Mathlib.Omega.{arith}
use lib.Dec.{T, eqb, eqb_refl}
use Rattle.galois.specs.Bounded.{count}
use Rattle.galois.proofs.Counting.{count_split, count_mono, count_all, count_none, count_not, count_le}
use Rattle.code.specs.declared.settings.Settings.{Settings}
use Rattle.code.specs.Settings.{delay_of, k_of, n_of}
use Rattle.code.specs.Word.{word_at}
use Rattle.code.proofs.Shape.{Shape}

-- among the positions i to i + T, the erased ones are at most N, or lie within i to i + B - 1
abbrev pub Few : Settings → (ℕ → Bool) → ℕ → Type 0
Few s E i =
    (count (delay_of s + 1) (λ x. E (i + x)) ≤ s.scattered)
    ⊎ ((x : ℕ) → x ≤ delay_of s → T (E (i + x)) → x < s.burst)

-- what one codeword can repair
abbrev pub OneCodeword : Settings → Type 0
OneCodeword s =
    (u : ℕ → ℕ) → ((r : ℕ) → u r < 256) → (i : ℕ) → i < k_of s → ((p : ℕ) → p < i → word_at s u p ≡ 0)
    → (E : ℕ → Bool) → ((p : ℕ) → i ≤ p → p ≤ i + delay_of s → p < n_of s → T (not (E p)) → word_at s u p ≡ 0)
    → Few s E i → word_at s u i ≡ 0

-- ---- counting further

-- no fewer numbers pass below a higher bound
pub count_longer : (a b : ℕ) (f : ℕ → Bool) → a ≤ b → count a f ≤ count b f
count_longer a b f h =
    let rest : b ≡ a + (b - a) = omega arith in
    omega (arith, ap (λ (m : ℕ). count m f) rest, count_split a (b - a) f)

-- a number that passes counts as one more
pub count_next : (m : ℕ) (f : ℕ → Bool) → T (f m) → count (m + 1) f ≡ count m f + 1
unfolding count
count_next m f t =
    ap (λ (k : ℕ). count k f) (add-one m) ∙ ap (λ (c : ℕ). count m f + c) (passed (f m) t)
  where
    passed : (p : Bool) → T p → cond {A = ℕ} p 1 0 ≡ 1
    passed true t = refl
    passed false t = absurd t

-- a zero passes the test for zeros
pub zero_passed : (x : ℕ) → x ≡ 0 → T (eqb x 0)
zero_passed x e = subst⁻¹ (λ (v : ℕ). T (eqb v 0)) e (eqb_refl 0)

-- ---- zeros and erasures

-- where w is 0 before i, and from i on wherever E fails, each position below m is a zero of w or erased from i on
pub zeros_from : (i m : ℕ) (w : ℕ → ℕ) (E : ℕ → Bool) → i ≤ m → ((p : ℕ) → p < i → w p ≡ 0)
    → ((p : ℕ) → i ≤ p → p < m → T (not (E p)) → w p ≡ 0)
    → m + count i E ≤ count m (λ p. eqb (w p) 0) + count m E
zeros_from i m w E hm before heard =
    let z : ℕ → Bool = λ p. eqb (w p) 0 in
    let rest : m ≡ i + (m - i) = omega arith in
    omega (
      arith,
      ap (λ (k : ℕ). count k z) rest,
      ap (λ (k : ℕ). count k E) rest,
      count_split i (m - i) z,
      count_split i (m - i) E,
      count_all i z (λ p hp. zero_passed (w p) (before p hp)),
      count_not (m - i) (λ x. E (i + x)),
      count_mono (m - i) (λ x. not (E (i + x))) (λ x. z (i + x))
          (λ x hx t. zero_passed (w (i + x)) (heard (i + x) (omega arith) (omega arith) t)),
    )

module _ (s : Settings) (h : Shape s) (E : ℕ → Bool) (i : ℕ) where
  -- the erased positions before i, and those of i to i + T
  count_window : count (i + delay_of s + 1) E ≡ count i E + count (delay_of s + 1) (λ x. E (i + x))
  count_window = ap (λ (k : ℕ). count k E) (add_assoc i (delay_of s) 1) ∙ count_split i (delay_of s + 1) E

  -- at most N of the positions i to i + T are erased
  pub few_scattered : count (delay_of s + 1) (λ x. E (i + x)) ≤ s.scattered
      → count (i + delay_of s + 1) E ≤ count i E + s.scattered
  few_scattered sparse = omega (arith, count_window)

  -- at most B of them, in either case
  pub few_most : Few s E i → count (i + delay_of s + 1) E ≤ count i E + s.burst
  few_most (inl sparse) = omega (arith, few_scattered sparse)
  few_most (inr burst) =
      let f : ℕ → Bool = λ x. E (i + x) in
      let past : ℕ = delay_of s + 1 - s.burst in
      let rest : delay_of s + 1 ≡ s.burst + past = omega arith in
      omega (
        arith,
        count_window,
        ap (λ (k : ℕ). count k f) rest,
        count_split s.burst past f,
        count_le s.burst f,
        count_none past (λ x. f (s.burst + x)) (λ x hx t. omega (arith, burst (s.burst + x) (omega arith) t)),
      )
