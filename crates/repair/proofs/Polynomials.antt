-- The algebra of polynomials over the bytes: a multiple, a sum, and the product by x + p. Each is a list of coefficients with
-- its value, its length, and the fact that its coefficients are bytes.
use mathlib.Core.Path.{◌≡◌, refl, sym, ap, ap₂, ◌∙◌}
use mathlib.Core.List.{List, [], ◌∷◌}
use Prim.Native.Nat.{ℕ, zero, suc, ◌≤◌, ◌<◌, suc-le-suc}
use native.Mathlib.Nat.{le_of_suc-le-suc, not-suc-le-zero}
use lib.Dec.{lit<}
use lib.ListN.{length}
use Rattle.galois.specs.Byte.{Bytes, ◌⊕◌, ◌⊗◌}
use Rattle.galois.proofs.Xor.{plus_below, plus_comm, plus_assoc, plus_zero, zero_plus, plus_exchange}
use Rattle.galois.proofs.ByteProduct.{times_below, times_comm, times_assoc, times_zero, distributes, distributes_left}
use Rattle.repair.specs.Polynomial.{value}

-- the value of a polynomial is a byte
pub value_below : (cs : List ℕ) → Bytes cs → (x : ℕ) → value cs x < 256
unfolding value
value_below [] b x = lit< tt
value_below (c ∷ cs) b x = plus_below 8 c (x ⊗ value cs x) b.0 (times_below x (value cs x))

-- factors change places: x (c v) = c (x v)
times_exchange : (x c v : ℕ) → x ⊗ (c ⊗ v) ≡ c ⊗ (x ⊗ v)
times_exchange x c v = sym (times_assoc x c v) ∙ ap (λ (p : ℕ). p ⊗ v) (times_comm x c) ∙ times_assoc c x v

-- ---- a multiple

-- each coefficient times c
unfoldable pub scale : ℕ → List ℕ → List ℕ
scale c [] = []
scale c (a ∷ f) = c ⊗ a ∷ scale c f

-- its value is c times the value
pub value_scale : (c : ℕ) (f : List ℕ) (x : ℕ) → value (scale c f) x ≡ c ⊗ value f x
unfolding value scale
value_scale c [] x = sym (times_zero c)
value_scale c (a ∷ f) x =
    ap (λ (v : ℕ). c ⊗ a ⊕ v) (ap (λ (v : ℕ). x ⊗ v) (value_scale c f x) ∙ times_exchange x c (value f x))
    ∙ sym (distributes c a (x ⊗ value f x))

pub length-scale : (c : ℕ) (f : List ℕ) → length (scale c f) ≡ length f
unfolding scale
length-scale c [] = refl
length-scale c (a ∷ f) = ap suc (length-scale c f)

pub bytes_scale : (c : ℕ) (f : List ℕ) → Bytes (scale c f)
unfolding scale
bytes_scale c [] = tt
bytes_scale c (a ∷ f) = (times_below c a, bytes_scale c f)

-- ---- a sum

-- coefficient by coefficient; the longer list's tail is kept
unfoldable pub add : List ℕ → List ℕ → List ℕ
add [] g = g
add (a ∷ f) [] = a ∷ f
add (a ∷ f) (b ∷ g) = (a ⊕ b) ∷ add f g

-- its value is the sum of the values
pub value_add : (f g : List ℕ) (x : ℕ) → value (add f g) x ≡ value f x ⊕ value g x
unfolding value add
value_add [] g x = sym (zero_plus (value g x))
value_add (a ∷ f) [] x = sym (plus_zero (value (a ∷ f) x))
value_add (a ∷ f) (b ∷ g) x =
    ap (λ (v : ℕ). (a ⊕ b) ⊕ v) (ap (λ (v : ℕ). x ⊗ v) (value_add f g x) ∙ distributes x (value f x) (value g x))
    ∙ plus_exchange a b (x ⊗ value f x) (x ⊗ value g x)

-- it is no longer than a bound on both
pub length_add_le : (f g : List ℕ) (k : ℕ) → length f ≤ k → length g ≤ k → length (add f g) ≤ k
unfolding add
length_add_le [] g k hf hg = hg
length_add_le (a ∷ f) [] k hf hg = hf
length_add_le (a ∷ f) (b ∷ g) zero hf hg = absurd (not-suc-le-zero hf)
length_add_le (a ∷ f) (b ∷ g) (suc k) hf hg =
    suc-le-suc (length_add_le f g k (le_of_suc-le-suc hf) (le_of_suc-le-suc hg))

pub bytes_add : (f g : List ℕ) → Bytes f → Bytes g → Bytes (add f g)
unfolding add
bytes_add [] g bf bg = bg
bytes_add (a ∷ f) [] bf bg = bf
bytes_add (a ∷ f) (b ∷ g) bf bg = (plus_below 8 a b bf.0 bg.0, bytes_add f g bf.1 bg.1)

-- ---- the product by x + p

-- c + (x + p) f, where c is carried into the lowest coefficient
unfoldable pub linear : ℕ → ℕ → List ℕ → List ℕ
linear p c [] = c ∷ []
linear p c (a ∷ f) = (c ⊕ p ⊗ a) ∷ linear p a f

-- c + pa + x (a + (x + p) v) = c + (x + p) (a + xv)
pub regroup : (x p c a v : ℕ) → (c ⊕ p ⊗ a) ⊕ x ⊗ (a ⊕ (x ⊕ p) ⊗ v) ≡ c ⊕ (x ⊕ p) ⊗ (a ⊕ x ⊗ v)
regroup x p c a v =
    plus_assoc c (p ⊗ a) (x ⊗ (a ⊕ (x ⊕ p) ⊗ v))
    ∙ ap (λ (s : ℕ). c ⊕ s)
    (ap (λ (s : ℕ). p ⊗ a ⊕ s) (distributes x a ((x ⊕ p) ⊗ v))
    ∙ sym (plus_assoc (p ⊗ a) (x ⊗ a) (x ⊗ ((x ⊕ p) ⊗ v)))
    ∙ ap₂ ◌⊕◌ (plus_comm (p ⊗ a) (x ⊗ a) ∙ sym (distributes_left a x p)) (times_exchange x (x ⊕ p) v)
    ∙ sym (distributes (x ⊕ p) a (x ⊗ v)))

-- its value is c + (x + p) times the value
pub value_linear : (p c : ℕ) (f : List ℕ) (x : ℕ) → value (linear p c f) x ≡ c ⊕ (x ⊕ p) ⊗ value f x
unfolding value linear
value_linear p c [] x = ap (λ (s : ℕ). c ⊕ s) (times_zero x ∙ sym (times_zero (x ⊕ p)))
value_linear p c (a ∷ f) x =
    ap (λ (v : ℕ). (c ⊕ p ⊗ a) ⊕ x ⊗ v) (value_linear p a f x) ∙ regroup x p c a (value f x)

-- it is one longer
pub length-linear : (p c : ℕ) (f : List ℕ) → length (linear p c f) ≡ suc (length f)
unfolding linear
length-linear p c [] = refl
length-linear p c (a ∷ f) = ap suc (length-linear p a f)

pub bytes_linear : (p c : ℕ) (f : List ℕ) → c < 256 → Bytes f → Bytes (linear p c f)
unfolding linear
bytes_linear p c [] h b = (h, tt)
bytes_linear p c (a ∷ f) h b = (plus_below 8 c (p ⊗ a) h (times_below p a), bytes_linear p a f b.0 b.1)
