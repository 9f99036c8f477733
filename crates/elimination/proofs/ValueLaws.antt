-- What is said of a position: no word fits, or two fitting words differ there, or all fitting words share a byte.
use mathlib.Core.Path.{◌≡◌, refl, sym, ap, subst, ◌∙◌}
use mathlib.Core.Bool.{◌&&◌}
use mathlib.Core.List.Memᴰ
use mathlib.Core.List.{List, [], ◌∷◌, Memᴰ, Nodup, Nodup-cons}
use Prim.Native.Nat.{ℕ, ◌<◌}
use native.Mathlib.Omega.{arith}
use lib.Dec.{T, eqb, eqb→eq, eqb_refl}
use lib.ListN.{get_or}
use Rattle.galois.proofs.Cases.{and_left, and_right, both_pass}
use Rattle.code.specs.declared.settings.Settings.{Settings}
use Rattle.code.specs.Settings.{k_of, n_of}
use Rattle.galois.specs.Table.{table}
use Rattle.code.specs.Word.{OfWord, word_at}
use Rattle.code.specs.Fitting.{Arrived, fits}
use Rattle.galois.proofs.ByIndex.{length-table, get_or-table}
use Rattle.code.proofs.Words.{word_at_equal, word_at_below}
use Rattle.code.proofs.Fits.{fits_at, fits_all}
use Rattle.elimination.specs.declared.lane.Symbol.TheVariants.{Clash, Lost, Whole}
use Rattle.elimination.specs.Values.{has_value, values, said}
use Rattle.elimination.proofs.Passing.{any_bytes_at, some_bytes, table_bytes, passing_in, in_passing, passing_once}

-- ---- what is said of a list

none_clash : (l : List ℕ) → ((b : ℕ) → Memᴰ b l → ⊥) → said l ≡ Clash
none_clash [] h = refl
none_clash (b ∷ []) h = absurd (h b (Memᴰ.head refl))
none_clash (b ∷ c ∷ l) h = absurd (h b (Memᴰ.head refl))

clash_none : (l : List ℕ) → said l ≡ Clash → (b : ℕ) → Memᴰ b l → ⊥
clash_none [] e b m = Memᴰ.not-nil m
clash_none (c ∷ []) e b m = let z : ◌≡◌ {A = ℕ} 0 1 = cc in omega arith
clash_none (c ∷ d ∷ l) e b m = let z : ◌≡◌ {A = ℕ} 0 1 = cc in omega arith

two_lost : (l : List ℕ) (b c : ℕ) → Memᴰ b l → Memᴰ c l → (b ≡ c → ⊥) → said l ≡ Lost
two_lost [] b c p q ne = absurd (Memᴰ.not-nil p)
two_lost (x ∷ []) b c p q ne = absurd (ne (Memᴰ.eq_of_singleton p ∙ sym (Memᴰ.eq_of_singleton q)))
two_lost (x ∷ y ∷ l) b c p q ne = refl

heads_differ : (x y : ℕ) (l : List ℕ) → Nodup (x ∷ y ∷ l) → x ≡ y → ⊥
heads_differ x y l n e = (Nodup-cons.0 n).0 ∣ Memᴰ.head e ∣₁

lost_two : (l : List ℕ) → Nodup l → said l ≡ Lost
    → (b : ℕ) × (c : ℕ) × Memᴰ b l × Memᴰ c l × (b ≡ c → ⊥)
lost_two [] n e = absurd (let z : ◌≡◌ {A = ℕ} 0 1 = cc in omega arith)
lost_two (x ∷ []) n e = absurd (let z : ◌≡◌ {A = ℕ} 0 1 = cc in omega arith)
lost_two (x ∷ y ∷ l) n e =
    (x, y, Memᴰ.head refl, Memᴰ.tail (Memᴰ.head refl), heads_differ x y l n)

one_whole : (l : List ℕ) → Nodup l → (b : ℕ) → Memᴰ b l → ((c : ℕ) → Memᴰ c l → c ≡ b) → said l ≡ Whole b
one_whole [] n b m h = absurd (Memᴰ.not-nil m)
one_whole (x ∷ []) n b m h = ap Whole (sym (Memᴰ.eq_of_singleton m))
one_whole (x ∷ y ∷ l) n b m h =
    absurd
    (heads_differ x y l n (h x (Memᴰ.head refl) ∙ sym (h y (Memᴰ.tail (Memᴰ.head refl)))))

whole_one : (l : List ℕ) (b : ℕ) → said l ≡ Whole b → Memᴰ b l × ((c : ℕ) → Memᴰ c l → c ≡ b)
whole_one [] b e = absurd (let z : ◌≡◌ {A = ℕ} 0 1 = cc in omega arith)
whole_one (x ∷ []) b e =
    let same : x ≡ b = cc in
    (Memᴰ.head (sym same), λ c m. Memᴰ.eq_of_singleton m ∙ same)
whole_one (x ∷ y ∷ l) b e = absurd (let z : ◌≡◌ {A = ℕ} 0 1 = cc in omega arith)

-- ---- the values of the fitting words

module _ (s : Settings) (a : Arrived) where
  -- whether a word fits rests on its first k multipliers
  pub fits_equal : (u v : ℕ → ℕ) → ((r : ℕ) → r < k_of s → u r ≡ v r) → T (fits s a u) → T (fits s a v)
  fits_equal u v e f =
      fits_all s a v
      (λ p hp known. sym (word_at_equal s u v e p) ∙ fits_at s a u p hp f known)

  -- the byte of a fitting word is a value
  pub has_value_lem : (i b : ℕ) (u : ℕ → ℕ) → OfWord u → T (fits s a u) → word_at s u i ≡ b → T (has_value s a i b)
  unfolding has_value
  has_value_lem i b u h f e =
      let v : ℕ → ℕ = λ r. get_or (table (k_of s) u) r 0 in
      let same : (r : ℕ) → r < k_of s → u r ≡ v r = λ r hr. sym (get_or-table (k_of s) u r 0 hr) in
      some_bytes (k_of s) (λ l. fits s a (λ r. get_or l r 0) && eqb (word_at s (λ r. get_or l r 0) i) b)
      (table (k_of s) u) (length-table (k_of s) u) (table_bytes (k_of s) u h)
      (both_pass (fits s a v) (eqb (word_at s v i) b) (fits_equal u v same f)
      (subst (λ (c : ℕ). T (eqb (word_at s v i) c)) (sym (word_at_equal s u v same i) ∙ e) (eqb_refl (word_at s v i))))

  -- a value is that of a fitting word
  pub value_of : (i b : ℕ) → T (has_value s a i b) → (u : ℕ → ℕ) × OfWord u × T (fits s a u) × (word_at s u i ≡ b)
  unfolding has_value
  value_of i b t =
      let found = any_bytes_at (k_of s) (λ l. fits s a (λ r. get_or l r 0) && eqb (word_at s (λ r. get_or l r 0) i) b) t in
      let u : ℕ → ℕ = λ r. get_or found.0 r 0 in (
        u,
        found.2,
        and_left (fits s a u) (eqb (word_at s u i) b) found.3,
        eqb→eq (word_at s u i) b (and_right (fits s a u) (eqb (word_at s u i) b) found.3),
      )

  -- the byte of a fitting word is among the values
  pub values_in : (i : ℕ) (u : ℕ → ℕ) → OfWord u → T (fits s a u) → Memᴰ (word_at s u i) (values s a i)
  unfolding values
  values_in i u h f = passing_in 256 (has_value s a i) (word_at s u i) (word_at_below s u i) (has_value_lem i (word_at s u i) u h f refl)

  -- and each value is that of a fitting word
  pub in_values : (i b : ℕ) → Memᴰ b (values s a i) → (u : ℕ → ℕ) × OfWord u × T (fits s a u) × (word_at s u i ≡ b)
  unfolding values
  in_values i b m = value_of i b (in_passing 256 (has_value s a i) b m).1

  -- each value stands once
  pub values_once : (i : ℕ) → Nodup (values s a i)
  unfolding values
  values_once i = passing_once 256 (has_value s a i)

  -- ---- what is said of a position

  -- where no word fits, a clash
  pub said_clash : (i : ℕ) → ((u : ℕ → ℕ) → OfWord u → T (fits s a u) → ⊥) → said (values s a i) ≡ Clash
  said_clash i none = none_clash (values s a i) (λ b m. let w = in_values i b m in none w.0 w.1 w.2)

  -- and only there
  pub clash_said : (i : ℕ) → said (values s a i) ≡ Clash → (u : ℕ → ℕ) → OfWord u → T (fits s a u) → ⊥
  clash_said i e u h f = clash_none (values s a i) e (word_at s u i) (values_in i u h f)

  -- where two fitting words differ, lost
  pub said_lost : (i : ℕ) (u v : ℕ → ℕ) → OfWord u → OfWord v → T (fits s a u) → T (fits s a v)
      → (word_at s u i ≡ word_at s v i → ⊥) → said (values s a i) ≡ Lost
  said_lost i u v hu hv fu fv = two_lost (values s a i) (word_at s u i) (word_at s v i) (values_in i u hu fu) (values_in i v hv fv)

  -- and only there
  pub lost_said : (i : ℕ) → said (values s a i) ≡ Lost
      → (u : ℕ → ℕ) × (v : ℕ → ℕ) × OfWord u × OfWord v × T (fits s a u) × T (fits s a v) × (word_at s u i ≡ word_at s v i → ⊥)
  lost_said i e =
      let pair = lost_two (values s a i) (values_once i) e in
      let x = in_values i pair.0 pair.2 in
      let y = in_values i pair.1 pair.3 in
      (x.0, y.0, x.1, y.1, x.2, y.2, λ same. pair.4 (sym x.3 ∙ same ∙ y.3))

  -- where all fitting words share a byte, that byte
  pub said_whole : (i : ℕ) (u : ℕ → ℕ) → OfWord u → T (fits s a u)
      → ((v : ℕ → ℕ) → OfWord v → T (fits s a v) → word_at s v i ≡ word_at s u i) → said (values s a i) ≡ Whole (word_at s u i)
  said_whole i u h f all =
      one_whole (values s a i) (values_once i) (word_at s u i) (values_in i u h f)
      (λ c m. let w = in_values i c m in sym w.3 ∙ all w.0 w.1 w.2)

  -- and only there
  pub whole_said : (i b : ℕ) → said (values s a i) ≡ Whole b
      → ((u : ℕ → ℕ) × OfWord u × T (fits s a u) × (word_at s u i ≡ b)) × ((v : ℕ → ℕ) → OfWord v → T (fits s a v) → word_at s v i ≡ b)
  whole_said i b e =
      let one = whole_one (values s a i) b e in
      (in_values i b one.0, λ v h f. one.1 (word_at s v i) (values_in i v h f))

-- ---- more that arrived

-- what arrived in a arrived in b too, with the same bytes
abbrev pub Part : Settings → Arrived → Arrived → Type 0
Part s a b = (p : ℕ) → p < n_of s → T (a.known p) → T (b.known p) × (a.byte p ≡ b.byte p)

-- so the fitting words only get fewer
pub fits_part : (s : Settings) (a b : Arrived) → Part s a b → (u : ℕ → ℕ) → T (fits s b u) → T (fits s a u)
fits_part s a b part u f =
    fits_all s a u (λ p hp known. let (still, same) = part p hp known in fits_at s b u p hp f still ∙ sym same)
