-- Vectors, zeros and sums of a table of pairs after bytes were put over a pair; and how a loop puts them, lane by lane.
use mathlib.Core.Path.{◌≡◌, refl, sym, ap, ap₂, ◌∙◌, subst⁻¹}
use mathlib.Core.Bool.{Bool, true, false, cond}
use mathlib.Core.List.{List, []}
use mathlib.Core.Logic.{⊎_elim, ◌≢◌}
use Prim.Native.Nat.{ℕ, ◌+◌, ◌*◌, ◌/◌, ◌%◌, ◌≤◌, ◌<◌}
use native.Mathlib.Nat.{not-suc-le-zero}
use native.Mathlib.Omega.{arith}
use borrow.Author.Tests.{lt-ltb, le-ltb, eqb-true, eqb-false}
use lib.Bits.{bit_and, and_zero_r}
use lib.Dec.{eqb, ltb}
use lib.ListN.{length, get_or, set, length-set, replicate, length-replicate, get_or-replicate}
use lib.Seq.{ext_get_or, get_or-set_same, get_or-set_other}
use Rattle.galois.specs.Bounded.{every}
use Rattle.galois.specs.Byte.{◌⊕◌}
use Rattle.galois.proofs.ByIndex.{is_table, length-table, get_or-table, filled_more, kept_more}
use Rattle.galois.proofs.Cases.{equal, le_or_lt}
use Rattle.gathering.specs.Pairs.{vector_of, Wide, byte_of, laid, paired_up, Paired}
use Rattle.gathering.specs.declared.Source.{Source}

-- ---- three entries replaced

-- a table with three entries after e replaced
abbrev pub three : List (List ℕ) → ℕ → List ℕ → List ℕ → List ℕ → List (List ℕ)
three l e a b c = set (set (set l (e + 1) a) (e + 16) b) (e + 17) c

module _ (l : List (List ℕ)) (e : ℕ) (a b c : List ℕ) where
  -- it is as long as it was
  pub three_length : length (three l e a b c) ≡ length l
  three_length = simp length-set

  -- every other entry is as it was
  pub three_other : (k : ℕ) → k ≢ e + 1 → k ≢ e + 16 → k ≢ e + 17 → get_or (three l e a b c) k [] ≡ get_or l k []
  three_other k n₁ n₂ n₃ =
      get_or-set_other (set (set l (e + 1) a) (e + 16) b) (e + 17) k c [] n₃
      ∙ get_or-set_other (set l (e + 1) a) (e + 16) k b [] n₂ ∙ get_or-set_other l (e + 1) k a [] n₁

  module _ (h : e + 17 < length l) where
    -- the three are the new ones
    pub three_first : get_or (three l e a b c) (e + 1) [] ≡ a
    three_first =
        get_or-set_other (set (set l (e + 1) a) (e + 16) b) (e + 17) (e + 1) c [] (λ same. omega arith)
        ∙ get_or-set_other (set l (e + 1) a) (e + 16) (e + 1) b [] (λ same. omega arith) ∙ get_or-set_same l (e + 1) a [] (omega arith)

    pub three_second : get_or (three l e a b c) (e + 16) [] ≡ b
    three_second =
        get_or-set_other (set (set l (e + 1) a) (e + 16) b) (e + 17) (e + 16) c [] (λ same. omega arith)
        ∙ get_or-set_same (set l (e + 1) a) (e + 16) b [] (omega (arith, length-set l (e + 1) a))

    pub three_third : get_or (three l e a b c) (e + 17) [] ≡ c
    three_third =
        get_or-set_same (set (set l (e + 1) a) (e + 16) b) (e + 17) c []
        (omega (arith, length-set (set l (e + 1) a) (e + 16) b, length-set l (e + 1) a))

    -- what holds of the three and of every other entry holds of each
    pub three_each : (P : ℕ → List ℕ → Type 0) → P (e + 1) a → P (e + 16) b → P (e + 17) c
        → ((k : ℕ) → k ≢ e + 1 → k ≢ e + 16 → k ≢ e + 17 → P k (get_or l k [])) → (k : ℕ) → P k (get_or (three l e a b c) k [])
    three_each P pa pb pc other k = go (eqb k (e + 1)) (eqb k (e + 16)) (eqb k (e + 17)) refl refl refl
      where
        go : (s t u : Bool) → eqb k (e + 1) ≡ s → eqb k (e + 16) ≡ t → eqb k (e + 17) ≡ u → P k (get_or (three l e a b c) k [])
        go true t u p q r =
            subst⁻¹ (λ (k : ℕ). P k (get_or (three l e a b c) k [])) (eqb-true k (e + 1) p) (subst⁻¹ (P (e + 1)) three_first pa)
        go false true u p q r =
            subst⁻¹ (λ (k : ℕ). P k (get_or (three l e a b c) k [])) (eqb-true k (e + 16) q) (subst⁻¹ (P (e + 16)) three_second pb)
        go false false true p q r =
            subst⁻¹ (λ (k : ℕ). P k (get_or (three l e a b c) k [])) (eqb-true k (e + 17) r) (subst⁻¹ (P (e + 17)) three_third pc)
        go false false false p q r =
            subst⁻¹ (P k) (three_other k (eqb-false k (e + 1) p) (eqb-false k (e + 16) q) (eqb-false k (e + 17) r))
            (other k (eqb-false k (e + 1) p) (eqb-false k (e + 16) q) (eqb-false k (e + 17) r))

-- ---- a vector with f over its first lanes

module _ (vector : List ℕ) (m : ℕ) (f : ℕ → ℕ) where
  pub laid_length : length (laid vector m f) ≡ 64
  unfolding laid
  laid_length = length-table 64 (λ v. cond (ltb v m) (f v) (get_or vector v 0))

  -- one of the first lanes, and one after them
  pub laid_first : (v : ℕ) → v < 64 → v < m → get_or (laid vector m f) v 0 ≡ f v
  unfolding laid
  laid_first v lane h =
      get_or-table 64 (λ v. cond (ltb v m) (f v) (get_or vector v 0)) v 0 lane
      ∙ ap (λ (t : Bool). cond t (f v) (get_or vector v 0)) (lt-ltb v m h)

  pub laid_after : (v : ℕ) → v < 64 → m ≤ v → get_or (laid vector m f) v 0 ≡ get_or vector v 0
  unfolding laid
  laid_after v lane h =
      get_or-table 64 (λ v. cond (ltb v m) (f v) (get_or vector v 0)) v 0 lane
      ∙ ap (λ (t : Bool). cond t (f v) (get_or vector v 0)) (le-ltb v m h)

-- a vector that is begun: f over its first m lanes, and after them what was there
pub record Begun (was : List ℕ) (m : ℕ) (f : ℕ → ℕ) (vector : List ℕ) : Type 0 where
  pub wide : length vector ≡ 64
  pub done : (v : ℕ) → v < m → get_or vector v 0 ≡ f v
  pub rest : (v : ℕ) → m ≤ v → get_or vector v 0 ≡ get_or was v 0

-- nothing is written yet
pub none_begun : (was : List ℕ) (f : ℕ → ℕ) → length was ≡ 64 → Begun was 0 f was
none_begun was f h = record { wide = h; done = λ v l. absurd (not-suc-le-zero l); rest = λ v l. refl }

-- one more lane
pub begun_more : (was : List ℕ) (m : ℕ) (f : ℕ → ℕ) (vector : List ℕ) (x : ℕ) → m < 64 → x ≡ f m → Begun was m f vector
    → Begun was (m + 1) f (set vector m x)
begun_more was m f vector x h e s =
    record {
      wide = length-set vector m x ∙ s.wide;
      done = filled_more f 0 vector m x (omega (arith, s.wide)) e s.done;
      rest = kept_more (λ i. get_or was i 0) 0 vector m x s.rest;
    }

-- with all lanes written
pub begun_all : (was : List ℕ) (m : ℕ) (f : ℕ → ℕ) (vector : List ℕ) → Begun was m f vector → vector ≡ laid was m f
unfolding laid
begun_all was m f vector s =
    is_table 64 (λ v. cond (ltb v m) (f v) (get_or was v 0)) 0 vector s.wide
    (λ v h.
    ⊎_elim (λ after. s.rest v after ∙ ap (λ (t : Bool). cond t (f v) (get_or was v 0)) (sym (le-ltb v m after)))
    (λ before. s.done v before ∙ ap (λ (t : Bool). cond t (f v) (get_or was v 0)) (sym (lt-ltb v m before)))
    (le_or_lt m v))

-- ---- the loop over the lanes of a pair

-- the three vectors after entry e are begun, and every other one is as it was
pub record Put (was : List (List ℕ)) (e m : ℕ) (f g h : ℕ → ℕ) (pairs : List (List ℕ)) : Type 0 where
  pub entries : length pairs ≡ length was
  pub first : Begun (get_or was (e + 1) []) m f (get_or pairs (e + 1) [])
  pub second : Begun (get_or was (e + 16) []) m g (get_or pairs (e + 16) [])
  pub third : Begun (get_or was (e + 17) []) m h (get_or pairs (e + 17) [])
  pub other : (k : ℕ) → k ≢ e + 1 → k ≢ e + 16 → k ≢ e + 17 → get_or pairs k [] ≡ get_or was k []

-- nothing is put yet
pub none_put : (was : List (List ℕ)) (e : ℕ) (f g h : ℕ → ℕ) → Wide was → e + 17 < 32 → Put was e 0 f g h was
none_put was e f g h wide few =
    record {
      entries = refl;
      first = none_begun (get_or was (e + 1) []) f (wide.lanes (e + 1) (omega arith));
      second = none_begun (get_or was (e + 16) []) g (wide.lanes (e + 16) (omega arith));
      third = none_begun (get_or was (e + 17) []) h (wide.lanes (e + 17) few);
      other = λ k _ _ _. refl;
    }

-- pairs with x at lane v of entry e
abbrev pub put_lane : List (List ℕ) → ℕ → ℕ → ℕ → List (List ℕ)
put_lane pairs e v x = set pairs e (set (get_or pairs e []) v x)

module _ (pairs : List (List ℕ)) (e m x y z : ℕ) where
  -- the three vectors with one more lane, as a loop writes them
  abbrev next_first : List ℕ
  next_first = set (get_or pairs (e + 1) []) m x

  abbrev next_second : List ℕ
  next_second = set (get_or (set pairs (e + 1) next_first) (e + 16) []) m y

  abbrev next_third : List ℕ
  next_third = set (get_or (set (set pairs (e + 1) next_first) (e + 16) next_second) (e + 17) []) m z

  -- each is made from what stood there
  second_was : next_second ≡ set (get_or pairs (e + 16) []) m y
  second_was = ap (λ (l : List ℕ). set l m y) (get_or-set_other pairs (e + 1) (e + 16) next_first [] (λ same. omega arith))

  third_was : next_third ≡ set (get_or pairs (e + 17) []) m z
  third_was =
      ap (λ (l : List ℕ). set l m z)
      (get_or-set_other (set pairs (e + 1) next_first) (e + 16) (e + 17) next_second [] (λ same. omega arith)
      ∙ get_or-set_other pairs (e + 1) (e + 17) next_first [] (λ same. omega arith))

  -- one more lane of each of the three
  pub put_more : (was : List (List ℕ)) (f g h : ℕ → ℕ) → e + 17 < length was → m < 64 → x ≡ f m → y ≡ g m → z ≡ h m
      → Put was e m f g h pairs → Put was e (m + 1) f g h (put_lane (put_lane (put_lane pairs (e + 1) m x) (e + 16) m y) (e + 17) m z)
  put_more was f g h few lane ex ey ez s =
      let inside : e + 17 < length pairs = omega (arith, s.entries) in
      record {
        entries = three_length pairs e next_first next_second next_third ∙ s.entries;
        first =
            subst⁻¹ (Begun (get_or was (e + 1) []) (m + 1) f) (three_first pairs e next_first next_second next_third inside)
            (begun_more (get_or was (e + 1) []) m f (get_or pairs (e + 1) []) x lane ex s.first);
        second =
            subst⁻¹ (Begun (get_or was (e + 16) []) (m + 1) g) (three_second pairs e next_first next_second next_third inside ∙ second_was)
            (begun_more (get_or was (e + 16) []) m g (get_or pairs (e + 16) []) y lane ey s.second);
        third =
            subst⁻¹ (Begun (get_or was (e + 17) []) (m + 1) h) (three_third pairs e next_first next_second next_third inside ∙ third_was)
            (begun_more (get_or was (e + 17) []) m h (get_or pairs (e + 17) []) z lane ez s.third);
        other = λ k n₁ n₂ n₃. three_other pairs e next_first next_second next_third k n₁ n₂ n₃ ∙ s.other k n₁ n₂ n₃;
      }

module _ (was : List (List ℕ)) (e m : ℕ) (f g h : ℕ → ℕ) where
  -- the three vectors with all lanes put
  abbrev all_first : List ℕ
  all_first = laid (get_or was (e + 1) []) m f

  abbrev all_second : List ℕ
  all_second = laid (get_or was (e + 16) []) m g

  abbrev all_third : List ℕ
  all_third = laid (get_or was (e + 17) []) m h

  -- with all lanes put, each of the three is laid over
  pub put_all : (pairs : List (List ℕ)) → e + 17 < length was → Put was e m f g h pairs → pairs ≡ three was e all_first all_second all_third
  put_all pairs few s =
      ext_get_or [] pairs (three was e all_first all_second all_third) (s.entries ∙ sym (three_length was e all_first all_second all_third))
      (λ k _.
      three_each was e all_first all_second all_third few (λ k l. get_or pairs k [] ≡ l)
      (begun_all (get_or was (e + 1) []) m f (get_or pairs (e + 1) []) s.first)
      (begun_all (get_or was (e + 16) []) m g (get_or pairs (e + 16) []) s.second)
      (begun_all (get_or was (e + 17) []) m h (get_or pairs (e + 17) []) s.third)
      s.other k)

-- ---- a source

-- a byte under each of the two masks
byte_under : (x : ℕ) → x < 256 → bit_and x 255 ≡ x
unfolding every
byte_under = equal 256 (λ x. bit_and x 255) (λ x. x) tt

module _ (bytes : List ℕ) (x : Source) (v : ℕ) where
  -- a source that is kept has the bytes as they stand, and one that is not has zeros
  pub byte_kept : get_or bytes (x.start + v) 0 < 256 → x.keep ≡ 255 → byte_of bytes x v ≡ get_or bytes (x.start + v) 0
  unfolding byte_of
  byte_kept small all =
      ap (λ (m : ℕ). bit_and (get_or bytes (x.start + v) 0) m) all ∙ byte_under (get_or bytes (x.start + v) 0) small

  pub byte_none : x.keep ≡ 0 → byte_of bytes x v ≡ 0
  unfolding byte_of
  byte_none none =
      ap (λ (m : ℕ). bit_and (get_or bytes (x.start + v) 0) m) none ∙ and_zero_r (get_or bytes (x.start + v) 0)

-- ---- after two sources were put over pair j

-- a first vector stands where no second one does
first_not_second : (i j : ℕ) → i * 2 + 1 ≢ j * 2 + 16
first_not_second i j same = omega arith

module _ (pairs : List (List ℕ)) (j : ℕ) (bytes : List ℕ) (lanes : ℕ) (first second : Source) (wide : Wide pairs) (few : j < 8)
    (fits : lanes ≤ 64) where
  -- the first byte and the second of lane v
  abbrev one : ℕ → ℕ
  one = byte_of bytes first

  abbrev two : ℕ → ℕ
  two = byte_of bytes second

  -- the table with them
  abbrev put : List (List ℕ)
  put = paired_up pairs j bytes lanes first second

  -- the entries of pair j, and every other one
  inside : j * 2 + 17 < length pairs
  inside = omega (arith, wide.entries)

  abbrev la : List ℕ
  la = laid (get_or pairs (j * 2 + 1) []) lanes one

  abbrev lb : List ℕ
  lb = laid (get_or pairs (j * 2 + 16) []) lanes two

  abbrev lc : List ℕ
  lc = laid (get_or pairs (j * 2 + 17) []) lanes (λ v. one v ⊕ two v)

  entry_first : get_or put (j * 2 + 1) [] ≡ la
  unfolding paired_up
  entry_first = three_first pairs (j * 2) la lb lc inside

  entry_second : get_or put (j * 2 + 16) [] ≡ lb
  unfolding paired_up
  entry_second = three_second pairs (j * 2) la lb lc inside

  entry_sum : get_or put (j * 2 + 17) [] ≡ lc
  unfolding paired_up
  entry_sum = three_third pairs (j * 2) la lb lc inside

  entry_other : (k : ℕ) → k ≢ j * 2 + 1 → k ≢ j * 2 + 16 → k ≢ j * 2 + 17 → get_or put k [] ≡ get_or pairs k []
  unfolding paired_up
  entry_other k n₁ n₂ n₃ = three_other pairs (j * 2) la lb lc k n₁ n₂ n₃

  -- the zeros and the sums stand in their places as before
  pub paired_kept : (count : ℕ) → Paired count pairs → Paired count put
  paired_kept count p =
      record {
        few = p.few;
        zeros = λ i v h lane.
            ap (λ (l : List ℕ). get_or l v 0)
            (entry_other (i * 2) (λ same. omega arith) (λ same. omega (arith, p.few)) (λ same. omega arith))
            ∙ p.zeros i v h lane;
        sums = λ i v h lane. sum-at i v h lane (eqb i j) refl;
      }
    where
      -- lane v of the sum of pair i
      Sum : ℕ → ℕ → Type 0
      Sum v i = get_or (get_or put (i * 2 + 17) []) v 0 ≡ get_or (get_or put (i * 2 + 1) []) v 0 ⊕ get_or (get_or put (i * 2 + 16) []) v 0

      sum-here : (v : ℕ) → j < count → v < 64 → Sum v j
      sum-here v h lane =
          ap (λ (l : List ℕ). get_or l v 0) entry_sum
          ∙ ⊎_elim
          (λ after.
          laid_after (get_or pairs (j * 2 + 17) []) lanes (λ v. one v ⊕ two v) v lane after ∙ p.sums j v h lane
          ∙ sym (ap₂ ◌⊕◌ (laid_after (get_or pairs (j * 2 + 1) []) lanes one v lane after)
          (laid_after (get_or pairs (j * 2 + 16) []) lanes two v lane after)))
          (λ before.
          laid_first (get_or pairs (j * 2 + 17) []) lanes (λ v. one v ⊕ two v) v lane before
          ∙ sym (ap₂ ◌⊕◌ (laid_first (get_or pairs (j * 2 + 1) []) lanes one v lane before)
          (laid_first (get_or pairs (j * 2 + 16) []) lanes two v lane before)))
          (le_or_lt lanes v)
          ∙ sym (ap₂ (λ (k l : List ℕ). get_or k v 0 ⊕ get_or l v 0) entry_first entry_second)

      sum-at : (i v : ℕ) → i < count → v < 64 → (t : Bool) → eqb i j ≡ t → Sum v i
      sum-at i v h lane true e =
          let same : i ≡ j = eqb-true i j e in
          subst⁻¹ (Sum v) same (sum-here v (omega arith) lane)
      sum-at i v h lane false e =
          let ne : i ≢ j = eqb-false i j e in
          let less : i < 8 = omega (arith, p.few) in
          let at₁ = entry_other (i * 2 + 1) (λ same. ne (omega arith)) (λ same. ne (omega arith)) (λ same. ne (omega arith)) in
          let at₁₆ = entry_other (i * 2 + 16) (λ same. ne (omega arith)) (λ same. ne (omega arith)) (λ same. ne (omega arith)) in
          let at₁₇ = entry_other (i * 2 + 17) (λ same. ne (omega arith)) (λ same. ne (omega arith)) (λ same. ne (omega arith)) in
          ap (λ (l : List ℕ). get_or l v 0) at₁₇ ∙ p.sums i v h lane ∙ sym (ap₂ (λ (k l : List ℕ). get_or k v 0 ⊕ get_or l v 0) at₁ at₁₆)

  -- the table is as wide as before
  pub paired_wide : Wide put
  unfolding paired_up
  paired_wide =
      record {
        entries = three_length pairs (j * 2) la lb lc ∙ wide.entries;
        lanes = three_each pairs (j * 2) la lb lc inside (λ k l. k < 32 → length l ≡ 64)
            (λ _. laid_length (get_or pairs (j * 2 + 1) []) lanes one)
            (λ _. laid_length (get_or pairs (j * 2 + 16) []) lanes two)
            (λ _. laid_length (get_or pairs (j * 2 + 17) []) lanes (λ v. one v ⊕ two v))
            (λ k _ _ _ h. wide.lanes k h);
      }

  -- where the two vectors stand
  vector_first : vector_of put (j * 2) ≡ la
  unfolding vector_of
  vector_first = ap (λ (k : ℕ). get_or put k []) (omega arith) ∙ entry_first

  vector_second : vector_of put (j * 2 + 1) ≡ lb
  unfolding vector_of
  vector_second = ap (λ (k : ℕ). get_or put k []) (omega arith) ∙ entry_second

  -- they hold the bytes of the two sources
  pub paired_first : (v : ℕ) → v < lanes → get_or (vector_of put (j * 2)) v 0 ≡ one v
  paired_first v h =
      ap (λ (l : List ℕ). get_or l v 0) vector_first ∙ laid_first (get_or pairs (j * 2 + 1) []) lanes one v (omega arith) h

  pub paired_second : (v : ℕ) → v < lanes → get_or (vector_of put (j * 2 + 1)) v 0 ≡ two v
  paired_second v h =
      ap (λ (l : List ℕ). get_or l v 0) vector_second ∙ laid_first (get_or pairs (j * 2 + 16) []) lanes two v (omega arith) h

  -- a vector of another pair is as it was
  pub paired_other : (i : ℕ) → i < 16 → i / 2 ≢ j → vector_of put i ≡ vector_of pairs i
  unfolding vector_of
  paired_other i less ne =
      entry_other (i / 2 * 2 + (1 + i % 2 * 15)) (λ same. ne (omega arith))
      (λ same. ⊎_elim (λ odd. ne (omega arith)) (λ even. first_not_second (i / 2) j (omega arith)) (le_or_lt 1 (i % 2)))
      (λ same. ne (omega arith))

-- ---- a blank table

-- a vector of zeros, and a table of them
abbrev pub blank_vector : List ℕ
blank_vector = replicate 64 0

abbrev pub blank_pairs : List (List ℕ)
blank_pairs = replicate 32 blank_vector

-- each entry is a vector of zeros, and each lane is 0
blank_entry : (e : ℕ) → e < 32 → get_or blank_pairs e [] ≡ blank_vector
blank_entry e h = get_or-replicate 32 e blank_vector [] h

blank_lane : (e v : ℕ) → e < 32 → v < 64 → ◌≡◌ {A = ℕ} (get_or (get_or blank_pairs e []) v 0) 0
blank_lane e v h lane = ap (λ (l : List ℕ). get_or l v 0) (blank_entry e h) ∙ get_or-replicate {A = ℕ} 64 v 0 0 lane

-- it is wide, and its zeros and its sums stand in their places
pub blank_wide : Wide blank_pairs
blank_wide =
    record {
      entries = length-replicate 32 blank_vector;
      lanes = λ e h. ap length (blank_entry e h) ∙ length-replicate {A = ℕ} 64 0;
    }

pub blank_paired : (count : ℕ) → count ≤ 8 → Paired count blank_pairs
unfolding ◌⊕◌
blank_paired count few =
    record {
      few = few;
      zeros = λ j v h lane. blank_lane (j * 2) v (omega arith) lane;
      sums = λ j v h lane.
          blank_lane (j * 2 + 17) v (omega arith) lane
          ∙ sym (ap₂ ◌⊕◌ (blank_lane (j * 2 + 1) v (omega arith) lane) (blank_lane (j * 2 + 16) v (omega arith) lane));
    }
