-- The three tests of a frame's first 14 bytes are one equation: they are the header.
use mathlib.Core.Path.{◌≡◌, refl, sym, ap, ap₂, ◌∙◌}
use mathlib.Core.List.{List, ◌++◌}
use Prim.Native.Nat.{ℕ, ◌+◌, ◌≤◌, ◌<◌}
use native.Mathlib.Omega.{arith}
use lib.Dec.{T, eqb, eqb→eq, eqb_refl}
use lib.ListN.{length, get_or, take, drop, length-drop, get_or-append}
use lib.Seq.{ext_get_or, length-take-le, get_or-take, get_or-drop, take-add}
use Rattle.galois.proofs.Cases.{at, all-below}
use Rattle.code.specs.declared.settings.Settings.{Settings}
use Rattle.protocol.specs.Frame.{mark, five, slot_bytes, header}
use Rattle.protocol.specs.Causes.{agree}

-- where the first m places agree, they are the shorter list
agree_take : (m : ℕ) (a b : List ℕ) → m ≤ length a → length b ≡ m → T (agree m a b) → take m a ≡ b
unfolding agree
agree_take m a b enough short same =
    let cut : length (take m a) ≡ m = length-take-le m a enough in
    ext_get_or 0 (take m a) b (cut ∙ sym short)
    (λ i h.
    let below : i < m = rw cut at h in
    get_or-take m a i 0 below ∙ eqb→eq (get_or a i 0) (get_or b i 0) (at m (λ i. eqb (get_or a i 0) (get_or b i 0)) same i below))

-- and where they are its places from k on, they agree
agree_from_lem : (m k n : ℕ) (frame front part : List ℕ) → take n frame ≡ front → k + m ≤ n
    → ((i : ℕ) → i < m → get_or (drop k front) i 0 ≡ get_or part i 0) → T (agree m (drop k frame) part)
unfolding agree
agree_from_lem m k n frame front part cut room places =
    all-below m (λ i. eqb (get_or (drop k frame) i 0) (get_or part i 0))
    (λ i h.
    let same : get_or (drop k frame) i 0 ≡ get_or part i 0
    = get_or-drop k frame i 0 ∙ sym (get_or-take n frame (k + i) 0 (omega arith)) ∙ ap (λ (l : List ℕ). get_or l (k + i) 0) cut
    ∙ sym (get_or-drop k front i 0) ∙ places i h in
    rw same (eqb_refl (get_or part i 0)))

module _ (version : ℕ) (s : Settings) (due : ℕ) (frame : List ℕ) where
  -- the tests pass, so the first 14 bytes are the header
  pub tests_header : 14 ≤ length frame → T (agree 5 frame (mark version)) → T (agree 5 (drop 5 frame) (five s))
      → T (agree 4 (drop 10 frame) (slot_bytes due)) → take 14 frame ≡ header version s due
  unfolding header mark five slot_bytes
  tests_header enough m f t =
      let first : take 5 frame ≡ mark version = agree_take 5 frame (mark version) (omega arith) refl m in
      let second : take 5 (drop 5 frame) ≡ five s
      = agree_take 5 (drop 5 frame) (five s) (omega (arith, length-drop 5 frame)) refl f in
      let third : take 4 (drop 10 frame) ≡ slot_bytes due
      = agree_take 4 (drop 10 frame) (slot_bytes due) (omega (arith, length-drop 10 frame)) refl t in
      take-add 10 4 frame ∙ ap₂ ◌++◌ (take-add 5 5 frame ∙ ap₂ ◌++◌ first second) third

  -- and the other way round
  pub header_mark : take 14 frame ≡ header version s due → T (agree 5 frame (mark version))
  unfolding header mark
  header_mark e = agree_from_lem 5 0 14 frame (header version s due) (mark version) e (omega arith)
      (λ i h. get_or-append (mark version) (five s ++ slot_bytes due) 0 i h)

  pub header_five : take 14 frame ≡ header version s due → T (agree 5 (drop 5 frame) (five s))
  unfolding header mark five
  header_five e = agree_from_lem 5 5 14 frame (header version s due) (five s) e (omega arith)
      (λ i h. get_or-append (five s) (slot_bytes due) 0 i h)

  pub header_slot : take 14 frame ≡ header version s due → T (agree 4 (drop 10 frame) (slot_bytes due))
  unfolding header mark five
  header_slot e = agree_from_lem 4 10 14 frame (header version s due) (slot_bytes due) e (omega arith) (λ i h. refl)
