-- A frame by its places, and each of its symbols: where the rows hold a history, the symbols are those of the codewords that the
-- history's messages make.
use mathlib.Core.Path.{◌≡◌, refl, sym, ap, ap₂, ◌∙◌}
use mathlib.Core.Bool.{Bool, true, false}
use mathlib.Core.List.{List, ◌++◌}
use Prim.Native.Nat.{ℕ, ◌+◌, ◌-◌, ◌*◌, ◌/◌, ◌%◌, ◌<◌}
use lib.Dec.{ltb}
use lib.Arith.{digits_lt, digits_div, digits_mod}
use lib.ListN.{get_or, take}
use lib.Seq.{take_at, get_or-append-add}
use borrow.Author.Tests.{ltb-true, ltb-false}
use Rattle.code.specs.declared.settings.Settings.{Settings}
use Rattle.code.specs.Settings.{k_of, n_of}
use Rattle.code.specs.Word.{symbol}
use Rattle.code.proofs.Shape.{Shape}
use Rattle.galois.proofs.ByIndex.{get_or-table}
use Rattle.code.proofs.Symbols.{symbol_equal}
use Rattle.protocol.specs.declared.Sender.{Sender}
use Rattle.protocol.specs.Lengths.{body_len}
use Rattle.protocol.specs.Frame.{header, remembered, sent_symbol, body_of, frame_of}
use Rattle.protocol.specs.Codewords.{source}
use Rattle.protocol.proofs.TrueWords.{symbol_own}
use Rattle.protocol.proofs.SentLengths.{length-header}
use Rattle.protocol.proofs.SenderRows.{Remembers, remembered_source}

-- ---- a frame, by its places

-- a frame begins with its header
pub frame_header : (version : ℕ) (s : Settings) (rows message : List ℕ) (t : ℕ)
    → take 14 (frame_of version s rows message t) ≡ header version s t
unfolding frame_of
frame_header version s rows message t =
    take_at (header version s t) (body_of s rows message t) 14 (length-header version s t)

-- and has symbol p of lane v at byte p × L + v of its body
pub frame_symbol : (version : ℕ) (s : Settings) (rows message : List ℕ) (t p v : ℕ) → p < n_of s → v < s.lanes
    → get_or (frame_of version s rows message t) (14 + (p * s.lanes + v)) 0 ≡ sent_symbol s rows message t p v
unfolding frame_of body_of body_len
frame_symbol version s rows message t p v hp hv =
    let q : ℕ = p * s.lanes + v in
    ap (λ (i : ℕ). get_or (header version s t ++ body_of s rows message t) (i + q) 0) (sym (length-header version s t))
    ∙ get_or-append-add (header version s t) (body_of s rows message t) q 0
    ∙ get_or-table (body_len s) (λ q. sent_symbol s rows message t (q / s.lanes) (q % s.lanes)) q 0 (digits_lt hp hv)
    ∙ ap₂ (λ (a b : ℕ). sent_symbol s rows message t a b) (digits_div p hv) (digits_mod p hv)

-- ---- the symbols

-- a symbol sent is that of the codeword of the history
pub sent_symbol_lem : (s : Settings) (h : Shape s) (H : ℕ → List ℕ) → ((t j : ℕ) → get_or (H t) j 0 < 256)
    → (x : Sender) (rows : List ℕ) → Remembers s H x rows → (p v : ℕ) → p < n_of s → v < s.lanes
    → sent_symbol s rows (H x.due) x.due p v ≡ symbol s (source s H x.due p v) p
unfolding sent_symbol
sent_symbol_lem s h H b x rows k p v hp hv = go (ltb p (k_of s)) refl
  where
    go : (c : Bool) → ltb p (k_of s) ≡ c
        → sent_symbol s rows (H x.due) x.due p v ≡ symbol s (source s H x.due p v) p
    go true e =
        rw (e, sent_symbol)
        (sym (symbol_own s h H b x.due p v (ltb-true p (k_of s) e)))
    go false e =
        rw (e, sent_symbol)
        (symbol_equal s (λ r. remembered s rows x.due (p - r) r v) (source s H x.due p v)
        (λ r hr. remembered_source s h H x rows k p v r hr (ltb-false p (k_of s) e) hp hv) p)
