-- A body is the message, whose symbols are the first k, and then the parity symbols.
use mathlib.Core.Path.{◌≡◌, refl, sym, ap, ap₂, ◌∙◌}
use mathlib.Core.List.{List, ◌++◌, append_assoc, append-nil}
use Prim.Native.Nat.{ℕ, zero, suc, ◌+◌, ◌-◌, ◌*◌, ◌/◌, ◌%◌, ◌≤◌, ◌<◌}
use native.Mathlib.Nat.{add-zero, add-suc, suc-mul, mul-le-mul_right, div-add-mod', div-lt_iff_lt-mul}
use native.Mathlib.Omega.{arith}
use borrow.Author.Tests.{lt-ltb, le-ltb}
use lib.Arith.{digits_div, digits_mod}
use lib.ListN.{length, get_or, take, drop, length-drop}
use lib.Seq.{ext_get_or, get_or-take, get_or-drop, length-take-le, take-add, take_all}
use Rattle.galois.proofs.ByIndex.{get_or-table, is_table}
use Rattle.code.specs.declared.settings.Settings.{Settings}
use Rattle.code.specs.Settings.{k_of, n_of}
use Rattle.code.specs.Word.{symbol}
use Rattle.code.proofs.Shape.{Shape}
use Rattle.protocol.specs.Frame.{remembered, sent_symbol, body_of}
use Rattle.protocol.specs.Lengths.{message_len, body_len}
use Rattle.protocol.proofs.SentLengths.{length-body}
use Rattle.parity.specs.Parities.{parity_of, parities_of}

module _ (s : Settings) (h : Shape s) where
  -- a message is a part of a body
  message_fits : message_len s ≤ body_len s
  unfolding message_len body_len
  message_fits = mul-le-mul_right s.lanes (omega arith)

  -- the end of symbol p in a body
  symbol_ends : (p : ℕ) → p < n_of s → p * s.lanes + s.lanes ≤ body_len s
  unfolding body_len
  symbol_ends p hp = omega (arith, mul-le-mul_right s.lanes hp, suc-mul p s.lanes)

module _ (s : Settings) (rows message : List ℕ) (due : ℕ) (h : Shape s) (exact : length message ≡ message_len s) where
  abbrev body : List ℕ
  body = body_of s rows message due

  -- the first k symbols are the message
  body_message : take (k_of s * s.lanes) body ≡ message
  unfolding body_of sent_symbol message_len body_len
  body_message =
      let fits = message_fits s h in
      let long : length (take (k_of s * s.lanes) body) ≡ k_of s * s.lanes =
      length-take-le (k_of s * s.lanes) body (omega (arith, length-body s rows message due, fits)) in
      ext_get_or 0 (take (k_of s * s.lanes) body) message (long ∙ sym exact)
      (λ q hq.
      let below : q < k_of s * s.lanes = omega (arith, long) in
      let source : q / s.lanes < k_of s = (div-lt_iff_lt-mul h.lanes_positive).1 below in
      get_or-take (k_of s * s.lanes) body q 0 below
      ∙ get_or-table (body_len s) (λ q. sent_symbol s rows message due (q / s.lanes) (q % s.lanes)) q 0 (omega (arith, fits))
      ∙ rw (lt-ltb (q / s.lanes) (k_of s) source, sent_symbol)
      (ap (λ (j : ℕ). get_or message j 0) (div-add-mod' q s.lanes)))

  -- the parity symbols of position p stand at p × L
  body_parity : (p : ℕ) → k_of s ≤ p → p < n_of s → take s.lanes (drop (p * s.lanes) body) ≡ parity_of s rows due p
  unfolding body_of sent_symbol parity_of
  body_parity p past hp =
      let ends = symbol_ends s h p hp in
      is_table s.lanes (λ v. symbol s (λ i. remembered s rows due (p - i) i v) p) 0 (take s.lanes (drop (p * s.lanes) body))
      (length-take-le s.lanes (drop (p * s.lanes) body)
      (omega (arith, ends, length-drop (p * s.lanes) body, length-body s rows message due)))
      (λ v hv.
      get_or-take s.lanes (drop (p * s.lanes) body) v 0 hv
      ∙ get_or-drop (p * s.lanes) body v 0
      ∙ get_or-table (body_len s) (λ q. sent_symbol s rows message due (q / s.lanes) (q % s.lanes)) (p * s.lanes + v) 0
      (omega (arith, ends))
      ∙ ap₂ (λ (a b : ℕ). sent_symbol s rows message due a b) (digits_div p hv) (digits_mod p hv)
      ∙ rw (le-ltb p (k_of s) past, sent_symbol) refl)

  -- after the message, the first m of them
  body_parities : (m : ℕ) → m ≤ s.burst → take ((k_of s + m) * s.lanes) body ≡ message ++ parities_of s rows due m
  unfolding parities_of
  body_parities zero few =
      ap (λ (k : ℕ). take (k * s.lanes) body) (add-zero (k_of s)) ∙ body_message ∙ sym (append-nil message)
  body_parities (suc m) few =
      let p : ℕ = k_of s + m in
      ap (λ (k : ℕ). take (k * s.lanes) body) (add-suc (k_of s) m) ∙ ap (λ (n : ℕ). take n body) (suc-mul p s.lanes)
      ∙ take-add (p * s.lanes) s.lanes body
      ∙ ap₂ ◌++◌ (body_parities m (omega arith)) (body_parity p (omega arith) (omega (arith, h.symbols)))
      ∙ append_assoc message (parities_of s rows due m) (parity_of s rows due p)

  -- which is all
  pub body_split : message ++ parities_of s rows due s.burst ≡ body
  unfolding body_len
  body_split =
      let all : k_of s + s.burst ≡ n_of s = omega (arith, h.symbols) in
      sym (body_parities s.burst (omega arith))
      ∙ ap (λ (n : ℕ). take (n * s.lanes) body) all
      ∙ take_all (n_of s * s.lanes) body (omega (arith, length-body s rows message due))
