-- A frame is a header, a message and the parity symbols, each written into its part.
use mathlib.Core.Path.{◌≡◌, ap, ap₂, ◌∙◌}
use mathlib.Core.List.{◌++◌}
use native.Mathlib.Nat.{add-mul}
use native.Mathlib.Omega.{arith}
use Prim.Native.Nat.{ℕ, ◌+◌, ◌*◌}
use lib.Dec.{T}
use Rattle.code.specs.declared.settings.Settings.{Settings}
use Rattle.code.specs.Settings.{accepted, k_of}
use Rattle.code.proofs.Shape.{Shape, shape}
use Rattle.protocol.specs.Frame.{frame_of}
use Rattle.protocol.specs.Lengths.{message_len, body_len, frame_len}
use Rattle.copying.proofs.Whole.{whole}
use Rattle.framing.proofs.Bodies.{body_split}
use Rattle.framing.proofs.frame.write_frame.Goals as goal

-- what a frame is made of: 14 bytes, a message, and B parity symbols of every lane
parts : (s : Settings) (message frame : ℕ) → T (accepted s) → message ≡ message_len s → frame ≡ frame_len s
    → (message ≡ k_of s * s.lanes) × (frame ≡ 14 + message + s.burst * s.lanes)
unfolding body_len frame_len message_len
parts s message frame passed is framed =
    let h : Shape s = shape s passed in
    let whole = ap (λ (n : ℕ). n * s.lanes) h.symbols ∙ add-mul (k_of s) s.burst s.lanes in
    (is, omega arith)

pub split_at_mut-head-requires : goal.split_at_mut-head-requires
split_at_mut-head-requires c = omega (arith, parts c.args.s _ _ c.requires.0 c.requires.2 c.requires.3)

pub split_at_mut-sources-requires : goal.split_at_mut-sources-requires
split_at_mut-sources-requires c = omega (arith, parts c.args.s _ _ c.requires.0 c.requires.2 c.requires.3)

pub write_parities-requires : goal.write_parities-requires
write_parities-requires c = (
  c.requires.0,
  c.requires.1,
  omega (arith, parts c.args.s _ _ c.requires.0 c.requires.2 c.requires.3),
)

pub returns : goal.returns
unfolding frame_of
returns c =
    let a = c.args in
    ap₂ ◌++◌ (c.copy_from_slice.ensures.after ∙ c.header_bytes.ensures)
    (ap₂ ◌++◌ (c.write_at.ensures ∙ whole _ _ (omega (arith, parts a.s _ _ c.requires.0 c.requires.2 c.requires.3))) c.write_parities.ensures
    ∙ body_split a.s a.rows.now a.message.now a.due (shape a.s c.requires.0) c.requires.2)
