-- The frames of a recording: each lies inside it, and is a frame's length.
use mathlib.Core.Path.{◌≡◌}
use mathlib.Core.List.{List}
use Prim.Native.Nat.{ℕ, ◌+◌, ◌*◌, ◌≤◌, ◌<◌}
use native.Mathlib.Nat.{suc-mul, mul-le-mul, mul-le-mul_right, div-mul-le_self, div-le_self}
use native.Mathlib.Omega.{arith}
use lib.Dec.{T}
use lib.ListN.{length, drop, length-drop}
use lib.Seq.{length-take-le}
use Rattle.code.specs.declared.settings.Settings.{Settings}
use Rattle.code.specs.Settings.{accepted, n_of}
use Rattle.code.proofs.Shape.{shape}
use Rattle.protocol.specs.Lengths.{body_len, frame_len}
use Rattle.aerials.specs.Pair.{frames_in, frame_of}

-- a frame has its header
pub frame_long : (s : Settings) → 14 ≤ frame_len s
unfolding frame_len
frame_long s = omega arith

-- and a body of at least two bytes
pub frame_body : (s : Settings) → T (accepted s) → 16 ≤ frame_len s
unfolding frame_len body_len
frame_body s ok =
    let h = shape s ok in
    let two : 2 ≤ n_of s = omega (arith, h.symbols, h.sources, h.scattered_positive, h.scattered_burst, h.burst_delay) in
    let product = mul-le-mul two h.lanes_positive in
    omega arith

-- there are no more frames than bytes
pub frames_few : (s : Settings) (recording : List ℕ) → frames_in s recording ≤ length recording
unfolding frames_in
frames_few s recording = div-le_self (length recording) (frame_len s)

module _ (s : Settings) (recording : List ℕ) (i : ℕ) (h : i < frames_in s recording) where
  -- it ends where the recording does, or before
  pub frame_inside : i * frame_len s + frame_len s ≤ length recording
  unfolding frames_in
  frame_inside =
      let size : ℕ = frame_len s in
      let upto = mul-le-mul_right size h in
      let more = suc-mul i size in
      let all = div-mul-le_self (length recording) size in
      omega arith

  -- it is a frame's length
  pub frame_length : length (frame_of s recording i) ≡ frame_len s
  unfolding frame_of
  frame_length =
      let inside = frame_inside in
      length-take-le (frame_len s) (drop (i * frame_len s) recording) (rw (length-drop (i * frame_len s) recording) (omega arith))

  -- so its header can be read
  pub header_inside : (bytes : List ℕ) → bytes ≡ frame_of s recording i → 14 ≤ length bytes
  header_inside bytes e = let long = frame_long s in rw (e, frame_length) (omega arith)
