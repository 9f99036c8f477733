-- The frame lies inside the recording.
use mathlib.Core.Path.{◌≡◌, refl, ap}
use mathlib.Core.List.{List}
use native.Mathlib.Omega.{arith}
use lib.ListN.{length, take, drop}
use Prim.Native.Nat.{ℕ, ◌+◌, ◌-◌, ◌*◌, ◌≤◌, ◌<◌}
use Rattle.code.specs.declared.settings.Settings.{Settings}
use Rattle.protocol.specs.Lengths.{frame_len}
use Rattle.aerials.specs.Pair.{frames_in, frame_of}
use Rattle.aerials.proofs.FrameLaws.{frame_inside, header_inside}
use Rattle.joiner.proofs.recorded.Recorded.frame.Goals as goal

cut : (s : Settings) (recording : List ℕ) (n size : ℕ) → size ≡ frame_len s
    → take (n * size + size - n * size) (drop (n * size) recording) ≡ frame_of s recording n
unfolding frame_of
cut s recording n size e = let same : n * size + size - n * size ≡ size = omega arith in rw (same, e)

within : (s : Settings) (recording : List ℕ) (n size : ℕ) → n < frames_in s recording → size ≡ frame_len s
    → n * size + size ≤ length recording
within s recording n size below e = rw e (frame_inside s recording n below)

pub overflow_mul-start : goal.overflow_mul-start
overflow_mul-start c =
    record { fits = omega (arith, within _ _ _ _ c.requires c.frame_len-size.ensures) }

pub overflow_add-result : goal.overflow_add-result
overflow_add-result c =
    record { fits = omega (arith, within _ _ _ _ c.requires c.frame_len-size.ensures) }

pub slice_bounds-result-end : goal.slice_bounds-result-end
slice_bounds-result-end c =
    omega (arith, within _ _ _ _ c.requires c.frame_len-size.ensures)

pub returns : goal.returns
returns c =
    let place = ap (λ (k : ℕ). c.args.n * k) c.frame_len-size.ensures in
    let is = cut c.args.self.settings c.args.self.bytes.now c.args.n c.frame_len-size.result c.frame_len-size.ensures in
    record {
      bytes = is;
      long = header_inside c.args.self.settings c.args.self.bytes.now c.args.n c.requires _ is;
      whose = refl;
      start = omega arith;
    }
