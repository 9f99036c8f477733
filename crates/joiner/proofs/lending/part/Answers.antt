-- The first's frame, the second's, or neither.
use mathlib.Core.Path.{◌≡◌, refl, sym, ap, ◌∙◌}
use mathlib.Core.Bool.{false}
use mathlib.Core.List.{List}
use native.Mathlib.Omega.{arith}
use Prim.Native.Nat.{ℕ, ◌+◌, ◌*◌}
use Rattle.std.specs.Prelude.{Some}
use Rattle.code.specs.declared.settings.Settings.{Settings}
use Rattle.protocol.specs.Lengths.{frame_len}
use Rattle.aerials.specs.Pair.{frame_of, has}
use Rattle.aerials.specs.Sound.{Rising}
use Rattle.aerials.proofs.PairLaws.{checked}
use Rattle.aerials.proofs.PartLaws.{part_first, part_second, of_none, first_bytes, second_bytes, no_bytes}
use Rattle.joiner.specs.Places.{place_in}
use Rattle.joiner.proofs.Places.{place_some, place_none, place_within}
use Rattle.joiner.proofs.lending.part.Goals as goal

pub new-one-requires : goal.new-one-requires
unfolding Rising
new-one-requires c = (checked c.args.s c.args.first.now c.args.second.now c.requires).one.rising

pub new-two-requires : goal.new-two-requires
unfolding Rising
new-two-requires c = (checked c.args.s c.args.first.now c.args.second.now c.requires).two.rising

pub frame-requires : goal.frame-requires
frame-requires c = place_within _ _ c.args.slot c.new-one.result.rises _ (sym c.place.ensures ∙ c.in-Some.is)

pub frame-requires-in-Some-place : goal.frame-requires-in-Some-place
frame-requires-in-Some-place c = place_within _ _ c.args.slot c.new-two.result.rises _ (sym c.place-in_default.ensures ∙ c.in-Some-place.is)

pub returns-in-Some : goal.returns-in-Some
returns-in-Some c =
    let s : Settings = c.args.s in
    let first : List ℕ = c.args.first.now in
    let second : List ℕ = c.args.second.now in
    let own = c.new-one.ensures in
    let found : place_in s first c.args.slot ≡ Some c.in-Some.n =
    rw (own.settings, own.bytes) at (sym c.place.ensures ∙ c.in-Some.is) in
    let (had, place) = place_some s first c.args.slot c.in-Some.n found in
    let bytes : c.frame.result.now ≡ frame_of s first c.in-Some.n = rw (own.settings, own.bytes) at c.frame.ensures.bytes in
    let start : c.frame.result.ref_ptr.1 ≡ c.args.first.ref_ptr.1 + c.in-Some.n * frame_len s =
    rw (own.settings, own.bytes) at c.frame.ensures.start in
    let whose : c.frame.result.ref_ptr.0 ≡ c.args.first.ref_ptr.0 = rw own.bytes at c.frame.ensures.whose in
    rw (part_first s first second c.args.slot had) (record {
      bytes = bytes ∙ ap (frame_of s first) place ∙ sym (first_bytes s first second c.args.slot);
      whose = whose;
      start = start ∙ ap (λ (n : ℕ). c.args.first.ref_ptr.1 + n * frame_len s) place;
    })

pub returns-in-Some-place : goal.returns-in-Some-place
returns-in-Some-place c =
    let s : Settings = c.args.s in
    let first : List ℕ = c.args.first.now in
    let second : List ℕ = c.args.second.now in
    let own = c.new-one.ensures in
    let other = c.new-two.ensures in
    let none : has s first c.args.slot ≡ false =
    place_none s first c.args.slot (rw (own.settings, own.bytes) at (sym c.place.ensures ∙ c.in_default.is)) in
    let found : place_in s second c.args.slot ≡ Some c.in-Some-place.n =
    rw (other.settings, other.bytes) at (sym c.place-in_default.ensures ∙ c.in-Some-place.is) in
    let (had, place) = place_some s second c.args.slot c.in-Some-place.n found in
    let bytes : c.frame-in-Some-place.result.now ≡ frame_of s second c.in-Some-place.n =
    rw (other.settings, other.bytes) at c.frame-in-Some-place.ensures.bytes in
    let start : c.frame-in-Some-place.result.ref_ptr.1 ≡ c.args.second.ref_ptr.1 + c.in-Some-place.n * frame_len s =
    rw (other.settings, other.bytes) at c.frame-in-Some-place.ensures.start in
    let whose : c.frame-in-Some-place.result.ref_ptr.0 ≡ c.args.second.ref_ptr.0 = rw other.bytes at c.frame-in-Some-place.ensures.whose in
    rw (part_second s first second c.args.slot none had) (record {
      bytes = bytes ∙ ap (frame_of s second) place ∙ sym (second_bytes s first second c.args.slot);
      whose = whose;
      start = start ∙ ap (λ (n : ℕ). c.args.second.ref_ptr.1 + n * frame_len s) place;
    })

pub returns-in_default-place : goal.returns-in_default-place
returns-in_default-place c =
    let s : Settings = c.args.s in
    let first : List ℕ = c.args.first.now in
    let second : List ℕ = c.args.second.now in
    let own = c.new-one.ensures in
    let other = c.new-two.ensures in
    let none : has s first c.args.slot ≡ false =
    place_none s first c.args.slot (rw (own.settings, own.bytes) at (sym c.place.ensures ∙ c.in_default.is)) in
    let neither : has s second c.args.slot ≡ false =
    place_none s second c.args.slot (rw (other.settings, other.bytes) at (sym c.place-in_default.ensures ∙ c.in_default-place.is)) in
    rw (of_none s first second c.args.slot none neither)
    (record { bytes = sym (no_bytes first second); whose = refl; start = omega arith })
