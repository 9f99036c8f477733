-- What an accepted pair lends for a slot: nothing where neither recording has it, and else the frame of it that one of them has.
use mathlib.Core.Path.{◌≡◌, refl, ap, ◌∙◌}
use mathlib.Core.Bool.{Bool, true, false}
use mathlib.Core.List.{List, []}
use Prim.Native.Nat.{ℕ, ◌*◌, ◌<◌}
use lib.ListN.{length, take}
use Rattle.galois.specs.Byte.{Bytes}
use Rattle.code.specs.declared.settings.Settings.{Settings}
use Rattle.protocol.specs.Lengths.{frame_len}
use Rattle.protocol.specs.Frame.{header}
use Rattle.aerials.specs.Pair.{frames_in, frame_of, slot_of, has, pair_cause}
use Rattle.aerials.specs.Parts.{Aerial, one, two, of_aerial, Part, bytes_of, part_of}
use Rattle.aerials.proofs.FrameLaws.{frame_length}
use Rattle.aerials.proofs.PairLaws.{Sound, Checked, checked}
use Rattle.aerials.proofs.PartLaws.{frame_had, of_first, of_second, of_none, join_accepted}
use Rattle.feeding.specs.Fed.{lent, neither}
use Rattle.feeding.proofs.Frames.{frame_header}

-- what holds of both recordings holds of an aerial's
pub of_either : (P : List ℕ → Type 0) {first second : List ℕ} → P first → P second → (whose : Aerial) → P (of_aerial whose first second)
of_either P p q one = p
of_either P p q two = q

-- a frame that one of two recordings has for a slot: it is whole, and where they are bytes it has the slot's header
pub record FrameFor (s : Settings) (first second : List ℕ) (slot : ℕ) (frame : List ℕ) : Type 0 where
  pub whose : Aerial
  pub number : ℕ
  pub within : number < frames_in s (of_aerial whose first second)
  pub stands : slot_of s (of_aerial whose first second) number ≡ slot
  pub is : frame ≡ frame_of s (of_aerial whose first second) number
  pub exact : length frame ≡ frame_len s
  pub headed : Bytes first → Bytes second → take 14 frame ≡ header 1 s slot

-- what is lent for a slot
pub data Lent (s : Settings) (first second : List ℕ) (slot : ℕ) : Type 0 where
  nothing : neither s first second slot ≡ true → lent s first second slot ≡ [] → Lent s first second slot
  its_frame : neither s first second slot ≡ false → FrameFor s first second slot (lent s first second slot) → Lent s first second slot

-- an accepted pair
module _ (s : Settings) (first second : List ℕ) (accepted : pair_cause s first second ≡ 0) where
  -- nothing is wrong with it
  abbrev pair : Checked s first second
  pair = checked s first second accepted

  -- the bytes of the slot's part
  lent_part : (slot : ℕ) {p : Part} → part_of s first second slot ≡ p → lent s first second slot ≡ bytes_of first second p
  lent_part slot e = ap (bytes_of first second) (join_accepted s first second slot accepted ∙ e)

  -- a frame of either that is its part
  frame_for : (slot : ℕ) (whose : Aerial) (i : ℕ) → i < frames_in s (of_aerial whose first second)
      → slot_of s (of_aerial whose first second) i ≡ slot
      → part_of s first second slot ≡ record { whose = whose; start = i * frame_len s; len = frame_len s }
      → FrameFor s first second slot (lent s first second slot)
  unfolding bytes_of frame_of
  frame_for slot whose i h stands part =
      let recording : List ℕ = of_aerial whose first second in
      let is : lent s first second slot ≡ frame_of s recording i = lent_part slot part in
      record {
        whose = whose;
        number = i;
        within = h;
        stands = stands;
        is = is;
        exact = ap length is ∙ frame_length s recording i h;
        headed = λ a b.
            ap (take 14) is
            ∙ frame_header s recording (of_either (Sound s) pair.one pair.two whose) (of_either Bytes a b whose) i h
            ∙ ap (header 1 s) stands;
      }

  -- the first's frame where it has one, else the second's, else nothing
  pub lent_frame : (slot : ℕ) → Lent s first second slot
  unfolding neither bytes_of
  lent_frame slot = go (has s first slot) refl (has s second slot) refl
    where
      go : (a : Bool) → has s first slot ≡ a → (b : Bool) → has s second slot ≡ b → Lent s first second slot
      go true e b d =
          let (i, h, stands) = frame_had s first slot e in
          its_frame (rw e) (frame_for slot one i h stands (rw stands at (of_first s first second pair i h)))
      go false e true d =
          let (i, h, stands) = frame_had s second slot d in
          its_frame (rw (e, d)) (frame_for slot two i h stands (rw stands at (of_second s first second pair i h (rw stands e))))
      go false e false d = nothing (rw (e, d)) (lent_part slot (of_none s first second slot e d))
