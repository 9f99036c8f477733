-- T as set, and the smaller of T and W - 1 in its place: `delays`, whose statement is `Delays` of specs/Delay.antt.
use Rattle.std.specs.Prelude.{Err}
use mathlib.Core.Path.{◌≡◌, refl, sym, subst, subst⁻¹}
use mathlib.Core.Logic.{◌↔◌}
use mathlib.Core.List.{List, ◌++◌}
use Prim.Native.Nat.{ℕ, ◌+◌, ◌-◌, ◌≤◌}
use native.Mathlib.Omega.{arith}
use lib.Dec.{T, leb→le, le→leb, eqb→eq}
use lib.ListN.{drop}
use Rattle.galois.proofs.Cases.{at, is_true, is_false}
use Rattle.code.specs.declared.settings.Settings.{Settings}
use Rattle.code.specs.Settings.{accepted, delay_of, k_of, n_of, d_of}
use Rattle.code.specs.Matrix.{spread, entry}
use Rattle.code.proofs.Shape.{each, from_each, shape}
use Rattle.protocol.specs.declared.Cause.TheVariants.{OtherSettings}
use Rattle.protocol.specs.Lengths.{message_len, body_len, frame_len, sender_len, row_len, row_count, receiver_len}
use Rattle.protocol.specs.Frame.{mark, five, slot_bytes, header}
use Rattle.protocol.specs.Causes.{agree, header_cause}
use Rattle.protocol.proofs.HeaderBytes.{header_mark}
use Rattle.protocol.specs.Delay.{accepted_before, entry_by, WorkWith, at_delay, Delays}

-- ---- the number that stands for T

-- by the definitions it is the delay
pub at_work : (s : Settings) → WorkWith (delay_of s) s
unfolding k_of n_of d_of spread entry entry_by message_len body_len frame_len sender_len row_len row_count receiver_len
at_work s = record {
  effective = refl;
  sources = refl;
  symbols = refl;
  alpha_rows = refl;
  entries = λ i j. refl;
  message_length = refl;
  frame_length = refl;
  sender_length = refl;
  receiver_length = refl;
}

pub work_with : (s : Settings) (delay : ℕ) → delay_of s ≡ delay → WorkWith delay s
work_with s delay e = subst (λ (d : ℕ). WorkWith d s) e (at_work s)

short_window : (s : Settings) → s.window ≤ s.delay → WorkWith (s.window - 1) s
unfolding delay_of
short_window s short = work_with s (s.window - 1) (omega arith)

-- ---- what is accepted

-- document 01's rule asks T + 1 ≤ W besides, which the smaller number meets
rule : (s : Settings) → T (accepted s) ↔ T (accepted_before (at_delay s))
unfolding accepted accepted_before k_of n_of
rule s = (
  λ t.
      let tests = each _ t in
      let below = le→leb _ _ (shape s t).delay_window in
      from_each _ (tests.0, (tests.1.0, (tests.1.1.0, (tests.1.1.1.0, (below, tests.1.1.1.1))))),
  λ t.
      let tests = each _ t in
      from_each _ (tests.0, (tests.1.0, (tests.1.1.0, (tests.1.1.1.0, tests.1.1.1.1.1)))),
)

-- where T is below W, it is the smaller number itself
as_before : (s : Settings) → T (accepted_before s) → T (accepted s) × WorkWith s.delay s
unfolding accepted_before delay_of
as_before s t =
    let W : s.delay + 1 ≤ s.window = leb→le _ _ (each _ t).1.1.1.1.0 in
    let same : delay_of s ≡ s.delay = omega arith in
    let set : ℕ → Settings = λ d. record { window = s.window; delay = d; burst = s.burst; scattered = s.scattered; lanes = s.lanes } in
    ((rule s).1 (subst⁻¹ (λ (d : ℕ). T (accepted_before (set d))) same t), work_with s s.delay same)

-- ---- what a header says

other_delay : (version : ℕ) (s other : Settings) (t : ℕ) (body : List ℕ) → (s.delay ≡ other.delay → ⊥)
    → header_cause version s (header version other t ++ body) ≡ Err OtherSettings
unfolding header_cause agree header mark five slot_bytes
other_delay version s other t body differ =
    let frame : List ℕ = header version other t ++ body in
    let marked = is_true (agree 5 frame (mark version)) (header_mark version other t frame refl) in
    let not_set = is_false (agree 5 (drop 5 frame) (five s)) (λ same. differ (sym (eqb→eq _ _ (at 5 _ same 1 (omega arith))))) in
    rw (marked, not_set)

pub delays : Delays
delays = record {
  as_before = as_before;
  short_window = short_window;
  rule = rule;
  other_delay = other_delay;
}
