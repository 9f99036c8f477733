-- What acceptance says of the settings, as facts about numbers.
use mathlib.Core.Path.{◌≡◌}
use mathlib.Core.Bool.{Bool}
use mathlib.Core.List.{List, [], ◌∷◌}
use Prim.Native.Nat.{◌+◌, ◌≤◌}
use native.Mathlib.Omega.{arith}
use lib.Dec.{T, leb, leb→le}
use Rattle.galois.proofs.Cases.{and_left, and_right, both_pass}
use Rattle.code.specs.declared.settings.Settings.{Settings}
use Rattle.code.specs.Settings.{accepted, all, delay_of, k_of, n_of, d_of}

-- accepted settings: the conditions, and how k, n and d follow from T, B and N
pub record Shape (s : Settings) : Type 0 where
  pub scattered_positive : 1 ≤ s.scattered
  pub scattered_burst : s.scattered ≤ s.burst
  pub burst_delay : s.burst ≤ delay_of s
  pub delay_window : delay_of s + 1 ≤ s.window
  pub lanes_positive : 1 ≤ s.lanes
  pub lanes_few : s.lanes ≤ 64
  pub symbols_few : n_of s ≤ 16
  pub sources : k_of s + s.scattered ≡ delay_of s + 1
  pub symbols : n_of s ≡ k_of s + s.burst
  pub alpha_rows : d_of s + s.scattered ≡ s.burst + 1

-- every test of a list passes, one by one
abbrev pub Each : List Bool → Type 0
Each [] = Unit {0}
Each (b ∷ bs) = T b × Each bs

pub each : (bs : List Bool) → T (all bs) → Each bs
unfolding all
each [] t = tt
each (b ∷ bs) t = (and_left b (all bs) t, each bs (and_right b (all bs) t))

pub from_each : (bs : List Bool) → Each bs → T (all bs)
unfolding all
from_each [] t = tt
from_each (b ∷ bs) t = both_pass b (all bs) t.0 (from_each bs t.1)

pub shape : (s : Settings) → T (accepted s) → Shape s
unfolding accepted delay_of k_of n_of d_of
shape s t =
    let tests = each (leb 1 s.scattered ∷ leb s.scattered s.burst ∷ leb s.burst (delay_of s) ∷ leb (n_of s) 16
    ∷ leb s.window 255 ∷ leb 1 s.lanes ∷ leb s.lanes 64 ∷ []) t in
    let N = leb→le 1 s.scattered tests.0 in
    let B = leb→le s.scattered s.burst tests.1.0 in
    let D = leb→le s.burst (delay_of s) tests.1.1.0 in
    let n = leb→le (n_of s) 16 tests.1.1.1.0 in
    let L = leb→le 1 s.lanes tests.1.1.1.1.1.0 in
    let M = leb→le s.lanes 64 tests.1.1.1.1.1.1.0 in
    omega arith
