-- Demand 2, for one lane: what elimination says of a position is what the fitting words say of it.
use mathlib.Core.Path.{◌≡◌, refl, sym, ap, ◌∙◌, subst⁻¹}
use mathlib.Core.Bool.{Bool, true, false, not}
use Prim.Native.Nat.{ℕ, ◌<◌}
use lib.Dec.{T}
use Rattle.code.specs.declared.settings.Settings.{Settings}
use Rattle.code.specs.Fitting.{Arrived}
use Rattle.code.specs.Settings.{accepted, n_of}
use Rattle.elimination.specs.declared.lane.Symbol.TheVariants.{Whole}
use Rattle.elimination.specs.Elimination.{eliminated, clashes, differs, symbol_of}
use Rattle.elimination.specs.Values.{values, said}
use Rattle.elimination.proofs.Decided.{decided_clash, decided_shared, decided_fits, decided_differs}
use Rattle.elimination.proofs.ValueLaws.{said_clash, said_lost, said_whole}
use Rattle.elimination.proofs.Answers.{symbol_clash, symbol_lost, symbol_whole}

-- elimination over what arrived says what the fitting words say
pub symbol_decided : (s : Settings) → T (accepted s) → (a : Arrived) → ((p : ℕ) → a.byte p < 256) → (i : ℕ) → i < n_of s
    → symbol_of s (eliminated s a.known) a.known a.byte i ≡ said (values s a i)
symbol_decided s passed a hb i hi =
    go (clashes s (eliminated s a.known) a.known a.byte) (differs s (eliminated s a.known) i) refl refl
  where
    go : (c d : Bool) → clashes s (eliminated s a.known) a.known a.byte ≡ c → differs s (eliminated s a.known) i ≡ d
        → symbol_of s (eliminated s a.known) a.known a.byte i ≡ said (values s a i)
    go true d clash _ =
        symbol_clash s (eliminated s a.known) a.known a.byte i clash
        ∙ sym (said_clash s a i (decided_clash s passed a (subst⁻¹ T clash tt)))
    go false true clear differ =
        let two = decided_differs s passed a hb (subst⁻¹ (λ (b : Bool). T (not b)) clear tt) i hi (subst⁻¹ T differ tt) in
        symbol_lost s (eliminated s a.known) a.known a.byte i clear differ
        ∙ sym (said_lost s a i two.0 two.1 two.2 two.3 two.4 two.5 two.6)
    go false false clear same =
        let one = decided_fits s passed a hb (subst⁻¹ (λ (b : Bool). T (not b)) clear tt) in
        symbol_whole s (eliminated s a.known) a.known a.byte i clear same
        ∙ ap Whole (sym (one.3 i hi))
        ∙ sym
        (said_whole s a i one.0 one.1 one.2
        (λ v hv fv. decided_shared s passed a i hi (subst⁻¹ (λ (b : Bool). T (not b)) same tt) v hv fv ∙ sym (one.3 i hi)))
