-- The bytes begin with the mark where they agree with it, place by place.
use Rattle.std.proofs.Common.{sym, refl, ℕ, get_or, length-take, get_or-take, take, List, arith}
use Rattle.std.proofs.lemmas.Bool.Decides.{same_from_decides, Decides-eqb, Decides-like}
use Rattle.std.proofs.lemmas.Slice.Eq.{slice_eq-Decides}
use Rattle.protocol.specs.Causes.{agree}
use Rattle.state.proofs.SameBytes.{compared}
use Rattle.state.specs.State.{mark_of}
use Rattle.state.proofs.is_marked.Goals as goal

pub returns : goal.returns
unfolding agree
returns c =
    let bytes : List ℕ = c.args.bytes.now in
    let mark : List ℕ = mark_of c.args.end in
    same_from_decides _ _
    (Decides-like c.starts_with.result sym sym
    (slice_eq-Decides Decides-eqb mark (take 4 bytes) c.starts_with.result (rw c.mark_of.ensures at c.starts_with.ensures.value)))
    (compared 4 (λ i. get_or bytes i 0) (λ i. get_or mark i 0) (take 4 bytes) mark (simp length-take (omega arith)) refl
    (λ i h. get_or-take 4 bytes i 0 h) (λ i h. refl))
