-- What `?` hands on of a refused call: its own cause.
use Rattle.std.specs.Prelude.{Result, Err}
use Rattle.std.specs.Result.{IsErrAnd}
use Rattle.std.proofs.lemmas.Result.{err_from_is_err_and}
use mathlib.Core.Path.{◌≡◌, ap, ◌∙◌}
use Rattle.protocol.specs.declared.Cause.{Cause}

pub refused_for : {A : Type 0} (r : Result A Cause) (c : Cause) → IsErrAnd r (λ e. e ≡ c) → r ≡ Err c
refused_for r c h = let found = err_from_is_err_and r h in found.1 ∙ ap Err found.2
