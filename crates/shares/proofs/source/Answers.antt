-- The position of the row's pivot is its role below k, and 16 past the k rows; inside the roles the default does not matter.
use mathlib.Core.Path.{◌≡◌, ap, ◌∙◌}
use native.Mathlib.Omega.{arith}
use Rattle.code.proofs.Shape.{shape}
use Rattle.elimination.proofs.PivotSearch.{get_d_default}
use Rattle.shares.specs.Shares.{role_of, source_at}
use Rattle.shares.proofs.Shares.{role_row, role_past, source_inside, source_past}
use Rattle.shares.proofs.source.Goals as goal
use Rattle.shares.proofs.source.Goals.{then-r-sources, else-r-sources}

pub bounds-roles-r : goal.bounds-roles-r
bounds-roles-r c = omega (arith, shape c.args.words.now.s c.args.words.now.settings)

pub bounds-words-p : goal.bounds-words-p
bounds-words-p c = omega (arith, shape c.args.words.now.s c.args.words.now.settings)

pub returns-then-p-symbols : goal.returns-then-p-symbols
returns-then-p-symbols c =
    let s = c.args.words.now.s in
    let h = shape s c.args.words.now.settings in
    let role : c.if-r-sources.p ≡ role_of s c.args.roles.now c.args.r =
    elim c.if-r-sources.branch [
      | then-r-sources w ↦ w.p-is ∙ get_d_default c.args.roles.now c.args.r 0 16 (omega arith)
          ∙ role_row s c.args.roles.now c.args.r (omega arith)
      | else-r-sources w ↦ w.p-is ∙ role_past s c.args.roles.now c.args.r (omega arith)
    ] in
    source_inside s c.args.words.now.places.now c.if-r-sources.p (omega arith)
    ∙ ap (source_at s c.args.words.now.places.now) role

pub returns-else-p-symbols : goal.returns-else-p-symbols
returns-else-p-symbols c =
    let s = c.args.words.now.s in
    let h = shape s c.args.words.now.settings in
    let role : c.if-r-sources.p ≡ role_of s c.args.roles.now c.args.r =
    elim c.if-r-sources.branch [
      | then-r-sources w ↦ w.p-is ∙ get_d_default c.args.roles.now c.args.r 0 16 (omega arith)
          ∙ role_row s c.args.roles.now c.args.r (omega arith)
      | else-r-sources w ↦ w.p-is ∙ role_past s c.args.roles.now c.args.r (omega arith)
    ] in
    source_past s c.args.words.now.places.now c.if-r-sources.p (omega arith)
    ∙ ap (source_at s c.args.words.now.places.now) role
