-- The L bytes at the position are those of all lanes there.
use native.Mathlib.Omega.{arith}
use Rattle.code.proofs.Shape.{shape}
use Rattle.shares.proofs.Shares.{part_table}
use Rattle.shares.proofs.codewords.Codewords.symbol.Goals as goal

pub offset_bounds-self-p : goal.offset_bounds-self-p
offset_bounds-self-p c = omega (arith, shape c.args.self.now.s c.args.self.now.settings)

pub bounds-self-p : goal.bounds-self-p
bounds-self-p c = omega (arith, shape c.args.self.now.s c.args.self.now.settings)

pub returns : goal.returns
returns c =
    let words = c.args.self.now in
    part_table words.s words.places.now words.bytes.now c.args.p c.requires (words.inside c.args.p c.requires)
