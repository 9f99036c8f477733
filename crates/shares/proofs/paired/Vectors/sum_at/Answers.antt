-- What the struct holds is what the sum asks.
use Rattle.shares.proofs.paired.Vectors.sum_at.Goals as goal

pub sum_at-requires : goal.sum_at-requires
sum_at-requires c =
    let vectors = c.args.self.now in
    (vectors.words.settings, vectors.paired, c.requires)
