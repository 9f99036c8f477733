-- Each entry of the table from 1 on is the reciprocal of its number, by one test over the whole table.
use Rattle.galois.proofs.Arithmetic.{arithmetic}
use Rattle.galois.proofs.ByteField.{bytes}
use Rattle.galois.proofs.Tables.{inverts, inverts_from, reciprocal_table, reciprocals_listed}
use Rattle.gf256.proofs.reciprocals.Goals as goal

pub returns : goal.returns
unfolding reciprocal_table inverts_from inverts arithmetic
returns c =
    reciprocals_listed bytes _ tt
