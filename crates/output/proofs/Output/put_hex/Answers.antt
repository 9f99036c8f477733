-- Two digits, with a zero before a lone one.
use Rattle.std.proofs.Common.{false, arith}
use Rattle.std.proofs.lemmas.Fmt.{hex_byte}
use Rattle.output.proofs.Output.put_hex.Goals as goal

pub returns-then-is_ok-clause-written : goal.returns-then-is_ok-clause-written
returns-then-is_ok-clause-written g c =
    let told = rw (c.laid_out.ensures, c.in_radix.ensures) at c.write-self.ensures.bytes in
    rw (hex_byte false c.args.byte (omega arith)) at told
