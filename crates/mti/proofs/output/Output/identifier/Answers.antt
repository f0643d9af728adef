-- The identifier as defined; of what is known, the one that it is known by.
use Rattle.std.proofs.Common.{arith}
use Rattle.mti.proofs.Named.{known_identifier}
use Rattle.mti.proofs.output.Output.identifier.Goals as goal

pub returns : goal.returns
returns c = record {
  is = omega (arith, c.digit.ensures);
  back = λ i k. omega (arith, c.digit.ensures, known_identifier i c.args.self.now k);
}
