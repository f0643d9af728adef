-- The quotient is exact.
use Rattle.std.proofs.Common.{w64, rules}
use Rattle.std.proofs.lemmas.Int.{to_z-of_z}
use Rattle.numbers.proofs.Quotients.{divisor, scaled_is}
use Rattle.numbers.proofs.reading.Reading.scaled.Goals as goal

pub returns : goal.returns
returns c = rw (to_z-of_z w64 c.args.self.value (search rules), divisor) (scaled_is c.args.self.value c.args.self.ranged)
