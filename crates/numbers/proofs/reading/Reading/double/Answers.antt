-- The double is no NaN, and its bits are the code.
use Rattle.std.proofs.Common.{ap}
use lib.Ieee.{binary64, to_bits}
use Rattle.numbers.specs.Encoding.{code_of}
use Rattle.numbers.proofs.Quotients.{rounded_number}
use Rattle.numbers.proofs.reading.Reading.double.Goals as goal

pub float_to_bits-result : goal.float_to_bits-result
float_to_bits-result c = rw c.scaled.ensures (rounded_number binary64 _)

pub returns : goal.returns
unfolding code_of
returns c = ap (to_bits binary64) c.scaled.ensures
