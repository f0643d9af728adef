-- The shift rounds down.
use Rattle.std.proofs.Common.{rules}
use Rattle.numbers.specs.Steps.{steps}
use Rattle.numbers.proofs.reading.Reading.steps.Goals as goal

pub returns : goal.returns
unfolding steps
returns c = search rules
