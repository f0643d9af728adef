-- The size of what is known is exact.
use Rattle.std.proofs.Common.{rules}
use Rattle.mti.proofs.Named.{size_exactly}
use Rattle.mti.proofs.output.data_size.Goals as goal

pub returns-clause-exact : goal.returns-clause-exact
returns-clause-exact c = size_exactly c.args.identifier _ (search rules)
