-- Each arm answers the precision of its digit, and of no other.
use Rattle.std.proofs.Common.{rules}
use Rattle.mti.proofs.Digits.{digit_exactly}
use Rattle.mti.proofs.precision.PrecisionTryFromU16.try_from.Goals as goal

pub returns-in-0-clause-exact : goal.returns-in-0-clause-exact
returns-in-0-clause-exact c = digit_exactly c.args.digit _ (search rules)

pub returns-in-1-clause-exact : goal.returns-in-1-clause-exact
returns-in-1-clause-exact c = digit_exactly c.args.digit _ (search rules)

pub returns-in-2-clause-exact : goal.returns-in-2-clause-exact
returns-in-2-clause-exact c = digit_exactly c.args.digit _ (search rules)

pub returns-in-3-clause-exact : goal.returns-in-3-clause-exact
returns-in-3-clause-exact c = digit_exactly c.args.digit _ (search rules)
