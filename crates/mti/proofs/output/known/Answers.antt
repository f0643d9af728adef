-- No channel, no precision, and both: each answer is what the identifier names, with its theorems.
use Rattle.std.proofs.Common.{rules, arith}
use Rattle.std.proofs.lemmas.Grind.{common_steps}
use Rattle.mti.proofs.Named.{known_exactly, answer_bounded}
use Rattle.mti.proofs.output.known.Goals as goal

pub returns-in_err-channel-clause-exact : goal.returns-in_err-channel-clause-exact
returns-in_err-channel-clause-exact c = known_exactly c.args.identifier _ (search rules)

pub returns-in_err-precision-clause-exact : goal.returns-in_err-precision-clause-exact
returns-in_err-precision-clause-exact c = known_exactly c.args.identifier _ (search rules)

pub returns-clause-exact : goal.returns-clause-exact
returns-clause-exact c = known_exactly c.args.identifier _ (grind (arith, common_steps))

pub returns-clause-bounded : goal.returns-clause-bounded
returns-clause-bounded c = answer_bounded c.args.identifier _ (grind (arith, common_steps))
