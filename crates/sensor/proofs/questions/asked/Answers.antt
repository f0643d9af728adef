-- What the look into the table answers, in words.
use Rattle.std.proofs.Common.{rules}
use Rattle.sensor.specs.Questions.{asked_of}
use Rattle.sensor.proofs.Answered.{asked_exactly, asked_few}
use Rattle.sensor.proofs.questions.asked.Goals as goal

pub returns-in_err-kind-clause-exact : goal.returns-in_err-kind-clause-exact
unfolding asked_of
returns-in_err-kind-clause-exact c = asked_exactly c.args.channel c.args.index _ (search rules)

pub returns-clause-exact : goal.returns-clause-exact
unfolding asked_of
returns-clause-exact c = asked_exactly c.args.channel c.args.index _ (search rules)

pub returns-clause-few : goal.returns-clause-few
unfolding asked_of
returns-clause-few c = asked_few c.args.channel c.args.index _ (search rules)
