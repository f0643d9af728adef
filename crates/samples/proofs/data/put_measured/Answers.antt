-- A whole number in as many bytes as its channel sends.
use Rattle.samples.proofs.Outputs.{whole_measured}
use Rattle.samples.proofs.data.put_measured.Goals as goal

pub returns-in_ok-value-in-Whole-clause-is : goal.returns-in_ok-value-in-Whole-clause-is
returns-in_ok-value-in-Whole-clause-is g c =
    whole_measured (λ k. g.T.Sensor.meaning c.args.sensor.now c.args.output.channel.identifier k c.args.tick) c.args.output.precision
    c.args.output.channel.kind c.in-Whole.field-0 c.in_ok-value-in-Whole.value _ c.put_number.new.out
    c.in-Whole.is c.in_ok-value-in-Whole.ensures.is c.requires.size c.put_number.ensures
