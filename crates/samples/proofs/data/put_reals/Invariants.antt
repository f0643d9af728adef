-- The real numbers at the indices so far stand in front, and the sensor means the same.
use Rattle.std.proofs.Common.{◌≡◌, ◌*◌, take, Some}
use Rattle.mti.specs.Precisions.{width_of}
use Rattle.session.specs.Sampling.{reals_from}
use Rattle.samples.proofs.data.put_reals.Given as goal

abbrev pub invariant-loop-index : goal.invariant-loop-index
invariant-loop-index g l =
    record {
      at : l.at ≡ l.index * width_of l.output.precision;
      there : reals_from (λ k. g.T.Sensor.meaning l.initial.sensor l.output.channel.identifier k l.tick) l.output.precision 0 l.index ≡ Some (take l.at l.out);
      stays : g.T.Sensor.meaning l.sensor ≡ g.T.Sensor.meaning l.initial.sensor;
    }
