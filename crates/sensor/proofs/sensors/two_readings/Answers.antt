-- Each answer is what the sensor meant before the first question, and in range.
use Rattle.std.proofs.Common.{sym, subst, rules}
use Rattle.sensor.specs.Ranges.{InRange}
use Rattle.sensor.proofs.sensors.two_readings.Goals as goal

pub returns-clause-range : goal.returns-clause-range
returns-clause-range g c =
    let one = c.args.first in
    let other = c.args.second in (
      subst (InRange one.channel one.index) (sym c.reading-one.ensures.answer) (c.reading-one.ensures.range.in_range _ _ _ (search rules)),
      subst (InRange other.channel other.index) (sym c.reading-other.ensures.answer) (c.reading-other.ensures.range.in_range _ _ _ (search rules)),
    )
