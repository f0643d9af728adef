-- What a unit makes itself, by the identifier; the rest is measured.
use Rattle.std.proofs.Common.{length, sym, subst, rules}
use Rattle.samples.specs.Filling.{Fills}
use Rattle.samples.proofs.Outputs.{sends_status, counter, fine_time, coarse_time, status_byte, no_status, others}
use Rattle.samples.proofs.data.put_data.Goals as goal
use Rattle.samples.proofs.data.put_data.Goals.{in-4128, in-4192, in-4208, in-57360+in_ok-value-in-57360}

pub whole-requires : goal.whole-requires
whole-requires g c = sends_status

pub returns-in_err-value-in-57360-clause-is : goal.returns-in_err-value-in-57360-clause-is
returns-in_err-value-in-57360-clause-is g c =
    rw c.from_residual.ensures
    (no_status (g.T.Sensor.meaning c.args.sensor.now) c.args.counts.now c.args.output c.in-57360.is c.in_err-value-in-57360.ensures.is)

pub returns-in_default-clause-is : goal.returns-in_default-clause-is
returns-in_default-clause-is g c =
    let e = others (g.T.Sensor.meaning c.args.sensor.now) c.args.counts.now c.args.output (search rules) (search rules) (search rules) (search rules) in
    subst (λ d. Fills d c.put_measured.result c.put_measured.new.out) (sym e) c.put_measured.ensures.is

pub returns-clause-is : goal.returns-clause-is
returns-clause-is g c =
    let f = g.T.Sensor.meaning c.args.sensor.now in
    let n = c.args.counts.now in
    let o = c.args.output in
    let u = c.match-output.value in
    let len = length c.args.out.now in
    elim c.match-output.branch [
      | in-4128 w ↦ counter f n o c.requires.row len c.put_number.new.out c.requires.size u w.in-4128.is (search rules) c.put_number.ensures
      | in-4192 w ↦ fine_time f n o c.requires.row len c.put_number.new.out c.requires.size u w.in-4192.is (search rules) c.put_number.ensures
      | in-4208 w ↦ coarse_time f n o c.requires.row len c.put_number.new.out c.requires.size u w.in-4208.is (search rules) c.put_number.ensures
      | in-57360+in_ok-value-in-57360 w ↦
          status_byte f n o c.requires.row len c.put_number.new.out c.requires.size u w.in_ok-value-in-57360.value w.in-57360.is w.value-is
          w.in_ok-value-in-57360.ensures.is c.put_number.ensures
    ]
