-- The draft holds the packets of the entries so far, and the sensor means the same.
use Rattle.std.proofs.Common.{◌≡◌, take}
use Rattle.draft.specs.Composed.{Holding}
use Rattle.session.specs.Sampling.{packets}
use Rattle.samples.proofs.message.write_sample.Given as goal

abbrev pub invariant-loop-entry : goal.invariant-loop-entry
invariant-loop-entry g l = record {
  holds : Holding (packets (g.T.Sensor.meaning l.initial.sensor) l.counts (take l.entry-index l.entry-items)) l.tray l.draft;
  start : l.draft.extent.start ≡ 0;
  lends : l.draft.mark.ghost_name ≡ l.initial.draft.mark.ghost_name;
  stays : g.T.Sensor.meaning l.sensor ≡ g.T.Sensor.meaning l.initial.sensor;
}
