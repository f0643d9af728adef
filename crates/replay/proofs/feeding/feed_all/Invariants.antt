-- The feeds so far all served a frame, and nothing has happened yet or the next feed cannot be refused.
use Rattle.std.proofs.Common.{◌≡◌, ◌≤◌, ◌⊎◌, ◌+◌, true, length}
use Rattle.stream.specs.Waiting.{held}
use Rattle.session.specs.Calls.{powered}
use Rattle.unit.specs.Units.{model_of}
use Rattle.replay.proofs.Running.{Running}
use Rattle.replay.proofs.feeding.feed_all.Given as goal

abbrev pub invariant-loop-fed : goal.invariant-loop-fed
invariant-loop-fed g l = record {
  running : Running 0 (model_of g.S.Store g.T.Sensor l.initial.device) (model_of g.S.Store g.T.Sensor l.device) l.bytes l.rest (length l.initial.tray) l.initial.feeds.items l.feeds.items l.initial.out.items l.out.items;
  first : ((l.device ≡ l.initial.device) × (l.tray ≡ l.initial.tray) × (l.feeds ≡ l.initial.feeds) × (l.out ≡ l.initial.out) × (l.rest ≡ l.bytes))
      ⊎ ((powered (model_of g.S.Store g.T.Sensor l.device) ≡ true) × (2055 ≤ length l.tray));
}

abbrev pub decreases-loop-fed : goal.decreases-loop-fed
decreases-loop-fed g l = length l.rest + length (held l.device.waiting)
