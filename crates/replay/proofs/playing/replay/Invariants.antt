-- The calls so far were played.
use Rattle.std.proofs.Common.{take}
use Rattle.unit.specs.Units.{model_of, world_of}
use Rattle.replay.specs.Replayed.{Played}
use Rattle.replay.proofs.playing.replay.Given as goal

abbrev pub invariant-loop-call : goal.invariant-loop-call
invariant-loop-call g l =
    Played (world_of g.S.Store g.T.Sensor l.fn.product l.fn.device_id l.fn.store l.fn.sensor) (take l.call-index l.calls) l.answers.items l.output.items (model_of g.S.Store g.T.Sensor l.device)
