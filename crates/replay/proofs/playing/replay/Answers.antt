-- A unit is made, and the calls are played on it one by one.
use Rattle.unit.specs.Units.{model_of, world_of}
use Rattle.replay.proofs.Plays.{played_none, played_more}
use Rattle.replay.proofs.playing.replay.Goals as goal

pub loop-call-init : goal.loop-call-init
loop-call-init g c =
    played_none (world_of g.S.Store g.T.Sensor c.args.product c.args.device_id c.args.store c.args.sensor) (model_of g.S.Store g.T.Sensor c.new-device.result)
    c.new-answers.result.items c.new-output.result.items c.new-device.ensures.history c.new-device.ensures.lawful c.new-answers.ensures.items c.new-output.ensures.items

pub loop-call-preserved : goal.loop-call-preserved
loop-call-preserved g c =
    played_more (world_of g.S.Store g.T.Sensor c.args.product c.args.device_id c.args.store c.args.sensor) c.args.calls.now c.loop-call.call-index _
    c.loop-call-test.true c.loop-call.invariant c.in_ok-play_call.ensures
