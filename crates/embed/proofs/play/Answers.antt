-- Calls on until one is refused or none is left.
use Rattle.std.proofs.Common.{◌≡◌, ◌+◌, ◌-◌, length, arith, rules}
use Rattle.unit.specs.Units.{model_of}
use Rattle.embed.specs.Scripts.{call_of, calls_of}
use Rattle.embed.specs.Playing.{memory_of}
use Rattle.embed.proofs.Reading.{calls_none, calls_some}
use Rattle.embed.proofs.Running.{running_none, running_more, running_refused, running_ends, accepted_front, refused_front, rest_length}
use Rattle.embed.proofs.play.Goals as goal

pub loop-step-init : goal.loop-step-init
loop-step-init g c = record {
  fits = omega arith;
  running = running_none g.S.Store.overwritten (model_of g.S.Store g.T.Sensor c.args.device.now) (calls_of c.args.script.now) (length c.args.out.now)
      (memory_of g.S.Store c.args.device.now);
  few = omega arith;
}

pub returns-in-Err-clause-played : goal.returns-in-Err-clause-played
returns-in-Err-clause-played g c =
    running_refused c.loop-step.invariant.running (call_of c.in-Some.step) (calls_of c.in-Some.behind.now)
    (calls_some c.loop-step.rest.now (call_of c.in-Some.step, c.in-Some.behind.now) c.in-Some.ensures.first)
    (omega (arith, rest_length c.loop-step.written c.loop-step.out))
    c.call.ensures.called _
    (refused_front c.loop-step.written (length c.loop-step.out - c.loop-step.written) c.loop-step.out c.call.new.tray c.call.result c.in-Err.refusal c.in-Err.is c.loop-step.invariant.fits)
    c.in-Err.refusal c.in-Err.is

pub loop-step-preserved : goal.loop-step-preserved
loop-step-preserved g c =
    let one : c.saturating_add-calls.result ≡ c.loop-step.calls + 1 = omega arith in
    record {
      fits = search rules;
      running =
          running_more c.loop-step.invariant.running (call_of c.in-Some.step) (calls_of c.in-Some.behind.now)
          (calls_some c.loop-step.rest.now (call_of c.in-Some.step, c.in-Some.behind.now) c.in-Some.ensures.first)
          (omega (arith, rest_length c.loop-step.written c.loop-step.out))
          c.call.ensures.called _
          (accepted_front c.loop-step.written (length c.loop-step.out - c.loop-step.written) c.loop-step.out c.call.new.tray c.call.result c.in-Ok.count c.in-Ok.is c.loop-step.invariant.fits c.in-Ok.ensures.room)
          c.in-Ok.count c.saturating_add-calls.result c.in-Ok.is one;
      few = omega (arith, c.in-Some.ensures.shorter);
    }

pub returns-clause-played : goal.returns-clause-played
returns-clause-played g c =
    running_ends c.loop-step.invariant.running (calls_none c.loop-step.rest.now (search rules))
