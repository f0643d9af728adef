-- The calls so far were accepted, and wrote to the front of `out`.
use Rattle.std.proofs.Common.{◌≤◌, ◌+◌, length, take}
use Rattle.unit.specs.Units.{model_of}
use Rattle.embed.specs.Scripts.{calls_of}
use Rattle.embed.specs.Playing.{memory_of}
use Rattle.embed.proofs.Running.{Running}
use Rattle.embed.proofs.play.Given as goal

abbrev pub invariant-loop-step : goal.invariant-loop-step
invariant-loop-step g l = record {
  fits : l.written ≤ length l.out;
  running : Running g.S.Store.overwritten (model_of g.S.Store g.T.Sensor l.initial.device) (model_of g.S.Store g.T.Sensor l.device)
      (calls_of l.fn.script) (calls_of l.rest) (length l.initial.out) l.written (take l.written l.out) l.calls
      (memory_of g.S.Store l.initial.device) (memory_of g.S.Store l.device);
  few : l.calls + length l.rest ≤ length l.fn.script;
}

abbrev pub decreases-loop-step : goal.decreases-loop-step
decreases-loop-step g l = length l.rest
