-- The bytes so far were taken.
use Rattle.stream.specs.Waiting.{held}
use Rattle.unit.proofs.Fills.{Taken}
use Rattle.unit.proofs.filling.fill.Given as goal

abbrev pub invariant-loop-taken : goal.invariant-loop-taken
invariant-loop-taken l = record {
  taken : Taken (held l.initial.waiting) l.bytes l.taken (held l.waiting);
}
