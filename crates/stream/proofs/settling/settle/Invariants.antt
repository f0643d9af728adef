-- The starts so far begin no frame.
use Rattle.stream.proofs.Settles.{Reached}
use Rattle.stream.proofs.settling.settle.Given as goal

-- the bytes before `start` are to be dropped
abbrev pub invariant-loop-start : goal.invariant-loop-start
invariant-loop-start l = Reached l.bytes l.start
