-- The bytes so far are the lowest of the number, the lowest first, and the rest stands for the others.
use Rattle.xbus.proofs.Widths.{Written}
use Rattle.xbus.proofs.numbers.put_bytewise.Given as goal

abbrev pub invariant-loop-byte : goal.invariant-loop-byte
invariant-loop-byte l = Written l.value l.byte-index l.out l.rest
