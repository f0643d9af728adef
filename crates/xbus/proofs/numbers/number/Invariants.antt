-- The number so far is that of the bytes gone through, modulo 2^64.
use Rattle.std.proofs.Common.{◌≡◌, ◌%◌, ◌^◌, take}
use Rattle.xbus.specs.Numbers.{number_of}
use Rattle.xbus.proofs.numbers.number.Given as goal

abbrev pub invariant-loop-byte : goal.invariant-loop-byte
invariant-loop-byte l = l.n ≡ number_of (take l.byte-index l.bytes) % 2 ^ 64
