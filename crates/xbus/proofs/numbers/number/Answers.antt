-- Each byte makes the number 256 times as large and is added; bytes and numbers give each other back.
use Rattle.std.proofs.Common.{arith, rules}
use Rattle.xbus.proofs.Widths.{number_more, inverse}
use Rattle.xbus.proofs.numbers.number.Goals as goal

pub loop-byte-preserved : goal.loop-byte-preserved
loop-byte-preserved c = omega (arith, number_more c.args.bytes.now c.loop-byte.byte-index (search rules))

pub returns-clause-inverse : goal.returns-clause-inverse
returns-clause-inverse c = inverse
