-- Each byte adds itself to the sum.
use Rattle.std.proofs.Common.{arith, rules, below_more}
use Rattle.xbus.proofs.Bytes.{bytes_all}
use Rattle.xbus.proofs.Totals.{total_more}
use Rattle.xbus.proofs.front.sum.Goals as goal

pub loop-byte-preserved : goal.loop-byte-preserved
loop-byte-preserved c = (
  omega (arith, total_more c.args.part.now c.loop-byte.byte-index (search rules)),
  below_more _ _ c.loop-byte.invariant.1 (omega arith),
)

pub returns-clause-bytes : goal.returns-clause-bytes
returns-clause-bytes c = bytes_all c.args.part.now (λ k h. c.loop-byte.invariant.1 k (search rules))
