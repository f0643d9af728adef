-- Each byte is the lowest of the rest, and all of them turned round are the number's bytes.
use Rattle.std.proofs.Common.{ap, ◌∙◌, arith}
use Rattle.xbus.specs.Numbers.{be}
use Rattle.xbus.proofs.Widths.{written_none, written_more, written_all}
use Rattle.xbus.proofs.numbers.put_bytewise.Goals as goal

pub loop-byte-init : goal.loop-byte-init
loop-byte-init c = written_none c.args.value c.args.out.now

pub loop-byte-preserved : goal.loop-byte-preserved
loop-byte-preserved c =
    written_more c.args.value c.loop-byte.byte-index c.loop-byte.out c.loop-byte.rest (omega arith) c.loop-byte.invariant

pub returns : goal.returns
returns c =
    c.reverse.ensures.after
    ∙ written_all c.args.value c.loop-byte.byte-index c.loop-byte.out c.loop-byte.rest (omega arith) c.loop-byte.invariant
    ∙ ap (λ n. be n c.args.value) c.loop-byte.auto.out
