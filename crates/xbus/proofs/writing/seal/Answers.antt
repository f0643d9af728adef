-- The header in front of the data, and behind them the byte that brings the sum to 0.
use Rattle.xbus.proofs.Writes.{sealed_frame}
use Rattle.xbus.proofs.writing.seal.Goals as goal

pub returns : goal.returns
returns c =
    let h = c.write_header.ensures in
    sealed_frame c.args.frame.now c.write_header.new.out c.args.header.address c.args.header.identifier
    c.content_start.result c.args.len.len c.sum.result h.bytes h.rest c.content_start.ensures
    c.requires c.write_header.auto.out c.sum.ensures.value
