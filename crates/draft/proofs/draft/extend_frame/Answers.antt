-- The data in their new place and the packet behind them are the data of the frame that is sealed.
use Rattle.std.proofs.Common.{arith, rules}
use Rattle.mtdata2.specs.Packets.{item_of, packet_bytes}
use Rattle.draft.proofs.Extends.{sealed_extended}
use Rattle.draft.proofs.draft.extend_frame.Goals as goal

pub returns : goal.returns
returns c =
    let p = packet_bytes (item_of c.args.identifier c.args.content.now) in
    sealed_extended c.args.frame.now c.shift.new.frame p c.put_packet.new.out c.seal_frame.new.frame
    _ _ c.args.have.len c.args.more.len c.seal_frame.result
    c.args.more.most (omega (arith, c.requires.1.0)) c.put_packet.ensures c.requires.1.1 (search rules) (search rules)
    c.shift.ensures.bytes c.shift.ensures.size c.seal_frame.ensures.value c.seal_frame.ensures.bytes
