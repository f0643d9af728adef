-- A packet that is cut off leaves less, and the answer for all is that for what is left.
use Rattle.std.proofs.Common.{◌∙◌, ◌+◌, ◌-◌, length, arith}
use Rattle.mtdata2.proofs.Runs.{cut_less, stepped}
use Rattle.mtdata2.proofs.packet.check_packets.Goals as goal

pub loop-rest-preserved : goal.loop-rest-preserved
loop-rest-preserved c =
    let end = c.args.start + length c.args.content.now in
    let e = c.in_ok-rest.ensures in
    let h = c.loop-rest.invariant in
    let s = cut_less (end - length c.loop-rest.rest.now) c.loop-rest.rest.now c.in_ok-rest.field-0-1.now e in
    (omega arith, stepped end c.loop-rest.rest.now c.in_ok-rest.field-0-1.now (omega arith) e ∙ h.1)
