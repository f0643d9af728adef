-- What is left decides the answer, and grows shorter.
use Rattle.std.proofs.Common.{◌≡◌, ◌-◌, ◌≤◌, length}
use Rattle.mtdata2.specs.Packets.{packets_from, done}
use Rattle.mtdata2.proofs.packet.check_packets.Given as goal

abbrev pub invariant-loop-rest : goal.invariant-loop-rest
invariant-loop-rest l =
    (length l.rest ≤ length l.content) ×
    (done (packets_from (length l.rest) (l.end - length l.rest) l.rest) ≡ done (packets_from (length l.content) l.start l.content))

abbrev pub decreases-loop-rest : goal.decreases-loop-rest
decreases-loop-rest l = length l.rest
