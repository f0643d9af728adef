-- The packet that is cut off is the first of those that are handed out.
use Rattle.std.proofs.Common.{◌≡◌, rules}
use Rattle.std.specs.Option.{option_map}
use Rattle.mtdata2.specs.Packets.{cut_seen, ok_of, cut_of}
use Rattle.mtdata2.proofs.Runs.{hands_cases}
use Rattle.mtdata2.proofs.packet.next_packet.Goals as goal

pub returns : goal.returns
returns c =
    let v : option_map cut_seen c.ok.result ≡ ok_of (cut_of 0 c.args.rest.now) = search rules in
    record { value = v; hands = hands_cases c.ok.result c.args.rest.now v }
