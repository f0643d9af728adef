-- The front that is computed, in the words of the protocol.
use Rattle.xbus.proofs.Bytes.{bytes_typed}
use Rattle.xbus.proofs.Cases.{front_said}
use Rattle.xbus.proofs.front.at_front.Goals as goal

pub returns-clause-said : goal.returns-clause-said
returns-clause-said c = front_said c.args.bytes.now (bytes_typed c.args.bytes.now c.type_inv.bytes)
