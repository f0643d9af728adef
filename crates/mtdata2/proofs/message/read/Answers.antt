-- What is read is the reading of the frame and its packets, and it is as the words say.
use Rattle.xbus.proofs.Bytes.{bytes_typed}
use Rattle.mtdata2.specs.Reading.{parts}
use Rattle.mtdata2.proofs.Firsts.{read_said}
use Rattle.mtdata2.proofs.Runs.{read_is}
use Rattle.mtdata2.proofs.message.read.Goals as goal

pub returns : goal.returns
returns c =
    let xs = c.args.input.now in
    record {
      value = read_is (parts c.in_ok-body.body) xs c.in_ok-body.ensures c.in_ok-check_packets.ensures;
      said = read_said xs (bytes_typed xs c.type_inv.input);
    }

pub returns-in_err-body-clause-said : goal.returns-in_err-body-clause-said
returns-in_err-body-clause-said c = let xs = c.args.input.now in read_said xs (bytes_typed xs c.type_inv.input)

pub returns-in_err-check_packets-clause-said : goal.returns-in_err-check_packets-clause-said
returns-in_err-check_packets-clause-said c = let xs = c.args.input.now in read_said xs (bytes_typed xs c.type_inv.input)
