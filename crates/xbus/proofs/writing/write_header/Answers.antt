-- A length below 255 is one byte of the header, and any other is FF and two bytes.
use Rattle.std.proofs.Common.{rules}
use Rattle.xbus.proofs.Writes.{header_short, header_long}
use Rattle.xbus.proofs.writing.write_header.Goals as goal

pub returns-then-len-lt255-clause-bytes : goal.returns-then-len-lt255-clause-bytes
returns-then-len-lt255-clause-bytes c =
    header_short c.args.out.now c.args.header.address c.args.header.identifier c.args.len.len (search rules) c.if-len-lt255.true

pub returns-else-len-lt255-clause-bytes : goal.returns-else-len-lt255-clause-bytes
returns-else-len-lt255-clause-bytes c =
    header_long c.args.out.now c.put_number.new.out c.args.header.address c.args.header.identifier c.args.len.len
    (search rules) c.if-len-lt255.false c.put_number.ensures
