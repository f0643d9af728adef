-- What is kept of the bytes with one more is what they settle to.
use Rattle.stream.specs.Waiting.{held}
use Rattle.stream.proofs.Holds.{more_kept}
use Rattle.stream.proofs.buffer.Waiting.push.Goals as goal

pub returns : goal.returns
returns c = more_kept c.args.self.now c.args.byte (held c.keep.new.self) c.requires c.keep.ensures
