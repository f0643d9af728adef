-- The frame at the front lies within the bytes held, and those behind it are settled.
use Rattle.stream.specs.Waiting.{held}
use Rattle.stream.proofs.Holds.{whole_within, passed_some}
use Rattle.stream.proofs.buffer.Waiting.pass.Goals as goal

pub keep-requires : goal.keep-requires
keep-requires c = (whole_within c.args.self.now c.in-Some.size c.in-Some.is, c.args.self.now.fits)

pub returns-in-Some : goal.returns-in-Some
returns-in-Some c = passed_some c.args.self.now c.in-Some.size (held c.keep.new.self) c.in-Some.is c.keep.ensures
