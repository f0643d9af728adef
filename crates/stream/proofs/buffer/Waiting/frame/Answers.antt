-- The whole frame that is noted is split at its size, and where none is noted none stands at the front.
use Rattle.std.proofs.Common.{◌∙◌, rules}
use Rattle.std.proofs.Math.Nat.{sub-zero}
use Rattle.stream.proofs.Holds.{parts_some, parts_none}
use Rattle.stream.proofs.buffer.Waiting.frame.Goals as goal

pub returns-in-Some : goal.returns-in-Some
returns-in-Some c =
    parts_some c.args.self.now c.in-Some.size _ c.in-Some.is (c.split_frame.ensures ∙ search sub-zero)

pub returns-in-None : goal.returns-in-None
returns-in-None c = search (rules, parts_none c.args.self.now c.in-None.is)
