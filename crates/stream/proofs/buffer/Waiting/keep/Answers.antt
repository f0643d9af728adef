-- What is settled moves to the front, so that a whole frame of the size noted stands there, or the rest waits.
use Rattle.std.proofs.Common.{◌∙◌, arith, rules}
use Rattle.stream.proofs.Keeps.{kept, kept_front, kept_waits}
use Rattle.stream.proofs.buffer.Waiting.keep.Goals as goal

pub invariant_of-self : goal.invariant_of-self
invariant_of-self c = record {
  size = c.move_to_front.ensures.size ∙ c.args.self.now.size;
  fits = omega arith;
  front =
      kept_front c.args.self.now.bytes c.move_to_front.new.bytes c.args.from c.args.end c.settle-found.result.dropped
      (search rules) (search rules) c.settle-found.ensures.dropped c.move_to_front.ensures.bytes
      c.settle-found.result.whole c.settle-found.ensures.whole;
  waits =
      kept_waits c.args.self.now.bytes c.move_to_front.new.bytes c.args.from c.args.end c.settle-found.result.dropped
      (search rules) (search rules) c.settle-found.ensures.dropped c.move_to_front.ensures.bytes
      c.settle-found.result.whole c.settle-found.ensures.whole
      c.waits_until-self.result c.move_to_front.ensures.size c.waits_until-self.ensures;
}

pub returns : goal.returns
returns c =
    kept c.args.self.now.bytes c.move_to_front.new.bytes c.args.from c.args.end c.settle-found.result.dropped
    (search rules) (search rules) c.settle-found.ensures.dropped c.move_to_front.ensures.bytes
