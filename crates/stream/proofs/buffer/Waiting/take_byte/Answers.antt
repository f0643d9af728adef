-- A byte with which the start still waits is stored; no byte is taken while a whole frame waits, and where nothing waits
-- only one that begins a frame.
use Rattle.std.proofs.Common.{is_some, sym, ap, ◌∙◌, arith}
use Rattle.std.proofs.Math.ListN.{length-set}
use Rattle.stream.specs.Waiting.{held}
use Rattle.stream.proofs.Holds.{few_none, room_more, more_front, still_waits, more_held, taking_some, taking_none, took_byte, took_none}
use Rattle.stream.proofs.buffer.Waiting.take_byte.Goals as goal

pub bounds-self-self : goal.bounds-self-self
bounds-self-self c = room_more c.args.self.now (few_none c.args.self.now (omega arith))

pub invariant_of-self : goal.invariant_of-self
invariant_of-self c =
    let w = c.args.self.now in
    let none = few_none w (omega arith) in
    record {
      size = length-set w.bytes w.len c.args.byte ∙ w.size;
      fits = omega (arith, room_more w none);
      front = more_front w c.args.byte none c.if-end-self.true;
      waits = still_waits w c.args.byte none;
    }

pub returns-then-end-self : goal.returns-then-end-self
returns-then-end-self c =
    let w = c.args.self.now in
    let none = few_none w (omega arith) in
    let waits = sym (ap is_some none) in
    record {
      value = taking_none w waits;
      after = took_byte w c.args.byte _ waits (more_held w c.args.byte none c.if-end-self.true);
    }

pub returns-then-is_some-clause-value : goal.returns-then-is_some-clause-value
returns-then-is_some-clause-value c = taking_some c.args.self.now c.if-is_some.ensures

pub returns-then-self-gt0 : goal.returns-then-self-gt0
returns-then-self-gt0 c = record {
  value = taking_none c.args.self.now c.if-is_some.ensures;
  after = took_byte c.args.self.now c.args.byte (held c.push.new.self) c.if-is_some.ensures c.push.ensures;
}

pub returns-else-byte-eq-START-clause-value : goal.returns-else-byte-eq-START-clause-value
returns-else-byte-eq-START-clause-value c = taking_none c.args.self.now c.if-is_some.ensures

pub returns-else-byte-eq-START-clause-after : goal.returns-else-byte-eq-START-clause-after
returns-else-byte-eq-START-clause-after c =
    took_none c.args.self.now c.args.byte (omega arith) c.if-byte-eq-START.false
