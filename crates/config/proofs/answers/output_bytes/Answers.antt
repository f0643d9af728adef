-- Each entry follows those before it.
use Rattle.std.proofs.Common.{rules, arith}
use Rattle.config.proofs.Sizes.{written_more}
use Rattle.config.proofs.answers.output_bytes.Goals as goal

pub loop-i-preserved : goal.loop-i-preserved
loop-i-preserved c = record {
  places = search rules;
  written =
      written_more c.args.entries.now c.loop-i.i c.loop-i.out c.entry_bytes.result (omega arith) (omega arith) c.loop-i.invariant.written
      c.entry_bytes.ensures;
}
