-- The bytes are printed one by one, and where one is not, those in front of it are.
use Rattle.std.proofs.Common.{◌++◌, string_bytes, ap, ◌∙◌}
use Rattle.std.proofs.lemmas.List.{take_all}
use Rattle.std.proofs.lemmas.Result.{MatchResult-from_err}
use Rattle.lines.specs.Bytes.{printed}
use Rattle.lines.proofs.Printing.{reads_back, command_reads_back}
use Rattle.lines.proofs.print.push_bytes.Goals as goal

pub returns-in_err-push_byte : goal.returns-in_err-push_byte
returns-in_err-push_byte c = record {
  value = MatchResult-from_err c.from_residual.result _ _ c.from_residual.ensures.0
      (λ _. record { count = c.loop-byte.byte-index; fewer = c.loop-byte-test.true; is = c.in_err-push_byte.ensures ∙ c.loop-byte.invariant });
  back = reads_back;
  command = command_reads_back;
}

pub returns : goal.returns
returns c = record {
  value = c.loop-byte.invariant ∙ ap (λ l. string_bytes c.args.out.now ++ printed l) (take_all c.loop-byte.byte-index c.args.bytes.now c.loop-byte-test.false);
  back = reads_back;
  command = command_reads_back;
}
