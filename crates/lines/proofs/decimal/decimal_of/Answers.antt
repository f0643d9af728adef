-- The digits of a word, read to the end or to the first that fails.
use Rattle.std.proofs.Common.{sym, ◌∙◌, rules}
use Rattle.std.specs.Str.{all_ascii_digits}
use Rattle.std.proofs.lemmas.List.{nil_from_length, at_drop_all}
use Rattle.lines.specs.Decimals.{value_after}
use Rattle.lines.proofs.Numbers.{digit_fails, all_read, decimal_reads_back}
use Rattle.lines.proofs.decimal.decimal_of.Goals as goal

pub returns-then-is_empty : goal.returns-then-is_empty
returns-then-is_empty c =
    let e = nil_from_length c.args.word.now (search rules) in
    record { value = rw e; back = decimal_reads_back }

pub returns-in_err-n : goal.returns-in_err-n
returns-in_err-n c =
    let no = sym c.with_digit.ensures ∙ c.in_err-n.was in
    record {
      value = c.from_residual.ensures ∙ digit_fails c.args.word.now c.loop-c.c-index c.loop-c.n c.loop-c-test.true no c.loop-c.invariant.0 c.loop-c.invariant.1;
      back = decimal_reads_back;
    }

pub returns : goal.returns
returns c =
    let v = sym c.loop-c.invariant.0 ∙ at_drop_all (value_after c.loop-c.n) c.args.word.now c.loop-c.c-index c.loop-c-test.false in
    let d = sym c.loop-c.invariant.1 ∙ at_drop_all all_ascii_digits c.args.word.now c.loop-c.c-index c.loop-c-test.false in
    record {
      value = sym (all_read c.args.word.now c.loop-c.n (search rules) v d c.loop-c.invariant.2);
      back = decimal_reads_back;
    }
