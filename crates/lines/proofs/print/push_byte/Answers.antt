-- A space and two digits are text, in whatever order they stand.
use Rattle.std.proofs.Common.{arith, rules}
use Rattle.lines.proofs.Printing.{digits_ascii, three_text, text_is_read}
use Rattle.lines.proofs.print.push_byte.Goals as goal

pub unwrap-requires : goal.unwrap-requires
unwrap-requires c =
    let d = digits_ascii c.digits.result c.args.byte (search rules) c.digits.ensures.value in
    text_is_read _ _ c.from_utf8.result c.from_utf8.ensures.cases (three_text _ _ _ (omega arith) (omega arith) (omega arith))
