-- The first line and the rest of a text.
use Rattle.std.proofs.Common.{Some, ap, ◌∙◌, rules}
use Rattle.lines.proofs.LineParts.{feed_off, line_cases, lines_cases, line_is}
use Rattle.lines.proofs.text.next_line.Goals as goal

pub returns : goal.returns
returns c =
    let rest = ap (λ s. s.now) c.unwrap_or-rest.ensures ∙ feed_off c.args.text.now c.cut.result.1 c.strip_prefix.result c.cut.ensures.back c.strip_prefix.ensures.cases in
    let v = line_is c.args.text.now c.without_return.result c.unwrap_or-rest.result (search rules) (search rules) rest in
    record {
      value = v;
      parts = line_cases (Some (c.without_return.result, c.unwrap_or-rest.result)) c.args.text.now v;
      lines = lines_cases (Some (c.without_return.result, c.unwrap_or-rest.result)) c.args.text.now v;
    }
