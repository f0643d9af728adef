-- A line that ends in a carriage return is cut in front of it, and any other stays.
use Rattle.std.proofs.Common.{ap, ◌∙◌}
use Rattle.lines.proofs.LineParts.{stripped}
use Rattle.lines.proofs.text.without_return.Goals as goal

pub returns : goal.returns
returns c = ap (λ s. s.now) c.unwrap_or.ensures ∙ stripped c.args.line c.strip_suffix.result c.strip_suffix.ensures.cases
