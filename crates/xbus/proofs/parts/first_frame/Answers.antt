-- No parts where no whole frame stands in front; parts and frames give each other back.
use Rattle.xbus.proofs.Splits.{split_none, parts_inverse}
use Rattle.xbus.proofs.parts.first_frame.Goals as goal

pub returns-in-Whole-clause-inverse : goal.returns-in-Whole-clause-inverse
returns-in-Whole-clause-inverse c = parts_inverse

pub returns-in_default : goal.returns-in_default
returns-in_default c = record {
  value = split_none c.args.bytes.now c.at_front.result c.at_front.ensures.value c.in_default.not-Whole;
  inverse = parts_inverse;
}
