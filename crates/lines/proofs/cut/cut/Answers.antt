-- The text is cut where the search stops.
use Rattle.std.proofs.Common.{take, drop, ap, ◌∙◌}
use Rattle.lines.proofs.Cutting.{reach, take_before, drop_before}
use Rattle.lines.proofs.cut.cut.Goals as goal

pub returns : goal.returns
returns c =
    let r = c.unwrap_or.ensures ∙ reach c.args.stop c.args.text.now c.place_of.result c.place_of.ensures in
    record {
      front = c.split_at.ensures.front ∙ ap (λ n. take n c.args.text.now) r ∙ take_before c.args.stop c.args.text.now;
      back = c.split_at.ensures.back ∙ ap (λ n. drop n c.args.text.now) r ∙ drop_before c.args.stop c.args.text.now;
    }
