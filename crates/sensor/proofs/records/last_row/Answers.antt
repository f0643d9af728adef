-- The first row that counts, from the end, is the last.
use Rattle.std.proofs.Common.{◌∙◌, rules, tests}
use Rattle.std.proofs.lemmas.Iterator.Adapters.{YieldsList-from_rev_slice}
use Rattle.std.proofs.lemmas.Iterator.Search.{find_from_yields_List}
use Rattle.sensor.specs.Records.{counts_at}
use Rattle.sensor.proofs.Lasts.{last_from_end}
use Rattle.sensor.proofs.records.last_row.Goals as goal

pub returns : goal.returns
returns c =
    c.copied.ensures
    ∙ find_from_yields_List (counts_at c.args.question.channel c.args.question.tick) _ _ c.find.result c.find.ensures.ran
    (YieldsList-from_rev_slice c.args.rows.now cc) (λ x b q k. (search rules, search (rules, tests)))
    ∙ last_from_end c.args.question.channel c.args.question.tick c.args.rows.now
