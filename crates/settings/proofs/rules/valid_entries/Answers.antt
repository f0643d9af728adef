-- Each entry is tested against those behind it.
use Rattle.std.proofs.Common.{rules, tests, ◌∙◌}
use Rattle.std.proofs.lemmas.Iterator.{YieldsList-from_slice}
use Rattle.std.proofs.lemmas.Iterator.Consumers.{YieldsList-from_enumerate}
use Rattle.std.proofs.lemmas.Iterator.Search.{all_from_yields_List}
use Rattle.settings.proofs.Scan.{entry_passes, passes_all}
use Rattle.settings.proofs.rules.valid_entries.Goals as goal

pub returns : goal.returns
returns c =
    all_from_yields_List (entry_passes c.args.product c.args.entries.now) _ _ c.all.result c.all.ensures.ran
    (YieldsList-from_enumerate (YieldsList-from_slice c.args.entries.now cc) cc) (λ x b q k. search (rules, tests))
    ∙ passes_all c.args.product c.args.entries.now
