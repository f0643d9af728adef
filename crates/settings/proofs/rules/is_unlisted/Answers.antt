-- Each entry is tested.
use Rattle.std.proofs.Common.{rules, tests, not, eqb}
use Rattle.std.proofs.lemmas.Iterator.{YieldsList-from_slice}
use Rattle.std.proofs.lemmas.Iterator.Search.{all_from_yields_List}
use Rattle.mti.specs.Identifiers.{plain}
use Rattle.settings.specs.declared.record.Entry.{Entry}
use Rattle.settings.proofs.rules.is_unlisted.Goals as goal

pub returns : goal.returns
returns c =
    all_from_yields_List (λ (e : Entry). not (eqb (plain e.identifier) c.args.channel)) _ _ c.all.result c.all.ensures.ran
    (YieldsList-from_slice c.args.entries.now cc) (λ x b q k. search (rules, tests))
