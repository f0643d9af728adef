-- By the output that the identifier names.
use Rattle.std.proofs.Common.{rules, tests}
use Rattle.settings.proofs.Judged.{entry_judged}
use Rattle.settings.proofs.rules.valid_entry.Goals as goal

pub returns : goal.returns
returns c = entry_judged c.args.product c.args.entry c.known.result c.is_some_and.result _ c.known.ensures.is c.is_some_and.ensures (λ x k. search (rules, tests))
