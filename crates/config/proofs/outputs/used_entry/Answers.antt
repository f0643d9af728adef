-- By what the identifier names.
use Rattle.std.proofs.Common.{rules, tests}
use Rattle.config.proofs.Edits.{used_by}
use Rattle.config.proofs.outputs.used_entry.Goals as goal

pub returns : goal.returns
returns c =
    used_by c.known.result c.args.identifier c.args.asked c.map_or-frequency.result _ c.known.ensures.is c.map_or-frequency.ensures
    (λ x k. search (rules, tests))
