-- What is found is the first row that bears the identifier.
use Rattle.std.proofs.Common.{eqb, rules, tests}
use Rattle.std.proofs.lemmas.Iterator.{YieldsList-from_slice}
use Rattle.std.proofs.lemmas.Iterator.Search.{find_from_yields_List}
use Rattle.mti.specs.Channels.{channels, channel_of}
use Rattle.mti.proofs.channel.find_row.Goals as goal

pub returns : goal.returns
unfolding channel_of
returns c =
    find_from_yields_List (λ r. eqb r.identifier c.args.identifier) _ _ c.find.result c.find.ensures.ran
    (YieldsList-from_slice channels cc) (λ x b q k. search (rules, tests))
