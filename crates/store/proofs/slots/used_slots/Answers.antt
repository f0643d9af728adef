-- The slots that are counted are the used ones.
use Rattle.std.proofs.Common.{◌≡◌, ap, ◌∙◌, arith, rules, tests}
use Rattle.std.proofs.lemmas.Iterator.{YieldsList-from_slice}
use Rattle.std.proofs.lemmas.Iterator.Consumers.{YieldsList-at, count_from_yields_List}
use Rattle.std.proofs.lemmas.Iterator.Search.{YieldsList-from_take_while}
use Rattle.std.proofs.lemmas.List.Folds.{length-prefix_len}
use Rattle.std.specs.List.{prefix_len}
use Rattle.store.specs.Slots.{is_used, used}
use Rattle.store.proofs.Held.{used_within}
use Rattle.store.proofs.Runs.{used_said}
use Rattle.store.proofs.slots.used_slots.Goals as goal

pub returns : goal.returns
unfolding used
returns c =
    let bs = c.args.bytes.now in
    let cut = c.slots_of.result.now in
    let counted : c.count.result ≡ prefix_len is_used cut =
    count_from_yields_List c.take_while.result c.count.result c.count.ensures.ran
    (YieldsList-from_take_while _ is_used (YieldsList-at c.take_while.ensures.source (YieldsList-from_slice cut (cc)))
    c.take_while.ensures.closure c.take_while.ensures.done (λ x b q k. search (rules, tests)))
    ∙ length-prefix_len is_used cut in
    let value : c.count.result ≡ used bs = counted ∙ ap (prefix_len is_used) c.slots_of.ensures.cut in
    record { value = value; within = omega (arith, value, used_within bs); said = used_said bs }
