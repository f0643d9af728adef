-- The search from above.
use Rattle.std.proofs.Common.{rules, tests, arith, ℕ, min, ◌%◌, eqb, sym, ap, ◌∙◌}
use Rattle.std.specs.Option.{unwrap_or}
use Rattle.std.proofs.lemmas.Iterator.{YieldsList-from_map}
use Rattle.std.proofs.lemmas.Iterator.Consumers.{YieldsList-at}
use Rattle.std.proofs.lemmas.Iterator.Adapters.{option_map_id}
use Rattle.std.proofs.lemmas.Iterator.Search.{find_from_yields_List}
use Rattle.settings.specs.Rates.{divisor_from, largest_divisor}
use Rattle.settings.proofs.Divisors.{counts_down, found_down, divisor_said}
use Rattle.settings.proofs.rate.largest_divisor.Goals as goal

pub returns : goal.returns
unfolding largest_divisor
returns c = record {
  is =
      c.unwrap_or.ensures
      ∙ ap (λ o. unwrap_or o 0)
      (sym (option_map_id c.find.result)
      ∙ find_from_yields_List (λ (d : ℕ). eqb (c.args.max_hz % d) 0) _ _ c.find.result c.find.ensures.ran
      (YieldsList-from_map _ (λ (d : ℕ). min d 65535)
      (YieldsList-at c.map.ensures.source (counts_down c.min.result c.rev.result (search rules) (search rules)))
      c.map.ensures.closure (λ x r q k. search (rules, tests)))
      (λ x b q k. search (rules, tests)))
      ∙ found_down c.args.max_hz c.min.result (omega arith) ∙ ap (divisor_from c.args.max_hz) c.min.ensures;
  said = divisor_said;
}
