-- Each entry adds its packet.
use Rattle.std.proofs.Common.{◌≡◌, rules, tests, ap, ◌∙◌, arith, of_calls}
use Rattle.std.proofs.lemmas.Iterator.{YieldsList-from_slice, YieldsList-from_map}
use Rattle.std.proofs.lemmas.Iterator.Consumers.{sum_by_from_yields_List, fits_by_from_yields_list}
use Rattle.config.specs.Answered.{data_bytes}
use Rattle.config.proofs.Sizes.{entry_bytes, data_sum, data_few}
use Rattle.config.proofs.layout.data_bytes.Goals as goal

pub sum-requires : goal.sum-requires
sum-requires c =
    let es = c.as_slice.result.now in
    record {
      can = search of_calls;
      finite = search of_calls;
      fits =
          fits_by_from_yields_list entry_bytes es c.map.result _
          (YieldsList-from_map _ entry_bytes (YieldsList-from_slice es cc) (cc) (λ x r q k. search (rules, tests)))
          (omega (arith, data_sum es, data_few es));
    }

total : (c : goal.After-sum) → c.sum.result ≡ data_bytes c.as_slice.result.now
total c =
    let es = c.as_slice.result.now in
    sum_by_from_yields_List entry_bytes es c.map.result c.sum.result c.sum.ensures.ran
    (YieldsList-from_map _ entry_bytes (YieldsList-from_slice es cc) (cc) (λ x r q k. search (rules, tests)))
    ∙ data_sum es

pub overflow_cast-result : goal.overflow_cast-result
overflow_cast-result c = omega (arith, total c, data_few c.as_slice.result.now)

pub returns : goal.returns
returns c = total c ∙ ap data_bytes c.as_slice.ensures.is
