-- The first profile and the factory's entries make the factory's values, which are valid.
use Rattle.std.proofs.Common.{ap, ◌∙◌}
use Rattle.settings.specs.Values.{listed}
use Rattle.settings.specs.Valid.{valid}
use Rattle.settings.proofs.FromFactory.{factory_valid, factory_values}
use Rattle.settings.proofs.checked.Settings.factory.Goals as goal

pub invariant_of-result : goal.invariant_of-result
invariant_of-result c =
    let p = c.args.product in
    let e = factory_values p c.first_profile.result (listed c.factory_entries.result) c.first_profile.ensures c.factory_entries.ensures in
    record { ok = ap valid e ∙ factory_valid p }

pub returns : goal.returns
returns c =
    factory_values c.args.product c.first_profile.result (listed c.factory_entries.result) c.first_profile.ensures c.factory_entries.ensures
