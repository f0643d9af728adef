-- A whole number is not below 0, so that the cast keeps it.
use Rattle.std.proofs.Common.{ℤ, Some, ap, ◌∙◌, ◌<◌, ◌^◌, w64, SFits, rules}
use Rattle.samples.proofs.Readings.{whole_within, cast_fits, cast_back}
use Rattle.samples.proofs.data.whole.Goals as goal

pub overflow_cast-result : goal.overflow_cast-result
overflow_cast-result g c =
    let v = c.in_ok-value.value in
    let t : c.args.tick < 2 ^ 32 = search rules in
    let f : SFits w64 v = search rules in
    cast_fits v f (whole_within _ c.args.channel c.args.tick v c.in_ok-value.ensures.range c.requires t c.in_ok-value.ensures.answer)

pub returns-clause-is : goal.returns-clause-is
returns-clause-is g c =
    let v = c.in_ok-value.value in
    let t : c.args.tick < 2 ^ 32 = search rules in
    let f : SFits w64 v = search rules in
    ap (λ (z : ℤ). Some z) (cast_back v f (whole_within _ c.args.channel c.args.tick v c.in_ok-value.ensures.range c.requires t c.in_ok-value.ensures.answer))
    ∙ c.in_ok-value.ensures.answer
