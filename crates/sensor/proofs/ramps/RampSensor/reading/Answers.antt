-- The ramp's answer is what it means.
use Rattle.std.proofs.Common.{ℤ, Some, sym, ap, ◌∙◌, w64, SFits, rules}
use Rattle.std.specs.Option.{option_map}
use Rattle.std.proofs.lemmas.Int.{to_z-of_z}
use Rattle.sensor.specs.Ramps.{ramp_at, ramp_of}
use Rattle.sensor.proofs.ramps.RampSensor.reading.Goals as goal

pub returns-in_err-kind-clause-answer : goal.returns-in_err-kind-clause-answer
unfolding ramp_of
returns-in_err-kind-clause-answer c =
    c.from_residual.ensures
    ∙ ap (option_map (ramp_at c.args.question.index c.args.question.tick)) (sym c.in_err-kind.was ∙ c.asked.ensures.is)

pub returns-clause-answer : goal.returns-clause-answer
unfolding ramp_of
returns-clause-answer c =
    let fits : SFits w64 c.climb.result = search rules in
    ap (λ (v : ℤ). Some v) (to_z-of_z w64 c.climb.result fits ∙ c.climb.ensures)
    ∙ ap (option_map (ramp_at c.args.question.index c.args.question.tick)) (sym c.in_ok-kind.was ∙ c.asked.ensures.is)
