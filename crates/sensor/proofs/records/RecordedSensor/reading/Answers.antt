-- The reading, from what was asked and the row that was found, and said in words.
use Rattle.std.proofs.Common.{◌≡◌, ℤ, Some, sym, ap, ◌∙◌, w64, to_z, of_z, rules}
use Rattle.sensor.specs.Records.{number_of}
use Rattle.sensor.proofs.Lasts.{recorded_is, recorded_not_asked, answer_in_words}
use Rattle.sensor.proofs.records.RecordedSensor.reading.Goals as goal

pub returns-in_err-kind-clause-answer : goal.returns-in_err-kind-clause-answer
returns-in_err-kind-clause-answer c =
    c.from_residual.ensures ∙ recorded_not_asked _ _ _ _ (sym c.in_err-kind.was ∙ c.asked.ensures.is)

pub returns-in_err-kind-clause-last : goal.returns-in_err-kind-clause-last
returns-in_err-kind-clause-last c = answer_in_words (returns-in_err-kind-clause-answer c)

pub returns-in_err-row-clause-answer : goal.returns-in_err-row-clause-answer
returns-in_err-row-clause-answer c =
    c.from_residual-in_err-row.ensures
    ∙ recorded_is _ _ _ _ _ _ (sym c.in_ok-kind.was ∙ c.asked.ensures.is) (sym c.in_err-row.was ∙ c.last_row.ensures)

pub returns-in_err-row-clause-last : goal.returns-in_err-row-clause-last
returns-in_err-row-clause-last c = answer_in_words (returns-in_err-row-clause-answer c)

pub returns-clause-answer : goal.returns-clause-answer
returns-clause-answer c =
    let same : to_z w64 (of_z w64 c.clamped.result) ≡ number_of c.in_ok-kind.kind c.args.question.index c.in_ok-row.row = search rules in
    ap (λ (x : ℤ). Some x) same
    ∙ recorded_is _ _ _ _ _ _ (sym c.in_ok-kind.was ∙ c.asked.ensures.is) (sym c.in_ok-row.was ∙ c.last_row.ensures)

pub returns-clause-last : goal.returns-clause-last
returns-clause-last c = answer_in_words (returns-clause-answer c)
