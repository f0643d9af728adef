-- The outputs that are shown are an answer.
use Rattle.std.proofs.Common.{◌≡◌, ℕ, List, Some, sym, ap, ◌∙◌, subst, arith}
use Rattle.decision.specs.Asked.{Changing, changing}
use Rattle.decision.specs.declared.actions.Question.TheVariants.{Outputs}
use Rattle.settings.specs.View.{values_of}
use Rattle.config.specs.Answered.{answer_of, count_in}
use Rattle.session.specs.Serving.{shown}
use Rattle.unit.specs.Steps.{Sent}
use Rattle.unit.proofs.Filled.{laid}
use Rattle.unit.proofs.changing.shown.Goals as goal

pub returns-in-Outputs : goal.returns-in-Outputs
unfolding answer_of
returns-in-Outputs c =
    let xs : List ℕ = answer_of 0 (values_of c.args.settings.now) Outputs in
    let n : Some c.unwrap.result ≡ count_in xs c.args.out.now = sym c.unwrap.ensures ∙ c.answer.ensures.count in
    let l = laid xs c.args.out.now c.unwrap.result n in
    record {
      is = subst (λ (ch : Changing). Sent (shown ch (values_of c.args.settings.now)) c.unwrap.result c.answer.new.out) (sym (ap changing c.in-Outputs.is))
          (subst (Sent xs c.unwrap.result) (sym c.answer.ensures.after) l.0);
      few = omega (arith, l.1, c.told-out);
    }
