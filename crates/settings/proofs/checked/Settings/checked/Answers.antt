-- Values are given as settings exactly where they pass the test.
use Rattle.std.proofs.Common.{sym}
use Rattle.std.proofs.lemmas.Bool.{cond-true, cond-false}
use Rattle.settings.specs.View.{checked_of}
use Rattle.settings.proofs.Worded.{valid_said}
use Rattle.settings.proofs.checked.Settings.checked.Goals as goal

pub returns-then-is_valid : goal.returns-then-is_valid
unfolding checked_of
returns-then-is_valid c = record { is = sym (cond-true _ _ _ (sym c.if-is_valid.ensures)); said = valid_said }

pub returns-else-is_valid : goal.returns-else-is_valid
unfolding checked_of
returns-else-is_valid c = record { is = sym (cond-false _ _ _ (sym c.if-is_valid.ensures)); said = valid_said }
