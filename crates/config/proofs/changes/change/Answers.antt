-- No profile is above a byte.
use Rattle.std.proofs.Common.{◌≡◌, ◌<◌, None, ◌∙◌, arith}
use Rattle.std.proofs.lemmas.Grind.{common_steps}
use Rattle.std.specs.Option.{option_map}
use Rattle.std.specs.Result.{result_ok}
use Rattle.settings.specs.View.{values_of}
use Rattle.config.specs.Changed.{changed_of}
use Rattle.config.proofs.Edits.{no_profile}
use Rattle.config.proofs.changes.change.Goals as goal

pub returns-in_err-map_err-in-Profile-clause-is : goal.returns-in_err-map_err-in-Profile-clause-is
unfolding changed_of
returns-in_err-map_err-in-Profile-clause-is c =
    let above : 255 < c.in-Profile.profile = grind (arith, common_steps, c.in_err-map_err-in-Profile.ensures, c.map_err.ensures, c.try_from.ensures) in
    let none : option_map values_of (result_ok c.from_residual.result) ≡ None = grind (arith, common_steps, c.from_residual.ensures) in
    rw c.in-Profile.is (none ∙ no_profile (values_of c.args.settings.now) c.in-Profile.profile above)
