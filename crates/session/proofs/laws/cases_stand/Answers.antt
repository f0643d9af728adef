-- The worked cases, cited.
use Rattle.std.proofs.Common.{refl}
use Rattle.session.proofs.Worked.{worked}
use Rattle.session.proofs.laws.cases_stand.Goals as goal

pub returns : goal.returns
returns c = record { value = refl; worked = worked }
