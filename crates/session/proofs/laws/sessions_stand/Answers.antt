-- The laws, cited.
use Rattle.std.proofs.Common.{refl}
use Rattle.session.proofs.Lawfuls.{begins, extended}
use Rattle.session.proofs.laws.sessions_stand.Goals as goal

pub returns : goal.returns
returns c = record { value = refl; begins = begins; extended = extended }
