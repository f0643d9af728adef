-- What a tick sends, cited.
use Rattle.std.proofs.Common.{refl}
use Rattle.session.proofs.Sampled.{sampled_said}
use Rattle.session.proofs.laws.samples_stand.Goals as goal

pub returns : goal.returns
returns c = record { value = refl; said = sampled_said }
