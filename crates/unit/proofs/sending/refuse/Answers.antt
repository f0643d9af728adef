-- An Error is the first frame in the tray.
use Rattle.std.proofs.Common.{[], refl}
use Rattle.unit.proofs.sending.refuse.Goals as goal

pub returns : goal.returns
returns c = c.send.ensures [] (record { count = refl; bytes = refl })
