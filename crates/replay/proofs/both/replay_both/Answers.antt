-- Both replays together.
use Rattle.replay.proofs.Tapes.{both}
use Rattle.replay.proofs.both.replay_both.Goals as goal

pub returns : goal.returns
returns g c = both _ _ _ _ _ _ c.in_ok-one.ensures c.in_ok-other.ensures
