-- One feed: what it wrote lies in the tray, and it extends every session, whatever memory there is.
use Rattle.std.proofs.Common.{length, take}
use Rattle.unit.specs.Units.{model_of}
use Rattle.replay.proofs.Fed.{fed_accepted}
use Rattle.replay.proofs.Continuing.{lawfully}
use Rattle.replay.proofs.feeding.feed_once.Goals as goal

pub returns-in_err-fed-clause-history : goal.returns-in_err-fed-clause-history
returns-in_err-fed-clause-history g c = lawfully _ _ _ c.feed.ensures.history

pub returns-in_err-push-clause-history : goal.returns-in_err-push-clause-history
returns-in_err-push-clause-history g c = lawfully _ _ _ c.feed.ensures.history

pub returns-in_err-extend_from_slice-clause-history :
    goal.returns-in_err-extend_from_slice-clause-history
returns-in_err-extend_from_slice-clause-history g c = lawfully _ _ _ c.feed.ensures.history

pub returns-clause-history : goal.returns-clause-history
returns-clause-history g c = lawfully _ _ _ c.feed.ensures.history

pub returns-clause-taken : goal.returns-clause-taken
returns-clause-taken g c =
    let h = c.in_ok-fed.ensures in
    (fed_accepted (model_of g.S.Store g.T.Sensor c.args.device.now) c.args.bytes.now (length c.args.tray.now)
    (model_of g.S.Store g.T.Sensor c.feed.new.self) (take c.in_ok-fed.fed.written c.feed.new.tray) c.in_ok-fed.fed
    (λ i. (h.model i, h.bytes i, h.answer i))).taken
