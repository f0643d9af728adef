-- Feeds on until no frame is served.
use Rattle.std.proofs.Common.{length, refl, inl, inr, arith}
use Rattle.std.proofs.lemmas.Bool.{not-true, not-false}
use Rattle.std.proofs.lemmas.List.{take_rest}
use Rattle.unit.specs.Units.{model_of}
use Rattle.replay.proofs.Continuing.{lawfully_more}
use Rattle.replay.proofs.Running.{running_none, running_on, running_fewer, running_ready, running_ends, refused_first, err_same}
use Rattle.replay.proofs.feeding.feed_all.Goals as goal

pub loop-fed-init : goal.loop-fed-init
loop-fed-init g c = record {
  running = running_none (model_of g.S.Store g.T.Sensor c.args.device.now) c.args.bytes.now (length c.args.tray.now) c.args.feeds.now.items c.args.out.now.items;
  first = inl (refl, refl, refl, refl, refl);
}

pub returns-in_err-fed-clause-refused : goal.returns-in_err-fed-clause-refused
returns-in_err-fed-clause-refused g c =
    err_same c.from_residual.result c.in_err-fed.field-0.0 _ c.from_residual.ensures.1
    (refused_first (model_of g.S.Store g.T.Sensor) c.args.bytes.now c.loop-fed.rest.now
    (c.args.device.now, c.args.tray.now, c.args.feeds.now, c.args.out.now)
    (c.loop-fed.device, c.loop-fed.tray, c.loop-fed.feeds, c.loop-fed.out)
    (c.feed_once.new.device, c.feed_once.new.tray, c.feed_once.new.feeds, c.feed_once.new.out)
    c.in_err-fed.field-0.0 c.loop-fed.invariant.first c.in_err-fed.ensures.refused)

pub returns-in_err-fed-clause-history : goal.returns-in_err-fed-clause-history
returns-in_err-fed-clause-history g c = lawfully_more _ _ _ _ c.loop-fed.invariant.running.continues c.feed_once.ensures.history

pub returns-then-not-fed-clause-fed : goal.returns-then-not-fed-clause-fed
returns-then-not-fed-clause-fed g c =
    running_ends c.loop-fed.invariant.running c.loop-fed.auto.tray c.in_ok-fed.ensures.fed (not-true c.in_ok-fed.fed.served c.if-not-fed.true)

pub returns-then-not-fed-clause-history : goal.returns-then-not-fed-clause-history
returns-then-not-fed-clause-history g c = lawfully_more _ _ _ _ c.loop-fed.invariant.running.continues c.feed_once.ensures.history

pub loop-fed-smaller : goal.loop-fed-smaller
loop-fed-smaller g c =
    running_fewer c.loop-fed.invariant.running c.loop-fed.auto.tray c.in_ok-fed.ensures.fed _
    (take_rest c.loop-fed.rest.now c.in_ok-fed.fed.taken) (not-false c.in_ok-fed.fed.served c.if-not-fed.false)

pub loop-fed-preserved : goal.loop-fed-preserved
loop-fed-preserved g c =
    let l = running_ready c.loop-fed.invariant.running c.loop-fed.auto.tray c.in_ok-fed.ensures.fed in
    record {
      running = running_on c.loop-fed.invariant.running c.loop-fed.auto.tray c.in_ok-fed.ensures.fed _
          (take_rest c.loop-fed.rest.now c.in_ok-fed.fed.taken) (not-false c.in_ok-fed.fed.served c.if-not-fed.false);
      first = inr (l.0, omega (arith, l.1, c.feed_once.auto.tray));
    }
