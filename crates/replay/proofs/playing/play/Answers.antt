-- One call, by its kind.
use Rattle.std.proofs.Common.{length, take, sym, refl, ap}
use Rattle.session.specs.Sessions.{Power, Feed, Tick}
use Rattle.unit.specs.Units.{wrote, fed_wrote}
use Rattle.replay.specs.Calls.{asked_with}
use Rattle.replay.proofs.playing.play.Goals as goal

pub returns-in-Power-clause-step : goal.returns-in-Power-clause-step
returns-in-Power-clause-step g c = record {
  entry = Power (length c.args.tray.now) (take (wrote c.power.result) c.power.new.tray) c.power.result;
  asks = sym (ap (λ q. asked_with q (length c.args.tray.now)) c.in-Power.is);
  answers = refl;
  writes = refl;
  extends = c.power.ensures.history;
}

pub returns-in-Feed-clause-step : goal.returns-in-Feed-clause-step
returns-in-Feed-clause-step g c = record {
  entry = Feed c.in-Feed.bytes.now (length c.args.tray.now) (take (fed_wrote c.feed.result) c.feed.new.tray) c.feed.result;
  asks = sym (ap (λ q. asked_with q (length c.args.tray.now)) c.in-Feed.is);
  answers = refl;
  writes = refl;
  extends = c.feed.ensures.history;
}

pub returns-in-Tick-clause-step : goal.returns-in-Tick-clause-step
returns-in-Tick-clause-step g c = record {
  entry = Tick (length c.args.tray.now) (take (wrote c.tick.result) c.tick.new.tray) c.tick.result;
  asks = sym (ap (λ q. asked_with q (length c.args.tray.now)) c.in-Tick.is);
  answers = refl;
  writes = refl;
  extends = c.tick.ensures.history;
}
