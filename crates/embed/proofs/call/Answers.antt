-- One call, by its kind.
use Rattle.std.proofs.Common.{◌≡◌, ℕ, ◌≤◌, length, take, IfOk, Ok, Err, Result, sym, refl, ap, ◌∙◌, arith, rules}
use Rattle.session.specs.declared.answers.Fed.{Fed}
use Rattle.session.specs.declared.answers.Refusal.{Refusal}
use Rattle.session.specs.Sessions.{Power, Feed, Tick, next}
use Rattle.session.specs.Deeds.{written_by}
use Rattle.unit.specs.Units.{model_of, wrote, fed_wrote}
use Rattle.embed.specs.Scripts.{call_of}
use Rattle.embed.specs.Playing.{asked, memory_by, memory_of}
use Rattle.embed.proofs.call.Goals as goal

if_ok : (a : Result ℕ Refusal) (k : ℕ) → wrote a ≤ k → IfOk a (λ n. n ≤ k)
if_ok (Ok n) k h = h
if_ok (Err e) k h = tt

wrote_by : (a : Result Fed Refusal) (b : Result ℕ Refusal) → b ≡ written_by a → wrote b ≡ fed_wrote a
wrote_by (Ok f) b h = ap wrote h
wrote_by (Err e) b h = ap wrote h

pub returns-in-Power-clause-called : goal.returns-in-Power-clause-called
unfolding next
returns-in-Power-clause-called g c = record {
  entry = Power (length c.args.tray.now) (take (wrote c.power.result) c.power.new.tray) c.power.result;
  fair = (c.power.ensures.bytes, c.power.ensures.answer);
  leads = sym c.power.ensures.model;
  asks = sym (ap (λ t. asked (call_of t) (length c.args.tray.now)) c.in-Power.is);
  writes = refl;
  answers = refl;
  memory = c.power.ensures.memory;
}

pub returns-in-Power-clause-room : goal.returns-in-Power-clause-room
returns-in-Power-clause-room g c =
    if_ok c.power.result (length c.power.new.tray)
    c.power.ensures.room.within

pub returns-in-Feed-clause-called : goal.returns-in-Feed-clause-called
unfolding next
returns-in-Feed-clause-called g c = record {
  entry = Feed c.in-Feed.bytes.now (length c.args.tray.now) (take (fed_wrote c.feed.result) c.feed.new.tray) c.feed.result;
  fair = (c.feed.ensures.bytes, c.feed.ensures.answer);
  leads = sym c.feed.ensures.model;
  asks = sym (ap (λ t. asked (call_of t) (length c.args.tray.now)) c.in-Feed.is);
  writes = ap (λ n. take n c.feed.new.tray) (wrote_by c.feed.result c.map.result (search rules));
  answers = search rules;
  memory = c.feed.ensures.memory ∙ ap (λ k. memory_by g.S.Store.overwritten (model_of g.S.Store g.T.Sensor c.args.device.now).core k.core (memory_of g.S.Store c.args.device.now)) c.feed.ensures.model;
}

pub returns-in-Feed-clause-room : goal.returns-in-Feed-clause-room
returns-in-Feed-clause-room g c =
    let e : c.map.result ≡ written_by c.feed.result = search rules in
    let w : wrote c.map.result ≡ fed_wrote c.feed.result = wrote_by c.feed.result c.map.result e in
    if_ok c.map.result (length c.feed.new.tray)
    (omega (arith, w, c.feed.ensures.room.within))

pub returns-in-Tick-clause-called : goal.returns-in-Tick-clause-called
unfolding next
returns-in-Tick-clause-called g c = record {
  entry = Tick (length c.args.tray.now) (take (wrote c.tick.result) c.tick.new.tray) c.tick.result;
  fair = (c.tick.ensures.bytes, c.tick.ensures.answer);
  leads = sym c.tick.ensures.model;
  asks = sym (ap (λ t. asked (call_of t) (length c.args.tray.now)) c.in-Tick.is);
  writes = refl;
  answers = refl;
  memory = c.tick.ensures.memory;
}

pub returns-in-Tick-clause-room : goal.returns-in-Tick-clause-room
returns-in-Tick-clause-room g c =
    if_ok c.tick.result (length c.tick.new.tray)
    c.tick.ensures.room.within
