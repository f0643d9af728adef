-- The entries of settings are valid, so that each has a rate and its packet has room.
use Rattle.std.proofs.Common.{◌<◌, length, take, refl, ◌∙◌, subst, rules}
use Rattle.settings.specs.Values.{entry}
use Rattle.settings.specs.View.{values_of}
use Rattle.draft.specs.Composed.{Holding}
use Rattle.session.specs.Sampling.{packets}
use Rattle.samples.proofs.Bounds.{data_few}
use Rattle.samples.proofs.Walks.{settings_entries, rated, room_for, entry_more}
use Rattle.samples.proofs.message.write_sample.Goals as goal

pub loop-entry-init : goal.loop-entry-init
unfolding packets
loop-entry-init g c = record {
  holds = c.begin-draft.ensures.holds c.args.tray.now;
  start = c.begin-draft.ensures.old;
  lends = refl;
  stays = refl;
}

pub add_packet-requires-clause-rate : goal.add_packet-requires-clause-rate
add_packet-requires-clause-rate g c =
    let s = c.args.settings.now in
    let es = c.entries-entry-items.result.now in
    rated s.product es (settings_entries s es c.entries-entry-items.ensures.is) c.loop-entry.entry-index (entry 0 0) (search rules)

pub add_packet-requires-clause-room : goal.add_packet-requires-clause-room
add_packet-requires-clause-room g c =
    let s = c.args.settings.now in
    let es = c.entries-entry-items.result.now in (
      c.loop-entry.invariant.start,
      room_for s.product es (settings_entries s es c.entries-entry-items.ensures.is) (g.T.Sensor.meaning c.args.sensor.now) c.args.counts.now
          c.loop-entry.entry-index c.loop-entry.tray c.loop-entry.draft c.loop-entry.invariant.holds,
    )

pub loop-entry-preserved : goal.loop-entry-preserved
loop-entry-preserved g c =
    let f = g.T.Sensor.meaning c.args.sensor.now in
    let es = c.entries-entry-items.result.now in
    let i = c.loop-entry.entry-index in
    let l : i < length es = search rules in
    record {
      holds = subst (λ is. Holding is c.add_packet.new.tray c.add_packet.new.draft)
          (entry_more f (g.T.Sensor.meaning c.loop-entry.sensor) c.args.counts.now es i (entry 0 0) l c.loop-entry.invariant.stays)
          (c.add_packet.ensures.adds (packets f c.args.counts.now (take i es)) c.loop-entry.invariant.holds);
      start = c.add_packet.ensures.start ∙ c.loop-entry.invariant.start;
      lends = c.add_packet.ensures.lends ∙ c.loop-entry.invariant.lends;
      stays = c.add_packet.ensures.stays ∙ c.loop-entry.invariant.stays;
    }

pub returns-clause-few : goal.returns-clause-few
returns-clause-few g c =
    let s = c.args.settings.now in
    data_few (g.T.Sensor.meaning c.args.sensor.now) c.args.counts.now (values_of s) s.ok
