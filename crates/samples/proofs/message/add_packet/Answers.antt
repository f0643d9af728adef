-- An entry gives no packet, or one, which the draft holds behind the others.
use Rattle.std.proofs.Common.{◌≡◌, length, true, false, None, is_some, rules}
use Rattle.mti.specs.Identifiers.{known_of}
use Rattle.draft.specs.Composed.{asked, Added}
use Rattle.session.specs.Sampling.{due}
use Rattle.samples.proofs.Adds.{resting, unknown, absent, sent, none_added, one_added, filled, not_filled}
use Rattle.samples.proofs.message.add_packet.Goals as goal

pub returns-then-not-due-clause-adds : goal.returns-then-not-due-clause-adds
returns-then-not-due-clause-adds g c =
    let f = g.T.Sensor.meaning c.args.sensor.now in
    let rests : due c.args.counts.now.phase c.args.entry ≡ false = search rules in
    none_added _ c.args.tray.now c.args.draft.now (resting f c.args.counts.now c.args.entry rests)

pub returns-in_default-clause-adds : goal.returns-in_default-clause-adds
returns-in_default-clause-adds g c =
    let f = g.T.Sensor.meaning c.args.sensor.now in
    let k : None ≡ known_of c.args.entry.identifier = search rules in
    none_added _ c.args.tray.now c.args.draft.now (unknown f c.args.counts.now c.args.entry k)

pub returns-then-is_some-clause-adds : goal.returns-then-is_some-clause-adds
returns-then-is_some-clause-adds g c =
    let f = g.T.Sensor.meaning c.args.sensor.now in
    let e = c.args.entry in
    let xs = c.put_data.new.out in
    let d : due c.args.counts.now.phase e ≡ true = search rules in
    let some : is_some c.put_data.result ≡ true = search rules in
    let there = filled _ c.put_data.result xs c.put_data.ensures.is some in
    let a : Added c.args.draft.now c.add.new.self c.args.tray.now c.add.new.tray (asked xs e.identifier 0 (length xs)) = search rules in
    one_added _ e.identifier xs c.args.tray.now c.add.new.tray c.args.draft.now c.add.new.self
    (sent f c.args.counts.now e c.in-Some.output xs d c.in-Some.ensures.is there) a

pub returns-else-is_some-clause-adds : goal.returns-else-is_some-clause-adds
returns-else-is_some-clause-adds g c =
    let f = g.T.Sensor.meaning c.args.sensor.now in
    let none : is_some c.put_data.result ≡ false = search rules in
    let gone = not_filled _ c.put_data.result c.put_data.new.out c.put_data.ensures.is none in
    none_added _ c.args.tray.now c.args.draft.now (absent f c.args.counts.now c.args.entry c.in-Some.output c.in-Some.ensures.is gone)

-- what is known of an entry's identifier is an output of a row of the table
pub put_data-requires-clause-row : goal.put_data-requires-clause-row
put_data-requires-clause-row g c = (c.known.ensures.exact.sound c.in-Some.output c.in-Some.is).row
