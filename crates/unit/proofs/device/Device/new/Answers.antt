-- A unit just made: nothing has happened yet.
use Rattle.std.proofs.Common.{◌≡◌, refl}
use Rattle.settings.specs.View.{values_of}
use Rattle.stream.specs.Waiting.{held}
use Rattle.session.specs.Model.{World, Model, making}
use Rattle.unit.specs.Units.{world_of}
use Rattle.unit.proofs.Histories.{begun, made_with, made}
use Rattle.unit.proofs.device.Device.new.Goals as goal

pub returns : goal.returns
returns g c =
    let w : World = world_of g.S.Store g.T.Sensor c.args.product c.args.device_id c.args.store c.args.sensor in
    let k : Model = made_with w (values_of c.factory.result) (held c.new.result) in
    let e : k ≡ making w = made w (values_of c.factory.result) (held c.new.result) c.factory.ensures c.new.ensures in
    let b = begun w k e in
    record { model = e; history = b.0; lawful = b.1; store = refl; sensor = refl }
