-- Power is refused, or wakes the unit.
use Rattle.std.proofs.Common.{◌≡◌, ℕ, ◌<◌, ◌≤◌, [], ◌++◌, length, take, drop, Ok, Err, true, false, sym, refl, ap, ◌∙◌, rules}
use Rattle.session.specs.Model.{Model}
use Rattle.session.specs.Calls.{powered, with_core}
use Rattle.session.specs.declared.answers.Refusal.TheVariants.{AlreadyPowered, ShortTray}
use Rattle.session.specs.Sending.{wake_up}
use Rattle.session.specs.Waking.{woken}
use Rattle.unit.specs.Of.{core_of}
use Rattle.unit.specs.Steps.{Sent}
use Rattle.unit.specs.Units.{model_of, wrote}
use Rattle.unit.proofs.Written.{sent_front, untouched, in_front, parts}
use Rattle.unit.proofs.Histories.{power_met}
use Rattle.unit.proofs.Paths.{power_again, power_short, power_done}
use Rattle.unit.proofs.device.Device.power.Goals as goal

pub returns-then-is_some : goal.returns-then-is_some
returns-then-is_some g c =
    let m : Model = model_of g.S.Store g.T.Sensor c.args.self.now in
    let on : powered m ≡ true = sym c.is_some.ensures ∙ c.if-is_some.true in
    let r = power_met m m (length c.args.tray.now) [] (Err AlreadyPowered) (sym (power_again m (length c.args.tray.now) on)) in
    record { model = r.model; bytes = r.bytes; answer = r.answer; refused = (refl, refl); room = untouched c.args.tray.now; memory = refl; history = r.history }

pub returns-in_err-tray : goal.returns-in_err-tray
returns-in_err-tray g c =
    let m : Model = model_of g.S.Store g.T.Sensor c.args.self.now in
    let dark : powered m ≡ false = sym c.is_some.ensures ∙ c.if-is_some.false in
    let n : ℕ = length c.args.tray.now in
    let short : n < 2055 = search rules in
    let says : c.from_residual.result ≡ Err ShortTray = search rules in
    let r = power_met m m n (take (wrote c.from_residual.result) c.args.tray.now) c.from_residual.result
    (ap (λ a. (m, take (wrote a) c.args.tray.now, a)) says ∙ sym (power_short m n dark short)) in
    record { model = r.model; bytes = r.bytes; answer = r.answer; refused = rw says (refl, refl); room = rw says (untouched c.args.tray.now); memory = refl; history = r.history }

pub returns : goal.returns
returns g c =
    let m : Model = model_of g.S.Store g.T.Sensor c.args.self.now in
    let dark : powered m ≡ false = sym c.is_some.ensures ∙ c.if-is_some.false in
    let n : ℕ = length c.args.tray.now in
    let long : 2055 ≤ n = search rules in
    let s : Sent wake_up c.send.result c.send.new.tray = c.send.ensures [] (record { count = refl; bytes = refl }) in
    let size : length (c.send.new.tray ++ drop 2055 c.args.tray.now) ≡ n = search rules in
    let front = sent_front wake_up c.send.result c.send.new.tray (drop 2055 c.args.tray.now) s in
    let k : Model = with_core m (core_of g.S.Store c.wake.new.self) m.waiting in
    let r = power_met m k n (take c.send.result (c.send.new.tray ++ drop 2055 c.args.tray.now)) (Ok c.send.result)
    (parts k (with_core m (woken m.core) m.waiting) (take c.send.result (c.send.new.tray ++ drop 2055 c.args.tray.now)) wake_up
    (Ok c.send.result) (Ok (length wake_up)) (ap (λ x. with_core m x m.waiting) c.wake.ensures.does) front (ap Ok s.count)
    ∙ sym (power_done m n dark long)) in
    record { model = r.model; bytes = r.bytes; answer = r.answer; refused = tt; room = in_front wake_up c.send.result c.send.new.tray c.args.tray.now size long s; memory = c.wake.ensures.memory; history = r.history }
