-- A tick is refused, or does what the state asks for.
use Rattle.std.proofs.Common.{◌≡◌, ℕ, ◌<◌, ◌≤◌, List, [], ◌++◌, length, take, drop, is_some, Ok, Err, true, false, sym, refl, ap, ap₂, ◌∙◌, subst, rules}
use Rattle.std.proofs.lemmas.List.{take-append-drop}
use Rattle.xbus.specs.Parts.{first_parts}
use Rattle.session.specs.declared.answers.Refusal.TheVariants.{Dark, ShortTray, FrameWaits}
use Rattle.session.specs.Model.{Model, Core as Modelled, Meaning}
use Rattle.session.specs.Serving.{Step}
use Rattle.session.specs.Ticking.{tick}
use Rattle.session.specs.Calls.{powered, with_core, too_long}
use Rattle.samples.proofs.Bounds.{never_too_long}
use Rattle.unit.specs.Of.{core_of}
use Rattle.unit.specs.Steps.{Stepped}
use Rattle.unit.specs.Units.{model_of, wrote, InTray}
use Rattle.unit.proofs.Written.{sent_front, untouched, in_front, parts}
use Rattle.unit.proofs.Histories.{tick_met}
use Rattle.unit.proofs.Paths.{some_seen, tick_dark, tick_short, tick_waits, tick_done}
use Rattle.unit.proofs.device.Device.tick.Goals as goal

pub returns-then-is_none : goal.returns-then-is_none
returns-then-is_none g c =
    let m : Model = model_of g.S.Store g.T.Sensor c.args.self.now in
    let n : ℕ = length c.args.tray.now in
    let dark : powered m ≡ false = search rules in
    let r = tick_met m m n [] (Err Dark) (sym (tick_dark m n dark)) in
    record { model = r.model; bytes = r.bytes; answer = r.answer; refused = (refl, refl); room = untouched c.args.tray.now; memory = refl; history = r.history }

pub returns-in_err-tray : goal.returns-in_err-tray
returns-in_err-tray g c =
    let m : Model = model_of g.S.Store g.T.Sensor c.args.self.now in
    let n : ℕ = length c.args.tray.now in
    let on : powered m ≡ true = search rules in
    let short : n < 2055 = search rules in
    let says : c.from_residual.result ≡ Err ShortTray = search rules in
    let r = tick_met m m n (take (wrote c.from_residual.result) c.args.tray.now) c.from_residual.result
    (ap (λ a. (m, take (wrote a) c.args.tray.now, a)) says ∙ sym (tick_short m n on short)) in
    record { model = r.model; bytes = r.bytes; answer = r.answer; refused = rw says (refl, refl); room = rw says (untouched c.args.tray.now); memory = refl; history = r.history }

pub returns-then-is_some : goal.returns-then-is_some
returns-then-is_some g c =
    let m : Model = model_of g.S.Store g.T.Sensor c.args.self.now in
    let n : ℕ = length c.args.tray.now in
    let on : powered m ≡ true = search rules in
    let long : 2055 ≤ n = search rules in
    let waits : is_some (first_parts m.waiting) ≡ true = sym (ap is_some c.frame.ensures) ∙ some_seen c.frame.result ∙ sym c.is_some.ensures ∙ c.if-is_some.true in
    let first : c.in_ok-tray.tray.now ≡ take 2055 c.args.tray.now = search rules in
    let same = ap (λ x. x ++ drop 2055 c.args.tray.now) first ∙ take-append-drop 2055 c.args.tray.now in
    let r = tick_met m m n [] (Err FrameWaits) (sym (tick_waits m n on long waits)) in
    record { model = r.model; bytes = r.bytes; answer = r.answer; refused = (refl, same); room = subst (InTray 0 c.args.tray.now) (sym same) (untouched c.args.tray.now); memory = refl; history = r.history }

pub returns : goal.returns
returns g c =
    let m : Model = model_of g.S.Store g.T.Sensor c.args.self.now in
    let n : ℕ = length c.args.tray.now in
    let on : powered m ≡ true = search rules in
    let long : 2055 ≤ n = search rules in
    let quiet : is_some (first_parts m.waiting) ≡ false = sym (ap is_some c.frame.ensures) ∙ some_seen c.frame.result ∙ sym c.is_some.ensures ∙ c.if-is_some.false in
    let fits : too_long m ≡ false = never_too_long m c.args.self.now.core.settings.ok in
    let s : Step = tick m.device_id m.meaning m.core in
    let does : Stepped s (core_of g.S.Store c.tick.new.self) c.tick.result c.tick.new.tray = c.tick.ensures.does in
    let size : length (c.tick.new.tray ++ drop 2055 c.args.tray.now) ≡ n = search rules in
    let behind : List ℕ = drop 2055 c.args.tray.now in
    let front = sent_front s.1 c.tick.result c.tick.new.tray behind does.wrote in
    let with_both : Meaning → Modelled → Model = λ f x. record { device_id = m.device_id; meaning = f; core = x; waiting = m.waiting } in
    let k : Model = with_both (g.T.Sensor.meaning c.tick.new.sensor) (core_of g.S.Store c.tick.new.self) in
    let r = tick_met m k n (take c.tick.result (c.tick.new.tray ++ behind)) (Ok c.tick.result)
    (parts k (with_core m s.0 m.waiting) (take c.tick.result (c.tick.new.tray ++ behind)) s.1 (Ok c.tick.result) (Ok (length s.1))
    (ap₂ with_both c.tick.ensures.stays does.core) front (ap Ok does.wrote.count)
    ∙ sym (tick_done m n on long quiet fits)) in
    record { model = r.model; bytes = r.bytes; answer = r.answer; refused = tt; room = in_front s.1 c.tick.result c.tick.new.tray c.args.tray.now size long does.wrote; memory = ap g.S.Store.memory c.tick.ensures.store; history = r.history }
