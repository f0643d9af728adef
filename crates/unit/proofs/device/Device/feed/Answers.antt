-- Feed is refused, takes bytes, or serves a frame.
use Rattle.std.proofs.Common.{◌≡◌, ℕ, ◌<◌, ◌≤◌, List, [], ◌++◌, length, take, drop, Some, None, Ok, Err, true, false, sym, refl, ap, ap₂, ◌∙◌, subst, rules}
use Rattle.std.proofs.lemmas.List.{take-append-drop}
use Rattle.xbus.specs.Parts.{Parts, seen, first_parts}
use Rattle.stream.specs.Waiting.{held, passed}
use Rattle.session.specs.declared.answers.Fed.{Fed}
use Rattle.session.specs.declared.answers.Refusal.TheVariants.{Dark, ShortTray}
use Rattle.session.specs.Model.{Model}
use Rattle.session.specs.Serving.{Step, served}
use Rattle.session.specs.Filling.{fills, filled}
use Rattle.session.specs.Calls.{powered, with_core, fill}
use Rattle.unit.specs.Of.{core_of}
use Rattle.unit.specs.Steps.{Stepped}
use Rattle.unit.specs.Units.{model_of, fed_wrote, InTray}
use Rattle.unit.proofs.Adopted.{memory_kept}
use Rattle.unit.proofs.Written.{sent_front, untouched, in_front, parts}
use Rattle.unit.proofs.Histories.{feed_met}
use Rattle.unit.proofs.Paths.{feed_dark, feed_short, feed_takes, feed_serves}
use Rattle.unit.proofs.device.Device.feed.Goals as goal

pub returns-then-is_none : goal.returns-then-is_none
returns-then-is_none g c =
    let m : Model = model_of g.S.Store g.T.Sensor c.args.self.now in
    let n : ℕ = length c.args.tray.now in
    let dark : powered m ≡ false = search rules in
    let r = feed_met m m n [] c.args.bytes.now (Err Dark) (sym (feed_dark m n c.args.bytes.now dark)) in
    record { model = r.model; bytes = r.bytes; answer = r.answer; refused = (refl, refl); room = untouched c.args.tray.now; memory = sym (memory_kept g.S.Store m.core m.core c.args.self.now.core.store refl); history = r.history }

pub returns-in_err-tray : goal.returns-in_err-tray
returns-in_err-tray g c =
    let m : Model = model_of g.S.Store g.T.Sensor c.args.self.now in
    let n : ℕ = length c.args.tray.now in
    let on : powered m ≡ true = search rules in
    let short : n < 2055 = search rules in
    let says : c.from_residual.result ≡ Err ShortTray = search rules in
    let r = feed_met m m n (take (fed_wrote c.from_residual.result) c.args.tray.now) c.args.bytes.now c.from_residual.result
    (ap (λ a. (m, take (fed_wrote a) c.args.tray.now, a)) says ∙ sym (feed_short m n c.args.bytes.now on short)) in
    record { model = r.model; bytes = r.bytes; answer = r.answer; refused = rw says (refl, refl); room = rw says (untouched c.args.tray.now); memory = sym (memory_kept g.S.Store m.core m.core c.args.self.now.core.store refl); history = r.history }

pub returns-in_default : goal.returns-in_default
returns-in_default g c =
    let m : Model = model_of g.S.Store g.T.Sensor c.args.self.now in
    let n : ℕ = length c.args.tray.now in
    let on : powered m ≡ true = search rules in
    let long : 2055 ≤ n = search rules in
    let bs : List ℕ = c.args.bytes.now in
    let first : c.in_ok-tray.tray.now ≡ take 2055 c.args.tray.now = search rules in
    let same = ap (λ x. x ++ drop 2055 c.args.tray.now) first ∙ take-append-drop 2055 c.args.tray.now in
    let none : first_parts (filled m.waiting bs) ≡ None = sym (c.in_default.ensures ∙ ap first_parts c.fill-taken.ensures.after) in
    let k : Model = with_core m m.core (held c.fill-taken.new.waiting) in
    let fed : ℕ → Fed = λ t. record { taken = t; written = 0; served = false } in
    let r = feed_met m k n [] bs (Ok (fed c.fill-taken.result))
    (parts k (fill m bs) [] [] (Ok (fed c.fill-taken.result)) (Ok (fed (fills m.waiting bs)))
    (ap (with_core m m.core) c.fill-taken.ensures.after) refl (ap (λ t. Ok (fed t)) c.fill-taken.ensures.count)
    ∙ sym (feed_takes m n bs on long none)) in
    record { model = r.model; bytes = r.bytes; answer = r.answer; refused = tt; room = subst (InTray 0 c.args.tray.now) (sym same) (untouched c.args.tray.now); memory = sym (memory_kept g.S.Store m.core m.core c.args.self.now.core.store refl); history = r.history }

pub returns : goal.returns
returns g c =
    let m : Model = model_of g.S.Store g.T.Sensor c.args.self.now in
    let n : ℕ = length c.args.tray.now in
    let on : powered m ≡ true = search rules in
    let long : 2055 ≤ n = search rules in
    let bs : List ℕ = c.args.bytes.now in
    let p : Parts = seen c.in-Some.frame in
    let one : first_parts (filled m.waiting bs) ≡ Some p = sym (c.in-Some.ensures ∙ ap first_parts c.fill-taken.ensures.after) in
    let s : Step = served m.device_id p m.core in
    let does : Stepped s (core_of g.S.Store c.serve-written.new.self) c.serve-written.result c.serve-written.new.tray = c.serve-written.ensures.does in
    let size : length (c.serve-written.new.tray ++ drop 2055 c.args.tray.now) ≡ n = search rules in
    let behind : List ℕ = drop 2055 c.args.tray.now in
    let front = sent_front s.1 c.serve-written.result c.serve-written.new.tray behind does.wrote in
    let k : Model = with_core m (core_of g.S.Store c.serve-written.new.self) (held c.pass.new.self) in
    let fed : ℕ → ℕ → Fed = λ t w. record { taken = t; written = w; served = true } in
    let r = feed_met m k n (take c.serve-written.result (c.serve-written.new.tray ++ behind)) bs (Ok (fed c.fill-taken.result c.serve-written.result))
    (parts k (with_core m s.0 (passed (filled m.waiting bs))) (take c.serve-written.result (c.serve-written.new.tray ++ behind)) s.1
    (Ok (fed c.fill-taken.result c.serve-written.result)) (Ok (fed (fills m.waiting bs) (length s.1)))
    (ap₂ (with_core m) does.core (c.pass.ensures ∙ ap passed c.fill-taken.ensures.after)) front
    (ap₂ (λ t w. Ok (fed t w)) c.fill-taken.ensures.count does.wrote.count)
    ∙ sym (feed_serves m n bs p on long one)) in
    record { model = r.model; bytes = r.bytes; answer = r.answer; refused = tt; room = in_front s.1 c.serve-written.result c.serve-written.new.tray c.args.tray.now size long does.wrote; memory = c.serve-written.ensures.memory; history = r.history }
