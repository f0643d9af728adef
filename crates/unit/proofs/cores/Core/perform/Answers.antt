-- Measurement and Reset write a second frame behind the reply.
use Rattle.std.proofs.Common.{◌≡◌, [], ◌++◌, sym, refl, ap, ◌∙◌, subst}
use Rattle.xbus.specs.Parts.{Parts, seen}
use Rattle.decision.specs.Asked.{Asked, asking}
use Rattle.settings.specs.Values.{Values}
use Rattle.session.specs.Model.{Core as Modelled}
use Rattle.session.specs.Sending.{reply, configuration}
use Rattle.session.specs.Serving.{performed}
use Rattle.session.specs.Waking.{woken}
use Rattle.unit.specs.Of.{core_of}
use Rattle.unit.specs.Steps.{Sent, Stepped}
use Rattle.unit.proofs.Adopted.{memory_kept}
use Rattle.unit.proofs.cores.Core.perform.Goals as goal

woken_left : (c : Modelled) → (woken c).store.left ≡ c.store.left
unfolding woken
woken_left c = refl

pub returns-in-Measure-clause-does : goal.returns-in-Measure-clause-does
unfolding performed
returns-in-Measure-clause-does g c =
    let p : Parts = seen c.args.request in
    let core : Modelled = core_of g.S.Store c.args.self.now in
    let same : (core_of g.S.Store c.measure.new.self).settings ≡ core.settings = ap (λ (x : Modelled). x.settings) c.measure.ensures.does in
    let wrote = c.send_configuration.ensures (reply p []) c.reply-end.ensures in
    subst (λ (a : Asked). Stepped (performed c.args.device_id p a core) (core_of g.S.Store c.measure.new.self) c.send_configuration.result c.send_configuration.new.tray)
    (sym (ap asking c.in-Measure.is))
    (record {
      core = c.measure.ensures.does;
      wrote = subst (λ (s : Values). Sent (reply p [] ++ configuration c.args.device_id s) c.send_configuration.result c.send_configuration.new.tray) same wrote;
    })

pub returns-in-Reset-clause-does : goal.returns-in-Reset-clause-does
unfolding performed
returns-in-Reset-clause-does g c =
    let p : Parts = seen c.args.request in
    let core : Modelled = core_of g.S.Store c.args.self.now in
    subst (λ (a : Asked). Stepped (performed c.args.device_id p a core) (core_of g.S.Store c.wake.new.self) c.send.result c.send.new.tray)
    (sym (ap asking c.in-Reset.is))
    (record { core = c.wake.ensures.does; wrote = c.send.ensures (reply p []) c.reply-end-in-Reset.ensures })

pub returns-in-Reset-clause-memory : goal.returns-in-Reset-clause-memory
returns-in-Reset-clause-memory g c =
    let core : Modelled = core_of g.S.Store c.args.self.now in
    c.wake.ensures.memory
    ∙ sym (memory_kept g.S.Store core (core_of g.S.Store c.wake.new.self) c.args.self.now.store
    (ap (λ (x : Modelled). x.store.left) c.wake.ensures.does ∙ woken_left core))
