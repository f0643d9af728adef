-- The thousandth tick leads to Measurement, and Configuration is the first frame in the tray.
use Rattle.std.proofs.Common.{◌≡◌, [], true, false, sym, refl, ap, ◌∙◌, subst, arith}
use Rattle.std.proofs.lemmas.Bool.{le-leb}
use Rattle.settings.specs.Values.{Values}
use Rattle.session.specs.Model.{Core as Modelled}
use Rattle.session.specs.Sending.{configuration}
use Rattle.session.specs.Ticking.{configures, thousandth, wake_tick}
use Rattle.unit.specs.Of.{core_of}
use Rattle.unit.specs.Steps.{Sent}
use Rattle.unit.proofs.cores.Core.wake_tick.Goals as goal

pub returns-clause-does : goal.returns-clause-does
unfolding wake_tick
returns-clause-does g c =
    let core : Modelled = core_of g.S.Store c.args.self.now in
    let late : thousandth core.counts ≡ true = le-leb 999 core.counts.wake_ticks (omega (arith, c.if-self.false)) in
    let stays : configures core.settings ≡ false = sym c.configures.ensures ∙ c.if-configures.false in
    let same : (core_of g.S.Store c.measure.new.self).settings ≡ core.settings = ap (λ (x : Modelled). x.settings) c.measure.ensures.does in
    let wrote = c.send_configuration.ensures [] (record { count = refl; bytes = refl }) in
    rw (late, stays) (record {
      core = c.measure.ensures.does;
      wrote = subst (λ (s : Values). Sent (configuration c.args.device_id s) c.send_configuration.result c.send_configuration.new.tray) same wrote;
    })
