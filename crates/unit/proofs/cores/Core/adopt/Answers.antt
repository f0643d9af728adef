-- New settings are saved and adopted, or the save is refused.
use Rattle.std.proofs.Common.{◌≡◌, ℕ, ◌-◌, List, Some, sym, ap, ap₂, ◌∙◌, subst}
use Rattle.xbus.specs.Parts.{Parts, seen}
use Rattle.store.proofs.Meanings.{refuses_none, refused_held, refused_left, refused_memory, accepted_held, accepted_left, accepted_memory}
use Rattle.settings.specs.Values.{Values}
use Rattle.settings.specs.View.{values_of}
use Rattle.settings.specs.Image.{image_of}
use Rattle.session.specs.Model.{Core as Modelled, Kept}
use Rattle.session.specs.Serving.{Step, with_settings}
use Rattle.unit.specs.declared.cores.Core.{Core}
use Rattle.unit.specs.Of.{core_of, kept_of}
use Rattle.unit.specs.Steps.{Stepped}
use Rattle.unit.proofs.Adopted.{adopted_unstored, adopted_refused, adopted_saved, save_refused, save_accepted, memory_stored, memory_kept}
use Rattle.unit.proofs.cores.Core.adopt.Goals as goal
use Rattle.unit.proofs.cores.Core.adopt.Goals.{else-is_storing-via-then-is_storing+else-is_err, else-is_storing-via-else-is_storing}

abbrev with_store : Modelled → Kept → Modelled
with_store c k = record { state = c.state; settings = c.settings; counts = c.counts; store = k }

pub returns-then-is_err : goal.returns-then-is_err
returns-then-is_err g c =
    let core : Modelled = core_of g.S.Store c.args.self.now in
    let s : Values = values_of c.args.settings.now in
    let xs : List ℕ = c.image.result in
    let none = save_refused xs c.image.ensures.size c.save.result core.store.left c.save.ensures.answer (sym c.is_err.ensures.value ∙ c.if-is_err.true) in
    let no = refuses_none xs core.store.left none in
    let left = c.save.ensures.left ∙ refused_left xs core.store.left no in
    let kept : kept_of g.S.Store c.save.new.self ≡ core.store =
    ap₂ (λ h l. record { held = h; left = l }) (c.save.ensures.held ∙ refused_held xs core.store.left no core.store.held) left in
    record {
      does = subst (λ (t : Step). Stepped t (with_store core (kept_of g.S.Store c.save.new.self)) c.refuse.result c.refuse.new.tray)
          (sym (adopted_refused (seen c.args.request) c.args.content.now s core (sym c.is_storing.ensures ∙ c.if-is_storing.true) none))
          (record { core = ap (with_store core) kept; wrote = c.refuse.ensures });
      memory = c.save.ensures.memory
          ∙ refused_memory xs core.store.left no g.S.Store.overwritten (g.S.Store.memory c.args.self.now.store)
          ∙ sym (memory_kept g.S.Store core (with_store core (kept_of g.S.Store c.save.new.self)) c.args.self.now.store left);
    }

pub returns : goal.returns
returns g c =
    let core : Modelled = core_of g.S.Store c.args.self.now in
    let s : Values = values_of c.args.settings.now in
    let p : Parts = seen c.args.request in
    let now : Core g.row.S.Denot = c.else-is_storing.self in
    elim c.else-is_storing.branch [
      | else-is_storing-via-then-is_storing+else-is_err w ↦ (
          let xs : List ℕ = w.image.result in
          let more = save_accepted xs w.image.ensures.size w.save.result core.store.left w.save.ensures.answer (sym w.is_err.ensures.value ∙ w.if-is_err.false) in
          let left = w.save.ensures.left ∙ accepted_left xs core.store.left w.image.ensures.size more in
          let kept : kept_of g.S.Store w.save.new.self ≡ record { held = Some (image_of s); left = core.store.left - 1 } =
          ap₂ (λ h l. record { held = h; left = l })
          (w.save.ensures.held ∙ accepted_held xs core.store.left w.image.ensures.size more core.store.held ∙ ap Some w.image.ensures.is) left in
          record {
            does = subst (λ (t : Step). Stepped t (with_settings (core_of g.S.Store now) s (kept_of g.S.Store now.store)) c.reply.result c.reply.new.tray)
                (sym (adopted_saved p c.args.content.now s core (sym c.is_storing.ensures ∙ w.if-is_storing.true) more))
                (record {
                  core = ap (λ (x : Core g.row.S.Denot). with_settings (core_of g.S.Store x) s (kept_of g.S.Store x.store)) w.self-is ∙ ap (with_settings core s) kept;
                  wrote = c.reply.ensures;
                });
            memory = ap (λ (x : Core g.row.S.Denot). g.S.Store.memory x.store) w.self-is ∙ w.save.ensures.memory
                ∙ accepted_memory xs core.store.left w.image.ensures.size more g.S.Store.overwritten (g.S.Store.memory c.args.self.now.store)
                ∙ ap (λ (i : List ℕ). g.S.Store.overwritten i (g.S.Store.memory c.args.self.now.store)) w.image.ensures.is
                ∙ sym (memory_stored g.S.Store core (with_settings (core_of g.S.Store now) s (kept_of g.S.Store now.store)) c.args.self.now.store
                (ap (λ (x : Core g.row.S.Denot). g.S.Store.left x.store) w.self-is ∙ left) more);
          })
      | else-is_storing-via-else-is_storing w ↦
          record {
            does = subst (λ (t : Step). Stepped t (with_settings (core_of g.S.Store now) s (kept_of g.S.Store now.store)) c.reply.result c.reply.new.tray)
                (sym (adopted_unstored p c.args.content.now s core (sym c.is_storing.ensures ∙ w.if-is_storing.false)))
                (record {
                  core = ap (λ (x : Core g.row.S.Denot). with_settings (core_of g.S.Store x) s (kept_of g.S.Store x.store)) w.self-is;
                  wrote = c.reply.ensures;
                });
            memory = ap (λ (x : Core g.row.S.Denot). g.S.Store.memory x.store) w.self-is
                ∙ sym (memory_kept g.S.Store core (with_settings (core_of g.S.Store now) s (kept_of g.S.Store now.store)) c.args.self.now.store
                (ap (λ (x : Core g.row.S.Denot). g.S.Store.left x.store) w.self-is));
          }
    ]
