-- What the core of a unit means over any store, and the bytes lent to its store.
use Rattle.std.specs.Prelude.{ℕ, cond, List, nat_lt}
use Rattle.store.specs.declared.port.Store.{Ghosts}
use Rattle.settings.specs.View.{values_of}
use Rattle.settings.specs.Image.{image_of}
use Rattle.session.specs.Model.{Core as Modelled, Kept}
use Rattle.unit.specs.declared.cores.Core.{Core}

-- what a store means
abbrev pub kept_of : {S : Type 0} → Ghosts S → S → Kept
kept_of g s = record { held = g.held s; left = g.left s }

-- a core by the values of its settings and what its store means
abbrev pub core_of : {S : Type 0} → Ghosts S → Core S → Modelled
core_of g c = record { state = c.state; settings = values_of c.settings; counts = c.counts; store = kept_of g c.store }

-- the bytes lent to a store that was s, where the core went from c to d: a write that was spent stored the settings' image
abbrev pub memory_by : {S : Type 0} → Ghosts S → Modelled → Modelled → S → List ℕ
memory_by g c d s = cond (nat_lt d.store.left c.store.left) (g.overwritten (image_of d.settings) (g.memory s)) (g.memory s)
