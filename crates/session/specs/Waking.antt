-- Power, and what Reset does behind its reply.
use Rattle.std.specs.Prelude.{ℕ, List, Some, None, Option}
use Rattle.std.specs.Option.{unwrap_or}
use Rattle.mti.specs.declared.product.Product.{Product}
use Rattle.decision.specs.declared.states.State.TheVariants.{WakeUp}
use Rattle.settings.specs.Values.{Values}
use Rattle.settings.specs.Factory.{factory_of}
use Rattle.settings.specs.Image.{load_of}
use Rattle.session.specs.Model.{Core, no_counts}

-- the settings that a store gives: those of the image held, or the factory's
abbrev pub loaded : Product → Option (List ℕ) → Values
loaded p None = factory_of p
loaded p (Some image) = unwrap_or (load_of p image) (factory_of p)

-- settings are loaded, WakeUp begins, and the five counts are 0
unfoldable pub woken : Core → Core
woken c = record {
  state = Some WakeUp;
  settings = loaded c.settings.product c.store.held;
  counts = no_counts;
  store = c.store;
}
