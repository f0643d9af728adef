-- The model of a unit over any store and sensor, what it is made from, and what a call leaves in its tray.
use Rattle.std.specs.Prelude.{◌≡◌, ℕ, ◌≤◌, List, length, drop, Ok, Err, Result}
use Rattle.mti.specs.declared.product.Product.{Product}
use Rattle.store.specs.declared.port.Store as store
use Rattle.sensor.specs.declared.sensors.Sensor as sensor
use Rattle.stream.specs.Waiting.{held}
use Rattle.session.specs.declared.answers.Fed.{Fed}
use Rattle.session.specs.declared.answers.Refusal.{Refusal}
use Rattle.session.specs.Model.{Model, World}
use Rattle.session.specs.Calls.{least_tray}
use Rattle.unit.specs.declared.device.Device.{Device}
use Rattle.unit.specs.Of.{kept_of, core_of}

-- what a unit means
abbrev pub model_of : {S T : Type 0} → store.Ghosts S → sensor.Ghosts T → Device S T → Model
model_of g h d = record { device_id = d.device_id; meaning = h.meaning d.sensor; core = core_of g d.core; waiting = held d.waiting }

-- what a unit is made from
abbrev pub world_of : {S T : Type 0} → store.Ghosts S → sensor.Ghosts T → Product → ℕ → S → T → World
world_of g h p id s t = record { product = p; device_id = id; store = kept_of g s; meaning = h.meaning t }

-- how many bytes a call wrote, by its answer

abbrev pub wrote : Result ℕ Refusal → ℕ
wrote (Ok n) = n
wrote (Err e) = 0

abbrev pub fed_wrote : Result Fed Refusal → ℕ
fed_wrote (Ok f) = f.written
fed_wrote (Err e) = 0

-- the n bytes that a call says it wrote lie in its tray, and in the first 2,055 bytes of it; the bytes behind these stay
pub record InTray (n : ℕ) (before after : List ℕ) : Type 0 where
  pub within : n ≤ length after
  pub most : n ≤ least_tray
  pub size : length after ≡ length before
  pub behind : drop least_tray after ≡ drop least_tray before
