-- What a unit is, over the meanings of its store and its sensor.
use Rattle.std.specs.Prelude.{ℕ, List, [], ℤ, None, Option}
use Rattle.mti.specs.declared.product.Product.{Product}
use Rattle.decision.specs.declared.states.State.{State}
use Rattle.settings.specs.Values.{Values}
use Rattle.settings.specs.Factory.{factory_of}
use Rattle.session.specs.declared.counts.Counts.{Counts}

-- for each channel, index and tick number a reading or none
abbrev pub Meaning : Type 0
Meaning = ℕ → ℕ → ℕ → Option ℤ

-- what a store means: the image held, if any, and the writes left
pub record Kept : Type 0 where
  pub held : Option (List ℕ)
  pub left : ℕ

-- what a unit serves and ticks with; its state is none while it is dark
pub record Core : Type 0 where
  pub state : Option State
  pub settings : Values
  pub counts : Counts
  pub store : Kept

pub record Model : Type 0 where
  pub device_id : ℕ
  pub meaning : Meaning
  pub core : Core
  -- the bytes that wait
  pub waiting : List ℕ

-- what a unit is made from
pub record World : Type 0 where
  pub product : Product
  pub device_id : ℕ
  pub store : Kept
  pub meaning : Meaning

abbrev pub no_counts : Counts
no_counts = record { wake_ticks = 0; sent = 0; number = 0; phase = 0; seconds = 0 }

-- a unit is made dark
unfoldable pub making : World → Model
making w = record {
  device_id = w.device_id;
  meaning = w.meaning;
  core = record { state = None; settings = factory_of w.product; counts = no_counts; store = w.store };
  waiting = [];
}

-- what a session ends in: dark or the state, settings, the five counts, the store's meaning; and the bytes that wait
pub record EndState : Type 0 where
  pub core : Core
  pub waiting : List ℕ

abbrev pub end_of : Model → EndState
end_of m = record { core = m.core; waiting = m.waiting }
