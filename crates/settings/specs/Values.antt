-- The values of the settings of a unit.
use Rattle.std.specs.Prelude.{ℕ, List, take}
use Rattle.mti.specs.declared.product.Product.{Product}
use Rattle.settings.specs.declared.record.Entry.{Entry}
use Rattle.settings.specs.declared.record.Entries.{Entries}
use Rattle.settings.specs.declared.record.Record.{Record}

pub record Values : Type 0 where
  pub product : Product
  pub baud : ℕ
  pub profile : ℕ
  pub error_mode : ℕ
  pub location : ℕ
  pub flags : ℕ
  pub entries : List Entry

-- an output by its identifier and frequency
abbrev pub entry : ℕ → ℕ → Entry
entry i f = record { identifier = i; frequency = f }

-- the entries that a list in fixed memory has
abbrev pub listed : Entries → List Entry
listed e = take e.count e.list

-- the values in fixed memory, as settings of a product
abbrev pub recorded : Product → Record → Values
recorded p r = record {
  product = p;
  baud = r.baud;
  profile = r.profile;
  error_mode = r.error_mode;
  location = r.location;
  flags = r.flags;
  entries = listed r.entries;
}
