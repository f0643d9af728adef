-- The settings that a product leaves the factory with.
use Rattle.std.specs.Prelude.{List, [], ◌∷◌, ◌++◌}
use Rattle.mti.specs.declared.product.Product.{Product}
use Rattle.mti.specs.declared.product.Product.TheVariants.{Mti3, Mti30, Mti300, MtiG710}
use Rattle.settings.specs.declared.record.Entry.{Entry}
use Rattle.settings.specs.Values.{Values, entry}
use Rattle.settings.specs.Valid.{first_profile}

-- at 100 Hz
abbrev pub common : List Entry
common = entry 0x2010 100 ∷ entry 0x1020 100 ∷ entry 0x1060 100 ∷ entry 0xE020 100 ∷ []

abbrev pub factory_entries : Product → List Entry
factory_entries Mti3 = common
factory_entries Mti30 = common
factory_entries Mti300 = common
factory_entries MtiG710 = common ++ (entry 0x5022 100 ∷ entry 0x5042 100 ∷ entry 0xD012 100 ∷ [])

unfoldable pub factory_of : Product → Values
factory_of p = record {
  product = p;
  baud = 0x02;
  profile = first_profile p;
  error_mode = 1;
  location = 0;
  flags = 0;
  entries = factory_entries p;
}
