-- The settings of the factory are valid, and these values are theirs.
use Rattle.std.proofs.Common.{◌≡◌, ℕ, true, List, refl}
use Rattle.mti.specs.declared.product.Product.{Product}
use Rattle.mti.specs.declared.product.Product.TheVariants.{Mti3, Mti30, Mti300, MtiG710}
use Rattle.mti.specs.Channels.{channel_of}
use Rattle.settings.specs.declared.record.Entry.{Entry}
use Rattle.settings.specs.Values.{Values}
use Rattle.settings.specs.Valid.{first_profile, valid_entry, valid}
use Rattle.settings.specs.Factory.{factory_entries, factory_of}

pub factory_valid : (p : Product) → valid (factory_of p) ≡ true
unfolding valid factory_of valid_entry channel_of
factory_valid Mti3 = refl
factory_valid Mti30 = refl
factory_valid Mti300 = refl
factory_valid MtiG710 = refl

pub factory_values : (p : Product) (first : ℕ) (es : List Entry) → first ≡ first_profile p → es ≡ factory_entries p
    → ◌≡◌ {A = Values} (record { product = p; baud = 2; profile = first; error_mode = 1; location = 0; flags = 0; entries = es }) (factory_of p)
unfolding factory_of
factory_values p first es f e =
    λ i. record { product = p; baud = 2; profile = f i; error_mode = 1; location = 0; flags = 0; entries = e i }
