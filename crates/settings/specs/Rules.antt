-- Which settings a product can have, in words, and that the tests say the same.
use Rattle.std.specs.Prelude.{◌≡◌, ℕ, ◌+◌, ◌/◌, ◌%◌, ◌^◌, ◌<◌, ◌≤◌, true, ◌⊎◌, length, ◌≢◌, slice_index_or}
use Rattle.std.specs.List.{Contains}
use Rattle.mti.specs.declared.product.Product.{Product}
use Rattle.mti.specs.declared.output.Output.{Output}
use Rattle.mti.specs.Channels.{offered_by}
use Rattle.mti.specs.Identifiers.{Known, plain}
use Rattle.settings.specs.declared.record.Entry.{Entry}
use Rattle.settings.specs.Rates.{Divides}
use Rattle.settings.specs.Values.{Values}
use Rattle.settings.specs.Valid.{first_profile, flag_bits, valid}

-- bit k of n is 1
abbrev pub Bit : ℕ → ℕ → Type 0
Bit n k = n / 2 ^ k % 2 ≡ 1

-- the identifier of a channel of the product, in a precision that the channel takes, and a divisor of its maximum
pub record Offered (p : Product) (e : Entry) : Type 0 where
  pub output : Output
  pub known : Known e.identifier output
  pub offered : offered_by output.channel.availability p ≡ true
  pub divides : Divides e.frequency output.channel.max_hz

-- a settings record that its product can have
pub record Valid (c : Values) : Type 0 where
  pub baud : (c.baud ≤ 0x0B) ⊎ (c.baud ≡ 0x80)
  pub profile : (first_profile c.product ≤ c.profile) × (c.profile ≤ first_profile c.product + 4)
  pub error_mode : c.error_mode ≤ 3
  pub location : c.location < 65536
  pub flags : (k : ℕ) → Bit c.flags k → Bit (flag_bits c.product) k
  pub few : length c.entries ≤ 32
  pub each : (e : Entry) → Contains c.entries e → Offered c.product e
  pub apart : (i j : ℕ) (d : Entry) → i < j → j < length c.entries
      → plain (slice_index_or c.entries i d).identifier ≢ plain (slice_index_or c.entries j d).identifier

-- the tests say exactly that
pub record ValidSaid : Type 0 where
  pub sound : (c : Values) → valid c ≡ true → Valid c
  pub complete : (c : Values) → Valid c → valid c ≡ true
