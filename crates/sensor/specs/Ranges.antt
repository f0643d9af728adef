-- The ranges of a channel's numbers, which every sensor keeps to.
use Rattle.std.specs.Prelude.{◌≡◌, ℕ, ◌-◌, ◌^◌, ◌<◌, ℤ, pos, ◌≤ℤ◌, ◌<ℤ◌, Some, Option}
use Rattle.std.specs.Int.{int_max, int_min}
use Rattle.mti.specs.declared.channel.Channel.{Channel}
use Rattle.mti.specs.declared.channel.Kind.{Kind}
use Rattle.mti.specs.declared.channel.Kind.TheVariants.{Real, Whole}
use Rattle.mti.specs.Readings.{lowest, highest}
use Rattle.mti.specs.Table.{Bearer}
use Rattle.sensor.specs.Questions.{count_of}

-- real numbers, in units of 2^-32, lie from -2^47 to 2^47 - 1, whole ones from 0 to 2^32 - 1
abbrev pub least_of : Kind → ℤ
least_of (Real n) = lowest
least_of (Whole w) = pos 0

abbrev pub greatest_of : Kind → ℤ
greatest_of (Real n) = highest
greatest_of (Whole w) = pos (2 ^ 32 - 1)

abbrev pub Within : Kind → ℤ → Type 0
Within kind v = (least_of kind ≤ℤ v) × (v ≤ℤ greatest_of kind)

-- a reading at index k of channel c: what is there, at an index of the data of a channel of the table, is in its range
abbrev pub InRange : ℕ → ℕ → Option ℤ → Type 0
InRange c k reading =
    (ch : Channel) (v : ℤ) → Bearer c ch → k < count_of ch.kind → reading ≡ Some v → Within ch.kind v

-- the readings are in range, at every channel, index and tick
pub record Ranged (meaning : ℕ → ℕ → ℕ → Option ℤ) : Type 0 where
  pub in_range : (c k t : ℕ) → t < 2 ^ 32 → InRange c k (meaning c k t)

-- v held between the least and the greatest
abbrev pub clamped_of : Kind → ℤ → ℤ
clamped_of kind v = int_max (least_of kind) (int_min v (greatest_of kind))

-- the same in words
pub record Clamped (kind : Kind) (v w : ℤ) : Type 0 where
  pub within : Within kind w
  pub same : Within kind v → w ≡ v
  pub below : v <ℤ least_of kind → w ≡ least_of kind
  pub above : greatest_of kind <ℤ v → w ≡ greatest_of kind
