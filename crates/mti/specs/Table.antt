-- What holds of the table of channels, and of looking into it.
use Rattle.std.specs.Prelude.{◌≡◌, ℕ, ◌%◌, ◌<◌, ◌≤◌, ◌⊎◌, length, slice_index_or}
use Rattle.std.specs.List.{Contains}
use Rattle.mti.specs.declared.channel.Kind.{Kind}
use Rattle.mti.specs.declared.channel.Kind.TheVariants.{Real, Whole}
use Rattle.mti.specs.declared.channel.Channel.{Channel}
use Rattle.mti.specs.Channels.{channels}

-- a row of the table
abbrev pub Row : Channel → Type 0
Row c = Contains channels c

-- a row that bears the identifier
abbrev pub Bearer : ℕ → Channel → Type 0
Bearer i c = Row c × (c.identifier ≡ i)

-- one to nine real numbers, or a whole number of 1, 2 or 4 bytes
abbrev pub Moderate : Kind → Type 0
Moderate (Real n) = (1 ≤ n) × (n ≤ 9)
Moderate (Whole w) = (w ≡ 1) ⊎ ((w ≡ 2) ⊎ (w ≡ 4))

-- the identifier has two bytes and the format digit 0, the data are few, and the maximum divides 2000 Hz
pub record Regular (c : Channel) : Type 0 where
  pub two_bytes : c.identifier < 65536
  pub format_0 : c.identifier % 16 ≡ 0
  pub moderate : Moderate c.kind
  pub some_hz : 1 ≤ c.max_hz
  pub divides : 2000 % c.max_hz ≡ 0

-- each row is regular, and identifiers rise from row to row, so that no two are alike
pub record Orderly : Type 0 where
  pub regular : (c : Channel) → Row c → Regular c
  pub rising : (j k : ℕ) (d : Channel) → j < k → k < length channels
      → (slice_index_or channels j d).identifier < (slice_index_or channels k d).identifier
