-- The identifiers of data in a message, and the sizes of that data.
use Rattle.std.specs.Prelude.{◌≡◌, ℕ, ◌+◌, ◌-◌, ◌*◌, ◌%◌, ◌≤◌, true, cond, Some, None, Option}
use Rattle.std.specs.Option.{option_map}
use Rattle.mti.specs.declared.channel.Channel.{Channel}
use Rattle.mti.specs.declared.channel.Kind.{Kind}
use Rattle.mti.specs.declared.channel.Kind.TheVariants.{Real, Whole}
use Rattle.mti.specs.declared.output.Output.{Output}
use Rattle.mti.specs.declared.precision.Precision.{Precision}
use Rattle.mti.specs.Channels.{channel_of, taken_by}
use Rattle.mti.specs.Precisions.{digit_of, precision_of, width_of}
use Rattle.mti.specs.Table.{Row}

-- the identifier with the format digit 0
abbrev pub plain : ℕ → ℕ
plain i = i - i % 16

-- the channel in the precision, where there are both and the channel takes it
abbrev pub combined : Option Channel → Option Precision → Option Output
combined None p = None
combined (Some c) None = None
combined (Some c) (Some p) = cond (taken_by c.kind p) (Some (record { channel = c; precision = p })) None

-- what an identifier names
abbrev pub known_of : ℕ → Option Output
known_of i = combined (channel_of (plain i)) (precision_of (i % 16))

-- the channel's identifier with the precision in the place of the format digit
abbrev pub identifier_of : Output → ℕ
identifier_of o = plain o.channel.identifier + digit_of o.precision

-- the bytes of so many real numbers in the precision, or of the whole number
abbrev pub bytes_of : Kind → Precision → ℕ
bytes_of (Real n) p = n * width_of p
bytes_of (Whole w) p = w

-- the bytes of the data of a channel in a precision
abbrev pub size_of : Output → ℕ
size_of o = bytes_of o.channel.kind o.precision

-- the data size of a known identifier
abbrev pub data_size_of : ℕ → Option ℕ
data_size_of i = option_map size_of (known_of i)

-- i is the identifier of a channel of the table in a precision that the channel takes
pub record Known (i : ℕ) (o : Output) : Type 0 where
  pub row : Row o.channel
  pub taken : taken_by o.channel.kind o.precision ≡ true
  pub spelt : i ≡ o.channel.identifier + digit_of o.precision

-- n is the data size of what i names
abbrev pub KnownSize : ℕ → ℕ → Type 0
KnownSize i n = (o : Output) × Known i o × (size_of o ≡ n)

-- a data size, if there is one, is from 1 to 72 bytes
abbrev pub Bounded : Option ℕ → Type 0
Bounded None = Unit {0}
Bounded (Some n) = (1 ≤ n) × (n ≤ 72)
