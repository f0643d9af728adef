-- What a sensor is asked for.
use Rattle.std.specs.Prelude.{◌≡◌, ℕ, ◌<◌, Bool, cond, ◌||◌, ◌≢◌, Some, None, Option, ◌==◌, nat_lt}
use Rattle.mti.specs.declared.channel.Channel.{Channel}
use Rattle.mti.specs.declared.channel.Kind.{Kind}
use Rattle.mti.specs.declared.channel.Kind.TheVariants.{Real, Whole}
use Rattle.mti.specs.Channels.{channel_of}
use Rattle.mti.specs.Table.{Bearer}

-- the packet counter, the sample times and the status byte: a unit makes these itself
abbrev pub made_by_unit : ℕ → Bool
made_by_unit c = c == 0x1020 || (c == 0x1060 || (c == 0x1070 || c == 0xE010))

-- the channel of the table, unless a unit makes it itself
abbrev pub measured_of : ℕ → Option Channel
measured_of c = cond (made_by_unit c) None (channel_of c)

-- how many numbers the data have
abbrev pub count_of : Kind → ℕ
count_of (Real n) = n
count_of (Whole w) = 1

-- the kind of the number at index k of a channel's data
abbrev pub kind_at : ℕ → Option Channel → Option Kind
kind_at k None = None
kind_at k (Some ch) = cond (nat_lt k (count_of ch.kind)) (Some ch.kind) None

-- the kind of the number at index k of channel c, where a sensor is asked for one
unfoldable pub asked_of : ℕ → ℕ → Option Kind
asked_of c k = kind_at k (measured_of c)

-- the same in words: c is a channel of the table that no unit makes itself, and k an index of its data
pub record Asked (c k : ℕ) (kind : Kind) : Type 0 where
  pub channel : Channel
  pub bears : Bearer c channel
  pub kind_is : channel.kind ≡ kind
  pub not_counter : c ≢ 0x1020
  pub not_fine_time : c ≢ 0x1060
  pub not_coarse_time : c ≢ 0x1070
  pub not_status_byte : c ≢ 0xE010
  pub in_data : k < count_of kind

-- no channel has more than nine numbers
abbrev pub Few : ℕ → Option Kind → Type 0
Few k None = Unit {0}
Few k (Some kind) = k < 9
