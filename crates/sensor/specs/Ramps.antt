-- The ramp.
use Rattle.std.specs.Prelude.{ℕ, ◌+◌, ◌*◌, ◌%◌, ◌^◌, ℤ, pos, ◌-ℤ◌, ◌*ℤ◌, Option}
use Rattle.std.specs.Option.{option_map}
use Rattle.mti.specs.declared.channel.Kind.{Kind}
use Rattle.mti.specs.declared.channel.Kind.TheVariants.{Real, Whole}
use Rattle.sensor.specs.Questions.{asked_of}

-- at index k and tick t: a real number climbs by k + 1 with each tick, from -32,768 up to 32,767 and round; a whole one is the tick
abbrev pub ramp_at : ℕ → ℕ → Kind → ℤ
ramp_at k t (Real n) = (pos ((k + 1) * t % 65536) -ℤ pos 32768) *ℤ pos (2 ^ 32)
ramp_at k t (Whole w) = pos t

-- what the ramp means
unfoldable pub ramp_of : ℕ → ℕ → ℕ → Option ℤ
ramp_of c k t = option_map (ramp_at k t) (asked_of c k)
