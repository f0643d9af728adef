-- The range of readings.
use Rattle.std.specs.Prelude.{◌-◌, ◌^◌, ℤ, pos, negsuc}

-- a real number's reading, in units of 2^-32, lies from -2^47
abbrev pub lowest : ℤ
lowest = negsuc (2 ^ 47 - 1)

-- to 2^47 - 1
abbrev pub highest : ℤ
highest = pos (2 ^ 47 - 1)
