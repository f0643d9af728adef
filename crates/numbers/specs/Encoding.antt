-- How a reading v, a whole number of units of 2 ^ -32, is sent.
use Rattle.std.specs.Prelude.{ℕ, suc, ◌-◌, ◌%◌, ◌^◌, Bool, true, false, ◌&&◌, List, ℤ, pos, negsuc, int_le, to_bits, Float}
use Rattle.std.specs.Float.{Format, binary32, binary64}
use Rattle.std.specs.Float.Ieee.{round}
use Rattle.std.specs.Int.{saturate_to_bits}
use Rattle.xbus.specs.Numbers.{be}
use Rattle.mti.specs.Precisions.{width_of}
use Rattle.mti.specs.declared.precision.Precision.{Precision}
use Rattle.mti.specs.declared.precision.Precision.TheVariants.{Single, Fixed32, Fixed48, Double}
use Rattle.mti.specs.Readings.{lowest, highest}
use Rattle.numbers.specs.Steps.{steps}

-- a reading that can be sent
abbrev pub in_range : ℤ → Bool
in_range v = int_le lowest v && int_le v highest

-- two's complement of k bytes: z modulo 256 ^ k
abbrev pub twos : ℕ → ℤ → ℕ
twos k (pos n) = n % 256 ^ k
twos k (negsuc n) = 256 ^ k - 1 - n % 256 ^ k

-- the number of the format f nearest to v / 2 ^ 32, of two the one with the even significand
abbrev pub rounded : Format → ℤ → Float
rounded f (pos n) = round f false n (2 ^ 32)
rounded f (negsuc n) = round f true (suc n) (2 ^ 32)

-- the bits in a precision, as a number
unfoldable pub code_of : Precision → ℤ → ℕ
code_of Single v = to_bits binary32 (rounded binary32 v)
code_of Fixed32 v = twos 4 (saturate_to_bits 31 (steps v))
code_of Fixed48 v = twos 6 v
code_of Double v = to_bits binary64 (rounded binary64 v)

-- the bytes in a precision, the highest first
unfoldable pub encoded : Precision → ℤ → List ℕ
encoded p v = be (width_of p) (code_of p v)
