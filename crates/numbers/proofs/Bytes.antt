-- The bytes of a reading: how many, each below 256, and the number that they stand for.
use Rattle.std.proofs.Common.{◌≡◌, suc, ◌^◌, ◌<◌, true, false, T, length, ℤ, pos, negsuc, arith}
use lib.Ieee.{Format, binary32, binary64, fits}
use lib.Ieee.Bits.{to_bits-lt}
use lib.Ieee.Fits.{round-fits}
use Rattle.std.specs.Int.{saturate_to_bits}
use Rattle.xbus.specs.Numbers.{Bytes, number_of}
use Rattle.xbus.proofs.Bytes.{bytes_be}
use Rattle.xbus.proofs.Widths.{length_be, be_back}
use Rattle.mti.specs.Precisions.{width_of}
use Rattle.mti.specs.declared.precision.Precision.{Precision}
use Rattle.mti.specs.declared.precision.Precision.TheVariants.{Single, Fixed32, Fixed48, Double}
use Rattle.numbers.specs.Steps.{steps}
use Rattle.numbers.specs.Encoding.{twos, rounded, code_of, encoded}

pub encoded_length : (p : Precision) (v : ℤ) → length (encoded p v) ≡ width_of p
unfolding encoded
encoded_length p v = length_be (width_of p) (code_of p v)

pub encoded_bytes : (p : Precision) (v : ℤ) → Bytes (encoded p v)
unfolding encoded
encoded_bytes p v = bytes_be (width_of p) (code_of p v)

rounded_fits : (f : Format) (v : ℤ) → T (fits f (rounded f v))
rounded_fits f (pos n) = round-fits f false n (2 ^ 32)
rounded_fits f (negsuc n) = round-fits f true (suc n) (2 ^ 32)

twos4_lt : (z : ℤ) → twos 4 z < 256 ^ 4
twos4_lt (pos n) = omega arith
twos4_lt (negsuc n) = omega arith

twos6_lt : (z : ℤ) → twos 6 z < 256 ^ 6
twos6_lt (pos n) = omega arith
twos6_lt (negsuc n) = omega arith

pub code_lt : (p : Precision) (v : ℤ) → code_of p v < 256 ^ width_of p
unfolding code_of
code_lt Single v = to_bits-lt binary32 (rounded binary32 v) (rounded_fits binary32 v)
code_lt Fixed32 v = twos4_lt (saturate_to_bits 31 (steps v))
code_lt Fixed48 v = twos6_lt v
code_lt Double v = to_bits-lt binary64 (rounded binary64 v) (rounded_fits binary64 v)

pub encoded_number : (p : Precision) (v : ℤ) → number_of (encoded p v) ≡ code_of p v
unfolding encoded
encoded_number p v = be_back (width_of p) (code_of p v) (code_lt p v)
