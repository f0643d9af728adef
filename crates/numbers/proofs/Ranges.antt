-- The range of a reading: the test, and the bound on its size.
use Rattle.std.proofs.Common.{◌≡◌, ◌-◌, ◌^◌, ◌<◌, true, leb, ℤ, pos, negsuc, arith}
use lib.Signed.{mag}
use Rattle.std.proofs.lemmas.Bool.{and_parts, leb-true}
use Rattle.numbers.specs.Encoding.{in_range}

pub in_range_size : (v : ℤ) → in_range v ≡ true → mag v < 2 ^ 47
in_range_size (pos n) h = omega (arith, leb-true n (2 ^ 47 - 1) h)
in_range_size (negsuc n) h = omega (arith, leb-true n (2 ^ 47 - 1) (and_parts (leb n (2 ^ 47 - 1)) true h).0)
