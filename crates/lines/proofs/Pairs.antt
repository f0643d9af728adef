-- The digits of a byte stand for it.
use Rattle.std.proofs.Common.{◌≡◌, ℕ, ◌<◌, Some, arith}
use Rattle.std.proofs.lemmas.Bool.Decides.{nat_tests}
use Rattle.lines.specs.Bytes.{byte_of, digits_of}

pub byte_of_digits : (b : ℕ) → b < 256 → byte_of (digits_of b) ≡ Some b
byte_of_digits b h = grind (arith, nat_tests)
