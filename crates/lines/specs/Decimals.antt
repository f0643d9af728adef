-- Decimal numbers.
use Rattle.std.specs.Prelude.{◌≡◌, ℕ, ◌+◌, ◌-◌, ◌*◌, ◌^◌, ◌<◌, cond, ◌&&◌, List, [], ◌∷◌, Some, None, decimal, Option, nat_lt}
use Rattle.std.specs.Char.{is_ascii_digit}
use Rattle.std.specs.Str.{all_ascii_digits}

-- the number that digits stand for, after those that stand for n
abbrev pub value_after : ℕ → List ℕ → ℕ
value_after n [] = n
value_after n (c ∷ cs) = value_after (10 * n + (c - 48)) cs

-- n with the digit c behind it; none if c is no digit or the number is 2^64 or more
abbrev pub with_digit : ℕ → ℕ → Option ℕ
with_digit n c = cond (is_ascii_digit c && nat_lt (10 * n + (c - 48)) (2 ^ 64)) (Some (10 * n + (c - 48))) None

-- the number below 2^64 that one or more decimal digits stand for; none for any other word
abbrev pub decimal_of : List ℕ → Option ℕ
decimal_of [] = None
decimal_of (c ∷ cs) = cond (all_ascii_digits (c ∷ cs) && nat_lt (value_after 0 (c ∷ cs)) (2 ^ 64)) (Some (value_after 0 (c ∷ cs))) None

-- a number as `{}` writes it reads back
abbrev pub DecimalReadsBack : Type 0
DecimalReadsBack = (n : ℕ) → n < 2 ^ 64 → decimal_of (decimal n) ≡ Some n
