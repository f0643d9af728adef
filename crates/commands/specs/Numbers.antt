-- What words stand for.
use Rattle.std.specs.Prelude.{ℕ, ◌+◌, ◌*◌, ◌^◌, cond, List, [], ◌∷◌, take, drop, Some, None, Option, ◌==◌, ℤ, pos, neg_ℤ, nat_lt}
use Rattle.std.specs.Option.{option_map}
use Rattle.lines.specs.Bytes.{byte_of}
use Rattle.lines.specs.Decimals.{decimal_of}

-- the word, if it is the only one
abbrev pub only : List (List ℕ) → Option (List ℕ)
only [] = None
only (w ∷ []) = Some w
only (w ∷ v ∷ ws) = None

-- base times the first and the second, if both are there
abbrev pub joined : ℕ → Option ℕ → Option ℕ → Option ℕ
joined base None l = None
joined base (Some h) None = None
joined base (Some h) (Some l) = Some (h * base + l)

-- the number that four hexadecimal digits stand for
abbrev pub identifier_of : List ℕ → Option ℕ
identifier_of word = joined 256 (byte_of (take 2 word)) (byte_of (drop 2 word))

-- the number that eight hexadecimal digits stand for
abbrev pub device_id_of : List ℕ → Option ℕ
device_id_of word = joined 65536 (identifier_of (take 4 word)) (identifier_of (drop 4 word))

-- a number, if it is there and below the bound
abbrev pub below : ℕ → Option ℕ → Option ℕ
below bound None = None
below bound (Some n) = cond (nat_lt n bound) (Some n) None

-- the number below 2^63 that decimal digits stand for
abbrev pub magnitude_of : List ℕ → Option ℤ
magnitude_of digits = option_map pos (below (2 ^ 63) (decimal_of digits))

-- the whole number that decimal digits, with a minus sign in front or not, stand for
abbrev pub integer_of : List ℕ → Option ℤ
integer_of [] = None
integer_of (c ∷ cs) = cond (c == 45) (option_map neg_ℤ (magnitude_of cs)) (magnitude_of (c ∷ cs))
