-- Bytes as pairs of hexadecimal digits.
use Rattle.std.specs.Prelude.{◌≡◌, ℕ, ◌+◌, ◌-◌, ◌*◌, ◌/◌, ◌%◌, ◌<◌, cond, ◌&&◌, List, [], ◌∷◌, ◌++◌, length, Some, None, Option, ◌≢◌, nat_le, nat_lt}
use Rattle.std.specs.List.{flat_map, AllByRecursion}
use Rattle.lines.specs.Words.{next_word, words_of}

-- what a hexadecimal digit, upper or lower case, stands for; none for any other byte
abbrev pub hex_value : ℕ → Option ℕ
hex_value c =
    cond (nat_le 48 c && nat_le c 57) (Some (c - 48))
    (cond (nat_le 65 c && nat_le c 70) (Some (c - 55)) (cond (nat_le 97 c && nat_le c 102) (Some (c - 87)) None))

-- the upper-case hexadecimal digit for n
abbrev pub hex_digit : ℕ → ℕ
hex_digit n = cond (nat_lt n 10) (48 + n) (55 + n)

-- sixteen times the first and the second, if both are there
abbrev pub paired : Option ℕ → Option ℕ → Option ℕ
paired None l = None
paired (Some h) None = None
paired (Some h) (Some l) = Some (h * 16 + l)

-- the byte that exactly two digits stand for; none for any other word
abbrev pub byte_of : List ℕ → Option ℕ
byte_of [] = None
byte_of (h ∷ []) = None
byte_of (h ∷ l ∷ []) = paired (hex_value h) (hex_value l)
byte_of (h ∷ l ∷ x ∷ xs) = None

-- the two digits of a byte
abbrev pub digits_of : ℕ → List ℕ
digits_of b = hex_digit (b / 16) ∷ hex_digit (b % 16) ∷ []

-- x in front of the rest, if both are there
abbrev pub joined_to : Option ℕ → Option (List ℕ) → Option (List ℕ)
joined_to None xs = None
joined_to (Some x) None = None
joined_to (Some x) (Some xs) = Some (x ∷ xs)

-- the bytes that words stand for; none if one of them is not a byte
abbrev pub bytes_in : List (List ℕ) → Option (List ℕ)
bytes_in [] = Some []
bytes_in (w ∷ ws) = joined_to (byte_of w) (bytes_in ws)

-- the bytes that a line's words stand for
abbrev pub bytes_of : List ℕ → Option (List ℕ)
bytes_of line = bytes_in (words_of line)

-- bytes as they are printed: a space and two digits for each
abbrev pub printed : List ℕ → List ℕ
printed xs = flat_map (λ b. 32 ∷ digits_of b) xs

-- what is printed reads back
abbrev pub ReadsBack : Type 0
ReadsBack = (xs : List ℕ) → AllByRecursion (λ x. x < 256) xs → bytes_of (printed xs) ≡ Some xs

-- of what is printed behind a word, the word is the first word and the bytes are the rest
abbrev pub CommandReadsBack : Type 0
CommandReadsBack = (word xs : List ℕ) → 0 < length word → AllByRecursion (λ x. x ≢ 32) word → next_word (word ++ printed xs) ≡ Some (word, printed xs)
