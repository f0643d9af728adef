-- Whole numbers as bytes, the highest first, at any width.
use Rattle.std.specs.Prelude.{◌≡◌, ℕ, zero, suc, ◌+◌, ◌*◌, ◌/◌, ◌%◌, ◌^◌, ◌<◌, List, [], ◌∷◌, length}

-- each element is a byte
abbrev pub Bytes : List ℕ → Type 0
Bytes [] = Unit {0}
Bytes (x ∷ xs) = (x < 256) × Bytes xs

-- the lowest k bytes of n
abbrev pub be : ℕ → ℕ → List ℕ
be zero n = []
be (suc k) n = n / 256 ^ k % 256 ∷ be k n

-- the number that bytes stand for
abbrev pub number_of : List ℕ → ℕ
number_of [] = 0
number_of (b ∷ bs) = b * 256 ^ length bs + number_of bs

-- Widths share one law: k bytes give back the number modulo 256 ^ k, and a number gives back its bytes.
pub record NumbersInverse : Type 0 where
  pub number_back : (k n : ℕ) → number_of (be k n) ≡ n % 256 ^ k
  pub bytes_back : (bs : List ℕ) → Bytes bs → be (length bs) (number_of bs) ≡ bs
