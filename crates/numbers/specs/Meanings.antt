-- What the bytes of a reading mean in each precision.
use Rattle.std.specs.Prelude.{◌≡◌, ℕ, ◌-◌, ◌*◌, ◌^◌, true, cond, length, replicate, ℤ, pos, negsuc, neg_ℤ, ◌≤ℤ◌, ◌<ℤ◌, nat_lt}
use Rattle.std.specs.Float.{binary32, binary64}
use Rattle.xbus.specs.Numbers.{Bytes, number_of}
use Rattle.mti.specs.Precisions.{width_of}
use Rattle.mti.specs.declared.precision.Precision.{Precision}
use Rattle.mti.specs.declared.precision.Precision.TheVariants.{Single, Fixed32, Fixed48, Double}
use Rattle.numbers.specs.Encoding.{in_range, encoded}
use Rattle.numbers.specs.Steps.{steps, Floor}
use Rattle.numbers.specs.Worked.{Worked}
use Rattle.numbers.specs.Worth.{Nearest, Exact}

-- the number that n is in two's complement of k bytes
abbrev pub signed_of : ℕ → ℕ → ℤ
signed_of k n = cond (nat_lt (n * 2) (256 ^ k)) (pos n) (neg_ℤ (pos (256 ^ k - n)))

-- w is s, or the least or the greatest of -2 ^ 31 .. 2 ^ 31 - 1 where s is below or above them
pub record Held (s w : ℤ) : Type 0 where
  pub same : negsuc (2 ^ 31 - 1) ≤ℤ s → s ≤ℤ pos (2 ^ 31 - 1) → w ≡ s
  pub below : s <ℤ negsuc (2 ^ 31 - 1) → w ≡ negsuc (2 ^ 31 - 1)
  pub above : pos (2 ^ 31 - 1) <ℤ s → w ≡ pos (2 ^ 31 - 1)

pub record Meanings : Type 0 where
  -- bytes, as many as the precision has
  pub size : (p : Precision) (v : ℤ) → length (encoded p v) ≡ width_of p
  pub bytes : (p : Precision) (v : ℤ) → Bytes (encoded p v)
  -- four bytes are a single, the nearest to the reading, with a last bit of 0 where another is as near
  pub single : (v : ℤ) → in_range v ≡ true → Nearest binary32 v (number_of (encoded Single v))
  -- eight bytes are a double, the reading itself
  pub double : (v : ℤ) → in_range v ≡ true → Exact binary64 v (number_of (encoded Double v))
  -- the steps are the whole ones at or below the reading
  pub floor : (v : ℤ) → Floor v (steps v)
  pub floor_only : (v s : ℤ) → Floor v s → s ≡ steps v
  -- four bytes are the whole steps at or below the reading, held to the range of a signed number of 32 bits
  pub fixed32 : (v s : ℤ) → Floor v s → Held s (signed_of 4 (number_of (encoded Fixed32 v)))
  -- six bytes are the reading itself
  pub fixed48 : (v : ℤ) → in_range v ≡ true → signed_of 6 (number_of (encoded Fixed48 v)) ≡ v
  -- all bits of zero are 0
  pub zero : (p : Precision) → encoded p (pos 0) ≡ replicate (width_of p) 0
  -- the worked values
  pub worked : Worked
