-- The frequencies that a channel is sent at: the divisors of its maximum.
use Rattle.std.specs.Prelude.{◌≡◌, ℕ, zero, suc, ◌*◌, ◌%◌, ◌<◌, ◌≤◌, min, cond, ◌==◌}

-- the largest of n, n - 1, .. 1 that divides m; 0 if there is none
abbrev pub divisor_from : ℕ → ℕ → ℕ
divisor_from m zero = 0
divisor_from m (suc n) = cond (m % suc n == 0) (suc n) (divisor_from m n)

-- the frequency used where so many Hz are asked of a channel with the maximum m: no divisor is above m
unfoldable pub largest_divisor : ℕ → ℕ → ℕ
largest_divisor m asked = divisor_from m (min asked m)

-- d divides m
abbrev pub Divides : ℕ → ℕ → Type 0
Divides d m = (k : ℕ) × (k * d ≡ m)

-- r divides m and is not above what was asked, and no divisor of m that is not above it is larger
pub record Largest (m asked r : ℕ) : Type 0 where
  pub divides : Divides r m
  pub within : r ≤ asked
  pub largest : (d : ℕ) → Divides d m → d ≤ asked → d ≤ r

-- in words: where a maximum of at least 1 Hz is asked for at least 1 Hz, the largest divisor is used, and it is the only
-- such number; where 0 Hz are asked, 0 is used, which divides nothing
pub record DivisorSaid : Type 0 where
  pub is : (m asked : ℕ) → 0 < m → 0 < asked → Largest m asked (largest_divisor m asked)
  pub only : (m asked r : ℕ) → 0 < m → Largest m asked r → r ≡ largest_divisor m asked
  pub none : (m : ℕ) → largest_divisor m 0 ≡ 0
