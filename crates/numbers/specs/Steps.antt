-- The steps of precision 1, of 4096 units each: how a reading is rounded to them.
use Rattle.std.specs.Prelude.{ℕ, ◌/◌, ℤ, pos, negsuc, ◌+ℤ◌, ◌*ℤ◌, ◌≤ℤ◌, ◌<ℤ◌}

-- z / d rounded down: -(n + 1) / d lies from -(n / d) - 1 up to below -(n / d)
abbrev pub floored : ℤ → ℕ → ℤ
floored (pos n) d = pos (n / d)
floored (negsuc n) d = negsuc (n / d)

-- a reading in steps
unfoldable pub steps : ℤ → ℤ
steps v = floored v 4096

-- v lies from s steps up to below s + 1 steps
pub record Floor (v s : ℤ) : Type 0 where
  pub low : (s *ℤ pos 4096) ≤ℤ v
  pub high : v <ℤ ((s +ℤ pos 1) *ℤ pos 4096)
