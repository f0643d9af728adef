-- What the bits of an IEEE 754 number stand for, and which of them are nearest to a reading.
use Rattle.std.specs.Prelude.{◌≡◌, ℕ, zero, suc, ◌+◌, ◌-◌, ◌*◌, ◌/◌, ◌%◌, ◌^◌, ◌<◌, ◌≤◌, Bool, true, false, ◌⊎◌, ℤ, pos, ◌-ℤ◌, ◌*ℤ◌, neg_ℤ, nat_le, unsigned_abs}
use Rattle.std.specs.Float.{Format}
use Rattle.std.specs.Float.Ieee.{hid, ones, top, low}

-- The fields of the bits b of a single or a double: the sign is set from top = 2 ^ 31 or 2 ^ 63 on; below it stands the
-- exponent, in steps of hid = 2 ^ 23 or 2 ^ 52; and below that the fraction.
abbrev pub exponent : Format → ℕ → ℕ
exponent f b = b % top f / hid f

abbrev pub fraction : Format → ℕ → ℕ
fraction f b = b % hid f

-- an exponent of ones, 255 or 2047, is an infinity or a NaN
abbrev pub Finite : Format → ℕ → Type 0
Finite f b = exponent f b < ones f

-- the size by exponent and fraction, in units of the smallest positive one, 2 ^ -low = 2 ^ -149 or 2 ^ -1074: from the
-- exponent 1 on, 1.fraction times a power of two
abbrev pub magnitude : Format → ℕ → ℕ → ℕ
magnitude f zero t = t
magnitude f (suc x) t = (hid f + t) * 2 ^ x

abbrev pub signed : Bool → ℕ → ℤ
signed false n = pos n
signed true n = neg_ℤ (pos n)

-- the number that the bits stand for, in those units
abbrev pub worth : Format → ℕ → ℤ
worth f b = signed (nat_le (top f) b) (magnitude f (exponent f b) (fraction f b))

-- v / 2 ^ 32 in those units
abbrev pub exactly : Format → ℤ → ℤ
exactly f v = v *ℤ pos (2 ^ (low f - 32))

abbrev pub distance : ℤ → ℤ → ℕ
distance x y = unsigned_abs (x -ℤ y)

-- b stands for a number to which no other is nearer to v / 2 ^ 32; where another is as near, b's last bit is 0
pub record Nearest (f : Format) (v : ℤ) (b : ℕ) : Type 0 where
  pub finite : Finite f b
  pub nearest : (c : ℕ) → Finite f c → distance (worth f b) (exactly f v) ≤ distance (worth f c) (exactly f v)
  pub even : (c : ℕ) → Finite f c → distance (worth f c) (exactly f v) ≡ distance (worth f b) (exactly f v)
      → (worth f c ≡ worth f b) ⊎ (b % 2 ≡ 0)

-- b stands for v / 2 ^ 32 itself
pub record Exact (f : Format) (v : ℤ) (b : ℕ) : Type 0 where
  pub finite : Finite f b
  pub exact : worth f b ≡ exactly f v
