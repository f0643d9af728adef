-- Readings with the bytes that they are sent as.
use Rattle.std.specs.Prelude.{◌≡◌, ℕ, ◌+◌, ◌-◌, ◌^◌, List, [], ◌∷◌, ℤ, pos, negsuc}
use Rattle.std.specs.List.{AllByRecursion}
use Rattle.xbus.specs.Numbers.{be}
use Rattle.mti.specs.Precisions.{width_of}
use Rattle.mti.specs.declared.precision.Precision.{Precision}
use Rattle.mti.specs.declared.precision.Precision.TheVariants.{Single, Fixed32, Fixed48, Double}
use Rattle.numbers.specs.Encoding.{encoded}

-- the reading v in the precision p has the bits b
pub record Row : Type 0 where
  pub p : Precision
  pub v : ℤ
  pub b : ℕ

abbrev row : Precision → ℤ → ℕ → Row
row p v b = record { p = p; v = v; b = b }

abbrev pub table : List Row
table =
    row Single (pos 0) 0
    ∷ row Fixed32 (pos 0) 0
    ∷ row Fixed48 (pos 0) 0
    ∷ row Double (pos 0) 0
    ∷ row Single (pos (2 ^ 32)) 0x3F800000
    ∷ row Fixed32 (pos (2 ^ 32)) 0x00100000
    ∷ row Fixed48 (pos (2 ^ 32)) 0x000100000000
    ∷ row Double (pos (2 ^ 32)) 0x3FF0000000000000
    ∷ row Single (negsuc 0) 0xAF800000
    ∷ row Fixed32 (negsuc 0) 0xFFFFFFFF
    ∷ row Fixed48 (negsuc 0) 0xFFFFFFFFFFFF
    ∷ row Double (negsuc 0) 0xBDF0000000000000
    ∷ row Single (pos (2 ^ 47 - 1)) 0x47000000
    ∷ row Fixed32 (pos (2 ^ 47 - 1)) 0x7FFFFFFF
    ∷ row Fixed48 (pos (2 ^ 47 - 1)) 0x7FFFFFFFFFFF
    ∷ row Double (pos (2 ^ 47 - 1)) 0x40DFFFFFFFFFFFC0
    ∷ row Single (negsuc (2 ^ 47 - 1)) 0xC7000000
    ∷ row Fixed32 (negsuc (2 ^ 47 - 1)) 0x80000000
    ∷ row Fixed48 (negsuc (2 ^ 47 - 1)) 0x800000000000
    ∷ row Double (negsuc (2 ^ 47 - 1)) 0xC0E0000000000000
    -- ties: down and up to an even last bit
    ∷ row Single (pos (2 ^ 24 + 1)) 0x3B800000
    ∷ row Single (pos (2 ^ 24 + 3)) 0x3B800002
    ∷ []

abbrev pub Sent : Row → Type 0
Sent r = encoded r.p r.v ≡ be (width_of r.p) r.b

abbrev pub Worked : Type 0
Worked = AllByRecursion Sent table
