-- How many bytes a start waits for, by its header.
use Rattle.std.specs.Prelude.{ℕ, ◌+◌, ◌*◌, cond, List, [], ◌∷◌, nat_le}

-- behind FF in place of a short length
abbrev pub until_long : List ℕ → ℕ
until_long [] = 5
until_long (h ∷ []) = 5
until_long (h ∷ l ∷ rest) = 7 + (h * 256 + l)

-- with fewer bytes than these a start waits, whatever comes
abbrev pub until : List ℕ → ℕ
until [] = 0
until (x ∷ []) = 4
until (x ∷ a ∷ []) = 4
until (x ∷ a ∷ i ∷ []) = 4
until (x ∷ a ∷ i ∷ n ∷ rest) = cond (nat_le 255 n) (until_long rest) (5 + n)
