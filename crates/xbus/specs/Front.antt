-- What stands at the front of a list of bytes, as it is computed. `Frames` says the same in the words of the protocol.
use Rattle.std.specs.Prelude.{ℕ, ◌+◌, ◌-◌, ◌*◌, ◌%◌, cond, ◌&&◌, List, [], ◌∷◌, length, take, drop, ◌==◌, nat_le, nat_lt}
use Rattle.xbus.specs.declared.front.Front.{Front}
use Rattle.xbus.specs.declared.front.Front.TheVariants.{Whole, Waits, Wrong}

-- the sum of bytes
abbrev pub total : List ℕ → ℕ
total [] = 0
total (x ∷ xs) = x + total xs

-- the header of xs announces a frame of n bytes
abbrev pub announced : ℕ → List ℕ → Front
announced n xs =
    cond (nat_lt (length xs) n) Waits (cond (total (take (n - 1) (drop 1 xs)) % 256 == 0) (Whole n) Wrong)

-- what stands at the front of xs, where the first list is what follows FA, an address, an identifier and FF
abbrev pub extended : List ℕ → List ℕ → Front
extended [] xs = Waits
extended (h ∷ []) xs = cond (nat_le h 8) Waits Wrong
extended (h ∷ l ∷ rest) xs =
    cond (nat_le 255 (h * 256 + l) && nat_le (h * 256 + l) 2048) (announced (7 + (h * 256 + l)) xs) Wrong

-- what stands at the front of xs, where the first list is what follows FA
abbrev pub started : List ℕ → List ℕ → Front
started [] xs = Waits
started (a ∷ []) xs = Waits
started (a ∷ i ∷ []) xs = Waits
started (a ∷ i ∷ n ∷ rest) xs = cond (nat_le 255 n) (extended rest xs) (announced (5 + n) xs)

-- what stands at the front of a list of bytes
abbrev pub front_of : List ℕ → Front
front_of [] = Waits
front_of (x ∷ rest) = cond (x == 0xFA) (started rest (x ∷ rest)) Wrong
