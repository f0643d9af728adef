-- Dropping bytes from the front until a whole frame stands there or the rest waits.
use Rattle.std.specs.Prelude.{ℕ, ◌+◌, ◌<◌, ◌≤◌, Bool, true, false, List, [], ◌∷◌, length, drop, Some, None, Option, ◌==◌}
use Rattle.xbus.specs.declared.front.Front.{Front}
use Rattle.xbus.specs.declared.front.Front.TheVariants.{Whole, Waits, Wrong}
use Rattle.xbus.specs.Front.{front_of}
use Rattle.xbus.specs.Frames.{Neither}

-- the second where the front is wrong, else the first
abbrev pub unless_wrong : {A : Type 0} → Front → A → A → A
unless_wrong (Whole n) x y = x
unless_wrong Waits x y = x
unless_wrong Wrong x y = y

-- how many bytes are dropped from the front of xs
abbrev pub dropped : List ℕ → ℕ
dropped [] = 0
dropped (x ∷ xs) = unless_wrong (front_of (x ∷ xs)) 0 (1 + dropped xs)

-- what is left then
abbrev pub settled : List ℕ → List ℕ
settled xs = drop (dropped xs) xs

-- the front that is a frame of this size, or that waits
abbrev pub front_by : Option ℕ → Front
front_by (Some n) = Whole n
front_by None = Waits

-- whether this front is that one
abbrev pub is_front_by : Front → Option ℕ → Bool
is_front_by (Whole n) (Some m) = n == m
is_front_by (Whole n) None = false
is_front_by Waits (Some m) = false
is_front_by Waits None = true
is_front_by Wrong o = false

-- n is the first place at which a frame, or a proper start of one, begins
pub record Settles (xs : List ℕ) (n : ℕ) : Type 0 where
  pub within : n ≤ length xs
  pub before : (k : ℕ) → k < n → Neither (drop k xs)
  pub here : Neither (drop n xs) → ⊥
