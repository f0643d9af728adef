-- What a function that fills bytes with data leaves in them.
use Rattle.std.specs.Prelude.{◌≡◌, ℕ, List, Some, None, Option}

-- the bytes are the data, or there are none
abbrev pub Fills : Option (List ℕ) → Option (Unit {0}) → List ℕ → Type 0
Fills all None out = all ≡ None
Fills all (Some x) out = all ≡ Some out
