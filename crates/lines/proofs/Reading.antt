-- The bytes of a line, word by word.
use Rattle.std.proofs.Common.{ℕ, List, ◌++◌, Some, None, Option}

-- xs in front of what follows, if it is there
abbrev pub onto : List ℕ → Option (List ℕ) → Option (List ℕ)
onto xs None = None
onto xs (Some ys) = Some (xs ++ ys)
