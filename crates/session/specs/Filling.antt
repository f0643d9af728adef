-- Bytes that are taken until a whole frame waits.
use Rattle.std.specs.Prelude.{ℕ, ◌+◌, Bool, true, false, cond, List, [], ◌∷◌}
use Rattle.xbus.specs.Front.{front_of}
use Rattle.stream.specs.Waiting.{if_whole, took}

-- a whole frame waits
abbrev pub is_whole : List ℕ → Bool
is_whole xs = if_whole (front_of xs) (λ _. true) false

-- how many of the bytes are taken, and what waits then
unfoldable pub fills : List ℕ → List ℕ → ℕ
fills w [] = 0
fills w (b ∷ bs) = cond (is_whole w) 0 (1 + fills (took w b) bs)

unfoldable pub filled : List ℕ → List ℕ → List ℕ
filled w [] = w
filled w (b ∷ bs) = cond (is_whole w) w (filled (took w b) bs)
