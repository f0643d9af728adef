-- What a text holds if memory ran out while bytes were printed to it.
use Rattle.std.specs.Prelude.{◌≡◌, ℕ, ◌<◌, List, ◌++◌, length, take}
use Rattle.lines.specs.Bytes.{printed}

-- the text holds what it held, and behind it the first of the bytes, but not all
pub record PrintedFront (held bytes holds : List ℕ) : Type 0 where
  pub count : ℕ
  pub fewer : count < length bytes
  pub is : holds ≡ held ++ printed (take count bytes)
