-- What a step of a unit leaves: its core, and bytes at the front of the tray.
use Rattle.std.specs.Prelude.{◌≡◌, ℕ, List, length, take}
use Rattle.session.specs.Model.{Core}
use Rattle.session.specs.Serving.{Step}

-- the first n bytes of the tray are xs
pub record Sent (xs : List ℕ) (n : ℕ) (tray : List ℕ) : Type 0 where
  pub count : n ≡ length xs
  pub bytes : take n tray ≡ xs

-- the core is that of the step, and the first n bytes of the tray are what it writes
pub record Stepped (s : Step) (c : Core) (n : ℕ) (tray : List ℕ) : Type 0 where
  pub core : c ≡ s.0
  pub wrote : Sent s.1 n tray
