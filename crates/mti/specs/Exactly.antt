-- What an answer that may be none says.
use Rattle.std.specs.Prelude.{◌≡◌, Some, None, Option}

-- the answer is the one thing that P holds of, and none exactly if P holds of nothing
pub record Exactly {A : Type 0} (P : A → Type 0) (r : Option A) : Type 0 where
  pub sound : (a : A) → r ≡ Some a → P a
  pub complete : (a : A) → P a → r ≡ Some a
  pub no_one : r ≡ None → (a : A) → P a → ⊥
  pub none : ((a : A) → P a → ⊥) → r ≡ None
