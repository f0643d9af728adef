-- An answer that is sound and complete is exact.
use Rattle.std.proofs.Common.{◌≡◌, ℕ, Some, None, Option, refl, arith}
use Rattle.mti.specs.Exactly.{Exactly}

pub some_not_none : {A : Type 0} (a : A) → Some a ≡ None → ⊥
some_not_none a e = let z : ◌≡◌ {A = ℕ} 0 1 = cc in omega arith

pub none_not_some : {A : Type 0} (a : A) → None ≡ Some a → ⊥
none_not_some a e = let z : ◌≡◌ {A = ℕ} 0 1 = cc in omega arith

pub exactly : {A : Type 0} (P : A → Type 0) (r : Option A) → ((a : A) → r ≡ Some a → P a) → ((a : A) → P a → r ≡ Some a)
    → Exactly P r
exactly P None s c =
    record { sound = s; complete = c; no_one = λ e a p. none_not_some a (c a p); none = λ f. refl }
exactly P (Some a) s c =
    record { sound = s; complete = c; no_one = λ e. absurd (some_not_none a e); none = λ f. absurd (f a (s a refl)) }
