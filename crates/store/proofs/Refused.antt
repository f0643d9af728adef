-- A store refuses by the number of the first condition that holds: case by case over the conditions.
use Rattle.std.proofs.Common.{◌≡◌, Bool, true, false, eqb, cond, not, Some, None, Ok, Err, refl}
use Rattle.store.specs.declared.port.StoreError.TheVariants.{WrongLength, NoWritesLeft}
use Rattle.store.specs.Meaning.{found}
use Rattle.store.specs.Refused.{refused_by, RefusedSaid}

module _ {A : Type 0} (a : A) where
  load_cases : (right : Bool) → refused_by (cond right (Ok a) (Err WrongLength)) ≡ cond (not right) (Some 6) None
  load_cases true = refl
  load_cases false = refl

  save_cases : (right none : Bool)
      → refused_by (cond right (cond none (Err NoWritesLeft) (Ok a)) (Err WrongLength)) ≡ cond (not right) (Some 6) (cond none (Some 7) None)
  save_cases true true = refl
  save_cases true false = refl
  save_cases false none = refl

pub refused_said : RefusedSaid
refused_said = record { load = λ n h. load_cases (found h) (eqb n 140); save = λ n w. save_cases tt (eqb n 140) (eqb w 0) }
