-- By which number a store refuses: 6 an image or buffer that has not 140 bytes, 7 no writes left.
use Rattle.std.specs.Prelude.{◌≡◌, ℕ, cond, not, List, Some, None, Option, Result, ◌==◌}
use Rattle.std.specs.Option.{option_map}
use Rattle.std.specs.Result.{result_err}
use Rattle.store.specs.declared.port.StoreError.{StoreError}
use Rattle.store.specs.Meaning.{error_number, load_answer, save_answer}

-- the number of the refusal, if the answer is one
abbrev pub refused_by : {A : Type 0} → Result A StoreError → Option ℕ
refused_by a = option_map error_number (result_err a)

-- the conditions in their order, the first that holds
pub record RefusedSaid : Type 0 where
  pub load : (n : ℕ) (h : Option (List ℕ)) → refused_by (load_answer n h) ≡ cond (not (n == 140)) (Some 6) None
  pub save : (n w : ℕ) → refused_by (save_answer n w) ≡ cond (not (n == 140)) (Some 6) (cond (w == 0) (Some 7) None)
