-- By which number a call is refused: the conditions in their order, the first that holds.
use Rattle.std.specs.Prelude.{◌≡◌, ℕ, cond, not, List, Some, None, Option, Result, nat_lt}
use Rattle.std.specs.Option.{option_map}
use Rattle.std.specs.Result.{result_err}
use Rattle.session.specs.declared.answers.Refusal.{Refusal}
use Rattle.session.specs.Model.{Model}
use Rattle.session.specs.Answers.{number_of}
use Rattle.session.specs.Filling.{is_whole}
use Rattle.session.specs.Calls.{powered, too_long, power_call, feed_call, tick_call}

-- the number of the refusal, if the answer is one
abbrev pub refused_by : {A : Type 0} → Result A Refusal → Option ℕ
refused_by a = option_map number_of (result_err a)

-- 1 without power, 2 powered already, 3 a tray under 2,055 bytes, 4 a whole frame waits, 5 the data would be too long
pub record RefusedSaid : Type 0 where
  pub power : (m : Model) (n : ℕ) → refused_by (power_call m n).2 ≡ cond (powered m) (Some 2) (cond (nat_lt n 2055) (Some 3) None)
  pub feed : (m : Model) (bs : List ℕ) (n : ℕ)
      → refused_by (feed_call m bs n).2 ≡ cond (not (powered m)) (Some 1) (cond (nat_lt n 2055) (Some 3) None)
  pub tick : (m : Model) (n : ℕ)
      → refused_by (tick_call m n).2
      ≡ cond (not (powered m)) (Some 1) (cond (nat_lt n 2055) (Some 3) (cond (is_whole m.waiting) (Some 4) (cond (too_long m) (Some 5) None)))
