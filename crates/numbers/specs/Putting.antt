-- What `put_real` answers, and what it leaves in `out`.
use Rattle.std.specs.Prelude.{ℕ, cond, List, ◌++◌, drop, ℤ, Ok, Err, Result, nat_lt}
use Rattle.mti.specs.Precisions.{width_of}
use Rattle.mti.specs.declared.precision.Precision.{Precision}
use Rattle.numbers.specs.declared.put.NumberError.{NumberError}
use Rattle.numbers.specs.declared.put.NumberError.TheVariants.{OutOfRange, NoRoom}
use Rattle.numbers.specs.Encoding.{in_range, encoded}

-- the answer for a reading where `out` has so many bytes: out of range comes before no room
abbrev pub putting : ℕ → Precision → ℤ → Result ℕ NumberError
putting room p v =
    cond (in_range v) (cond (nat_lt room (width_of p)) (Err NoRoom) (Ok (width_of p))) (Err OutOfRange)

-- `out` after that answer: the reading stands at its front, and every byte behind is as it was; a refusal leaves them all
abbrev pub put : Result ℕ NumberError → List ℕ → Precision → ℤ → List ℕ
put (Ok n) out p v = encoded p v ++ drop n out
put (Err e) out p v = out
