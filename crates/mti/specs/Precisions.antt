-- The formats of one real number.
use Rattle.std.specs.Prelude.{ℕ, cond, Some, None, Option, Result, ◌==◌}
use Rattle.std.specs.Option.{ok_or}
use Rattle.mti.specs.declared.precision.Precision.{Precision}
use Rattle.mti.specs.declared.precision.UnknownDigit.{UnknownDigit}
use Rattle.mti.specs.declared.precision.Precision.TheVariants.{Single, Fixed32, Fixed48, Double}

-- the format digit of a precision
abbrev pub digit_of : Precision → ℕ
digit_of Single = 0
digit_of Fixed32 = 1
digit_of Fixed48 = 2
digit_of Double = 3

-- the precision of a format digit
abbrev pub precision_of : ℕ → Option Precision
precision_of d =
    cond (d == 0) (Some Single)
    (cond (d == 1) (Some Fixed32) (cond (d == 2) (Some Fixed48) (cond (d == 3) (Some Double) None)))

-- the same, or an error with the digit, where no precision has it
abbrev pub decoded_of : ℕ → Result Precision UnknownDigit
decoded_of d = ok_or (precision_of d) (record { 0 = d })

-- the bytes of one real number
abbrev pub width_of : Precision → ℕ
width_of Single = 4
width_of Fixed32 = 4
width_of Fixed48 = 6
width_of Double = 8
