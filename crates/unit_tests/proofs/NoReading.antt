-- A sensor without any reading is in range.
use Rattle.std.proofs.Common.{None}
use Rattle.mti.proofs.Exact.{none_not_some}
use Rattle.sensor.specs.Ranges.{Ranged}

pub silent_ranged : Ranged (λ c k t. None)
silent_ranged = record { in_range = λ c k t h ch v b l e. absurd (none_not_some v e) }
