-- All that is known of the bytes of a reading.
use Rattle.numbers.specs.Meanings.{Meanings}
use Rattle.numbers.proofs.Bytes.{encoded_length, encoded_bytes}
use Rattle.numbers.proofs.FixedPoint.{steps_floor, steps_only, fixed32_held, fixed48_back}
use Rattle.numbers.proofs.Worths.{single_nearest, double_exact}
use Rattle.numbers.proofs.Rows.{worked, zero_bits}

pub meanings : Meanings
meanings = record {
  size = encoded_length;
  bytes = encoded_bytes;
  single = single_nearest;
  double = double_exact;
  floor = steps_floor;
  floor_only = steps_only;
  fixed32 = fixed32_held;
  fixed48 = fixed48_back;
  zero = zero_bits;
  worked = worked;
}
