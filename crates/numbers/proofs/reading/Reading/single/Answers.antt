-- The double is no NaN, and narrowed it is the nearest single.
use Rattle.std.proofs.Common.{◌≡◌, ap, ◌∙◌}
use lib.Ieee.{binary32, binary64, to_bits}
use Rattle.std.specs.Float.{round_to_format}
use Rattle.numbers.specs.Encoding.{rounded, code_of}
use Rattle.numbers.proofs.Quotients.{rounded_number, narrowed_is}
use Rattle.numbers.proofs.reading.Reading.single.Goals.{After-nearest_f64_to_f32}
use Rattle.numbers.proofs.reading.Reading.single.Goals as goal

-- what is narrowed is the nearest single
nearest : (c : After-nearest_f64_to_f32) → c.nearest_f64_to_f32.result ≡ rounded binary32 c.args.self.value
nearest c =
    c.nearest_f64_to_f32.ensures ∙ ap (round_to_format binary32) c.scaled.ensures
    ∙ narrowed_is c.args.self.value c.args.self.ranged

pub nearest_f64_to_f32-requires : goal.nearest_f64_to_f32-requires
nearest_f64_to_f32-requires c = rw c.scaled.ensures (rounded_number binary64 _)

pub float_to_bits-nearest_f64_to_f32 : goal.float_to_bits-nearest_f64_to_f32
float_to_bits-nearest_f64_to_f32 c = rw (nearest c) (rounded_number binary32 c.args.self.value)

pub returns : goal.returns
unfolding code_of
returns c = c.from.ensures ∙ ap (to_bits binary32) (nearest c.before)
