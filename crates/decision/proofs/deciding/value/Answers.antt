-- At most four bytes stand for a number that 32 bits hold.
use Rattle.std.proofs.Common.{◌^◌, ◌<◌, ◌≤◌, length, arith}
use native.Mathlib.Nat.{pow-le-pow_right}
use Rattle.xbus.specs.Numbers.{number_of}
use Rattle.xbus.proofs.Bytes.{bytes_all}
use Rattle.xbus.proofs.Widths.{number_lt}
use Rattle.decision.proofs.deciding.value.Goals as goal

within : (c : goal.After-number) → (number_of c.args.bytes.now < 256 ^ length c.args.bytes.now) × (256 ^ length c.args.bytes.now ≤ 256 ^ 4)
within c =
    (number_lt c.args.bytes.now (bytes_all c.args.bytes.now (λ k _. (c.type_inv.bytes k).fits)), pow-le-pow_right (omega arith) c.requires)

pub overflow_cast-result : goal.overflow_cast-result
overflow_cast-result c = omega (arith, within c)

pub returns : goal.returns
returns c = omega (arith, within c)
