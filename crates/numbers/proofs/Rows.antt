-- The worked values, by one test that antt computes, and zero.
use Rattle.std.proofs.Common.{◌≡◌, Bool, true, ◌&&◌, eqb, List, [], ◌∷◌, replicate, pos, refl, ap}
use lib.Ieee.{round, to_bits}
use Rattle.std.specs.List.{AllByRecursion}
use Rattle.std.proofs.lemmas.Bool.{and_parts, eqb-true}
use Rattle.xbus.specs.Numbers.{be}
use Rattle.mti.specs.Precisions.{width_of}
use Rattle.mti.specs.declared.precision.Precision.{Precision}
use Rattle.mti.specs.declared.precision.Precision.TheVariants.{Single, Fixed32, Fixed48, Double}
use Rattle.numbers.specs.Steps.{steps}
use Rattle.numbers.specs.Encoding.{code_of, encoded}
use Rattle.numbers.specs.Worked.{Row, table, Sent, Worked}

abbrev right : List Row → Bool
right [] = true
right (r ∷ rs) = eqb (code_of r.p r.v) r.b && right rs

rows : (rs : List Row) → right rs ≡ true → AllByRecursion Sent rs
unfolding encoded
rows [] t = tt
rows (r ∷ rs) t =
    let p = and_parts (eqb (code_of r.p r.v) r.b) (right rs) t in
    (ap (be (width_of r.p)) (eqb-true _ _ p.0), rows rs p.1)

-- the one test over the whole table
table_right : right table ≡ true
unfolding code_of steps round to_bits
table_right = refl

pub worked : Worked
worked = rows table table_right

pub zero_bits : (p : Precision) → encoded p (pos 0) ≡ replicate (width_of p) 0
unfolding encoded code_of steps round to_bits
zero_bits Single = refl
zero_bits Fixed32 = refl
zero_bits Fixed48 = refl
zero_bits Double = refl
