-- The remainder is the reading's two's complement.
use Rattle.std.proofs.Common.{pos, nat_abs, ap, ◌∙◌, w64, SFits, rules}
use Rattle.std.specs.Int.{int_rem_euclid}
use Rattle.std.proofs.lemmas.Int.{to_z-of_z}
use Rattle.numbers.specs.Encoding.{code_of}
use Rattle.numbers.proofs.FixedPoint.{twos_is}
use Rattle.numbers.proofs.reading.Reading.fixed48.Goals as goal

pub returns : goal.returns
unfolding code_of
returns c =
    let f : SFits w64 c.rem_euclid.result = search rules in
    ap nat_abs (to_z-of_z w64 _ f ∙ c.rem_euclid.ensures.value ∙ ap (λ z. int_rem_euclid z (pos 281474976710656)) (to_z-of_z w64 _ (search rules)))
    ∙ twos_is 6 c.args.self.value
