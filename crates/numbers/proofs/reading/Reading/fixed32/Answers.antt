-- The steps are clamped as they are held, and the remainder is their two's complement.
use Rattle.std.proofs.Common.{◌≡◌, pos, nat_abs, ap, ◌∙◌, w64, SFits, rules}
use Rattle.std.specs.Int.{saturate_to_bits, int_rem_euclid}
use Rattle.std.proofs.lemmas.Int.{to_z-of_z}
use Rattle.numbers.specs.Steps.{steps}
use Rattle.numbers.specs.Encoding.{code_of}
use Rattle.numbers.proofs.FixedPoint.{twos_is}
use Rattle.numbers.proofs.reading.Reading.fixed32.Goals as goal

pub returns : goal.returns
unfolding code_of
returns c =
    let h : c.clamp-held.result ≡ saturate_to_bits 31 (steps c.args.self.value) = search rules in
    let f : SFits w64 c.rem_euclid.result = search rules in
    let g : SFits w64 c.clamp-held.result = search rules in
    ap nat_abs (to_z-of_z w64 _ f ∙ c.rem_euclid.ensures.value ∙ ap (λ z. int_rem_euclid z (pos 4294967296)) (to_z-of_z w64 _ g ∙ h))
    ∙ twos_is 4 (saturate_to_bits 31 (steps c.args.self.value))
