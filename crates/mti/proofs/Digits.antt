-- Each precision is found by its format digit.
use Rattle.std.proofs.Common.{◌≡◌, ℕ, ◌<◌, eqb, Some, Option, sym, refl, ap, ◌∙◌, arith}
use Rattle.std.proofs.lemmas.Bool.{cond_both, eqb-true}
use Rattle.mti.specs.declared.precision.Precision.{Precision}
use Rattle.mti.specs.declared.precision.Precision.TheVariants.{Single, Fixed32, Fixed48, Double}
use Rattle.mti.specs.Exactly.{Exactly}
use Rattle.mti.specs.Precisions.{digit_of, precision_of}
use Rattle.mti.proofs.Exact.{exactly, none_not_some}

pub digit_small : (p : Precision) → digit_of p < 4
digit_small Single = omega arith
digit_small Fixed32 = omega arith
digit_small Fixed48 = omega arith
digit_small Double = omega arith

pub precision_of_digit : (p : Precision) → precision_of (digit_of p) ≡ Some p
precision_of_digit Single = refl
precision_of_digit Fixed32 = refl
precision_of_digit Fixed48 = refl
precision_of_digit Double = refl

-- whichever precision the digit names has that digit
pub digit_of_found : (d : ℕ) (p : Precision) → precision_of d ≡ Some p → digit_of p ≡ d
digit_of_found d =
    let P : Option Precision → Type 0 = λ r. (p : Precision) → r ≡ Some p → digit_of p ≡ d in
    let one : (q : Precision) → digit_of q ≡ d → P (Some q) = λ q h p e. (let s : q ≡ p = cc in ap digit_of (sym s) ∙ h) in
    cond_both (eqb d 0) _ _ P (λ t. one Single (sym (eqb-true d 0 t)))
    (λ _. cond_both (eqb d 1) _ _ P (λ t. one Fixed32 (sym (eqb-true d 1 t)))
    (λ _. cond_both (eqb d 2) _ _ P (λ t. one Fixed48 (sym (eqb-true d 2 t)))
    (λ _. cond_both (eqb d 3) _ _ P (λ t. one Double (sym (eqb-true d 3 t))) (λ _ p e. absurd (none_not_some p e)))))

pub digit_exactly : (d : ℕ) (r : Option Precision) → r ≡ precision_of d → Exactly (λ p. digit_of p ≡ d) r
digit_exactly d r e =
    exactly (λ p. digit_of p ≡ d) r (λ p f. digit_of_found d p (sym e ∙ f))
    (λ p h. e ∙ ap precision_of (sym h) ∙ precision_of_digit p)
