-- What a load answers on each of its ways.
use Rattle.std.proofs.Common.{◌≡◌, ℕ, ◌<◌, true, false, Bool, cond, List, length, Some, None, Option, Ok, Err, Result, Decides, sym, refl, ap, subst, ◌∙◌, arith}
use Rattle.std.specs.Bool.{then_some}
use Rattle.std.specs.Option.{option_map}
use Rattle.std.specs.Result.{result_ok, MatchResult}
use Rattle.std.proofs.lemmas.Bool.{cond-true, cond_both, false≢true}
use Rattle.mti.specs.declared.product.Product.{Product}
use Rattle.mti.proofs.Exact.{some_not_none, none_not_some}
use Rattle.settings.specs.Values.{Values}
use Rattle.settings.specs.Valid.{valid}
use Rattle.settings.specs.Image.{image_of, number_at, read_of, load_of}
use Rattle.settings.specs.View.{values_of, checked_of}
use Rattle.settings.specs.declared.checked.Settings.{Settings}
use Rattle.settings.proofs.Bounds.{fits}
use Rattle.settings.proofs.Spelt.{count_read}
use Rattle.settings.proofs.Stores.{length_image, load_some, load_none}

-- what is checked is what was asked, and it is valid
checked_some : (c d : Values) → Some d ≡ checked_of c → (d ≡ c) × (valid c ≡ true)
unfolding checked_of
checked_some c d =
    let P : Option Values → Type 0 = λ r. Some d ≡ r → (d ≡ c) × (valid c ≡ true) in
    cond_both (valid c) (Some c) None P (λ t e. let s : d ≡ c = cc in (s, t)) (λ t e. absurd (some_not_none d e))

checked_none : (c : Values) → None ≡ checked_of c → valid c ≡ true → ⊥
unfolding checked_of
checked_none c e v = none_not_some c (e ∙ cond-true (valid c) (Some c) None v)

module _ (p : Product) (xs : List ℕ) where
  pub wrong_size : (length xs ≡ 140 → ⊥) → None ≡ load_of p xs
  wrong_size n = sym (load_none p xs (λ v e. n (sym (ap length e) ∙ length_image (read_of p xs))))

  pub too_many : 32 < number_at xs 1 1 → None ≡ load_of p xs
  too_many n = sym (load_none p xs (λ v e. let m = (fits (read_of p xs) v).few in omega (arith, count_read p xs)))

  module _ (values : Values) (read : values ≡ read_of p xs) where
    pub not_valid : None ≡ checked_of values → None ≡ load_of p xs
    not_valid n = sym (load_none p xs (λ v e. checked_none values n (ap valid read ∙ v)))

    module _ (d : Values) (some : Some d ≡ checked_of values) (image : List ℕ) (is : image ≡ image_of d) where
      loaded : d ≡ read_of p xs
      loaded = (checked_some values d some).0 ∙ read

      pub compared : (b : Bool) → Decides b (image ≡ xs) → cond b (Some d) None ≡ load_of p xs
      compared true e =
          ap Some loaded
          ∙ sym (load_some p xs (ap valid (sym read) ∙ (checked_some values d some).1) (ap image_of (sym loaded) ∙ sym is ∙ e.0 refl))
      compared false e = sym (load_none p xs (λ v h. false≢true (e.1 (is ∙ ap image_of loaded ∙ h))))

-- the settings are handed out if the comparison holds
pub handed_out : (b : Bool) (s : Settings) → option_map values_of (then_some b s) ≡ cond b (Some (values_of s)) None
handed_out true s = refl
handed_out false s = refl

-- what a conversion that may fail gives

pub taken : {A E : Type 0} (r : Result A E) (P : A → Type 0) (Q : E → Type 0) (x : A) → Some x ≡ result_ok r → MatchResult r P Q → P x
taken (Ok y) P Q x e m = let s : y ≡ x = cc in subst P s m
taken (Err y) P Q x e m = absurd (some_not_none x e)

pub not_taken : {A E : Type 0} (r : Result A E) (P : A → Type 0) (R : Type 0) → None ≡ result_ok r → MatchResult r P (λ _. R) → R
not_taken (Ok y) P R e m = absurd (none_not_some y e)
not_taken (Err y) P R e m = m
