-- Settings with one value edited.
use Rattle.std.proofs.Common.{◌≡◌, ℕ, ◌+◌, ◌<◌, ◌≤◌, true, leb, Some, None, Option, sym, ap, ◌∙◌, arith}
use Rattle.std.proofs.lemmas.Bool.{and_parts, leb-true, cond-true, cond-false, cond_both}
use Rattle.mti.specs.Exactly.{Exactly}
use Rattle.mti.proofs.Exact.{exactly, none_not_some}
use Rattle.settings.specs.Values.{Values, entry}
use Rattle.settings.specs.Valid.{first_profile, valid}
use Rattle.settings.specs.View.{checked_of}
use Rattle.settings.proofs.Bounds.{first_below}
use Rattle.settings.proofs.Judged.{refused, Passed}
use Rattle.config.specs.Changed.{with_profile, used_of, used}
use Rattle.mti.specs.declared.output.Output.{Output}
use Rattle.mti.specs.Identifiers.{known_of}
use Rattle.settings.specs.Rates.{largest_divisor}
use Rattle.std.specs.Option.{MatchOption}

valid_profile_lem : (c : Values) → Passed c → c.profile ≤ first_profile c.product + 4
valid_profile_lem c p = leb-true _ _ (and_parts (leb (first_profile c.product) c.profile) _ p.framed.profile).1

-- no profile is above 255
pub no_profile : (c : Values) (v : ℕ) → 255 < v → None ≡ checked_of (with_profile c v)
unfolding checked_of
no_profile c v h =
    let d = with_profile c v in
    sym (cond-false (valid d) (Some d) None
    (sym (refused d (λ p.
    let e = valid_profile_lem d p in
    omega (arith, e, first_below c.product)))))

pub used_by : (o : Option Output) (i a r : ℕ) (Said : Output → Type 0) → o ≡ known_of i → MatchOption o (r ≡ a) Said
    → ((x : Output) → Said x → r ≡ largest_divisor x.channel.max_hz a) → entry i r ≡ used (entry i a)
unfolding used
used_by None i a r Said k m h = ap (entry i) m ∙ ap (λ (o : Option Output). used_of o (entry i a)) k
used_by (Some o) i a r Said k m h = ap (entry i) (h o m) ∙ ap (λ (o : Option Output). used_of o (entry i a)) k

-- what is checked is what was edited, if it is valid

pub checked_some : (w d : Values) → checked_of w ≡ Some d → (d ≡ w) × (valid d ≡ true)
unfolding checked_of
checked_some w d =
    let P : Option Values → Type 0 = λ o. o ≡ Some d → (d ≡ w) × (valid d ≡ true) in
    cond_both (valid w) (Some w) None P
    (λ t e. let same : d ≡ w = cc in (same, ap valid same ∙ t))
    (λ f e. absurd (none_not_some d e))

pub checked_is : (w d : Values) → d ≡ w → valid d ≡ true → checked_of w ≡ Some d
unfolding checked_of
checked_is w d e t = cond-true (valid w) (Some w) None (sym (ap valid e) ∙ t) ∙ ap (λ (c : Values). Some c) (sym e)

pub checked_exactly : (w : Values) → Exactly (λ d. (d ≡ w) × (valid d ≡ true)) (checked_of w)
checked_exactly w = exactly (λ d. (d ≡ w) × (valid d ≡ true)) (checked_of w) (checked_some w) (λ d h. checked_is w d h.0 h.1)
