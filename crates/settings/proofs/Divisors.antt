-- The largest divisor of a maximum: how a search from above meets it, and what it is in words.
use Rattle.std.proofs.Common.{◌≡◌, ℕ, zero, suc, ◌+◌, ◌-◌, ◌/◌, ◌%◌, ◌<◌, ◌≤◌, Bool, true, false, cond, List, [], ◌∷◌, Some, Option, map, min, eqb, refl, sym, ap, ◌∙◌, ⊎_elim, mod-eq_of_lt, div-add-mod', arith}
use native.Mathlib.Nat.{mod-one, mul-mod_left}
use Rattle.std.specs.List.{find}
use Rattle.std.specs.Option.{unwrap_or}
use Rattle.std.specs.Iterator.{AlwaysYields}
use Rattle.std.specs.Iterator.Adapters.{rev_source, rev_steps}
use Rattle.std.specs.Range.{range_steps_back}
use Rattle.std.specs.declared.iter.Rev.{Rev}
use Rattle.std.specs.declared.ops.Range.{Range}
use Rattle.std.proofs.lemmas.Iterator.{YieldsList}
use Rattle.std.proofs.lemmas.Bool.{cond_both, eqb-true, eqb-false, cases_lt, cases_eq}
use Rattle.settings.specs.Rates.{divisor_from, largest_divisor, Divides, Largest, DivisorSaid}

-- ---- the search from above

-- n, n - 1, .. 1
abbrev pub down : ℕ → List ℕ
down zero = []
down (suc n) = suc n ∷ down n

first_or : (b : Bool) (x r : ℕ) (o : Option ℕ) → unwrap_or o 0 ≡ r → unwrap_or (cond b (Some x) o) 0 ≡ cond b x r
first_or true x r o e = refl
first_or false x r o e = e

-- no number of a `u16` is cut off
pub found_down : (m n : ℕ) → n ≤ 65535
    → unwrap_or (find (λ (d : ℕ). eqb (m % d) 0) (map (λ (d : ℕ). min d 65535) (down n))) 0 ≡ divisor_from m n
found_down m zero fits = refl
found_down m (suc n) fits =
    let whole : min (suc n) 65535 ≡ suc n = omega (arith, fits) in
    ap
    (λ (d : ℕ). unwrap_or (cond (eqb (m % d) 0) (Some d) (find (λ (d : ℕ). eqb (m % d) 0) (map (λ (d : ℕ). min d 65535) (down n)))) 0)
    whole
    ∙ first_or (eqb (m % suc n) 0) (suc n) _ _ (found_down m n (omega (arith, fits)))

gives_down : (n : ℕ) (s : Rev (Range ℕ)) → (rev_source s).start ≡ 0 → (rev_source s).end ≡ n
    → AlwaysYields (rev_steps (range_steps_back (λ (x y : ℕ). y - x) (λ (x y : ℕ). y ≡ x + 1))) (λ (x : ℕ). x + 1) s (down n)
gives_down zero s a b = λ x j p. omega (arith, a, b, p.1.0)
gives_down (suc n) s a b = (
  (λ j p. omega (arith, a, b, p.1.0)),
  λ x j p. (omega (arith, b, p.1.1, p.1.2), gives_down n j (p.0 ∙ a) (omega (arith, b, p.1.2))),
)

-- the range from 0 to below n, backwards, with 1 added to each
pub counts_down : (n : ℕ) (s : Rev (Range ℕ)) → (rev_source s).start ≡ 0 → (rev_source s).end ≡ n
    → YieldsList (rev_steps (range_steps_back (λ (x y : ℕ). y - x) (λ (x y : ℕ). y ≡ x + 1))) (λ (x : ℕ). x + 1) s (down n)
counts_down n s a b = record { runs = gives_down n s a b }

-- ---- divisors

pub divides_from : (m d : ℕ) → m % d ≡ 0 → Divides d m
divides_from m d e = (m / d, omega (arith, div-add-mod' m d))

pub divides_mod : (m d : ℕ) → Divides d m → m % d ≡ 0
divides_mod m d p = ap (λ n. n % d) (sym p.1) ∙ mul-mod_left p.0 d

-- 0 divides no number above 0
pub divisor_pos : (m d : ℕ) → 0 < m → Divides d m → 0 < d
divisor_pos m zero pos p = omega (arith, p.1)
divisor_pos m (suc d) pos p = omega arith

-- no divisor of such a number is above it
pub mod_le : (m d : ℕ) → 0 < m → m % d ≡ 0 → d ≤ m
mod_le m d pos e = ⊎_elim (λ (h : m < d). let q = mod-eq_of_lt h in absurd (omega arith)) (λ h. h) (cases_lt m d)

-- ---- the search is right

-- from 1 on there is a divisor
record Met (m n r : ℕ) : Type 0 where
  pub some : 0 < r
  pub zero_rest : m % r ≡ 0
  pub within : r ≤ n

met : (m n : ℕ) → 0 < n → Met m n (divisor_from m n)
met m zero h = absurd (omega arith)
met m (suc n) h =
    cond_both (eqb (m % suc n) 0) (suc n) (divisor_from m n) (Met m (suc n))
    (λ t. record { some = omega arith; zero_rest = eqb-true _ _ t; within = omega arith })
    (λ t.
    let n_pos : 0 < n = ⊎_elim
    (λ (z : n ≡ 0). absurd (eqb-false _ _ t (ap (λ k. m % suc k) z ∙ mod-one m))) (λ ne. omega arith) (cases_eq n 0) in
    let k = met m n n_pos in
    record { some = k.some; zero_rest = k.zero_rest; within = omega (arith, k.within) })

highest : (m n d : ℕ) → 0 < d → d ≤ n → m % d ≡ 0 → d ≤ divisor_from m n
highest m zero d pos le e = omega arith
highest m (suc n) d pos le e =
    cond_both (eqb (m % suc n) 0) (suc n) (divisor_from m n) (λ r. d ≤ r) (λ t. le)
    (λ t. ⊎_elim
    (λ (z : d ≡ suc n). absurd (eqb-false _ _ t (ap (λ k. m % k) (sym z) ∙ e)))
    (λ ne. highest m n d pos (omega arith) e) (cases_eq d (suc n)))

largest_is : (m asked : ℕ) → 0 < m → 0 < asked → Largest m asked (largest_divisor m asked)
unfolding largest_divisor
largest_is m asked some-m some-asked =
    let k = met m (min asked m) (omega arith) in
    record {
      divides = divides_from m _ k.zero_rest;
      within = omega (arith, k.within);
      largest =
          λ d p le.
          let e = divides_mod m d p in
          let b = mod_le m d some-m e in
          highest m (min asked m) d (divisor_pos m d some-m p) (omega arith) e;
    }

-- two numbers that are each the largest are not above each other
largest_only : (m asked r : ℕ) → 0 < m → Largest m asked r → r ≡ largest_divisor m asked
largest_only m asked r some-m l =
    let some-r = divisor_pos m r some-m l.divides in
    let k = largest_is m asked some-m (omega (arith, l.within)) in
    let a = k.largest r l.divides l.within in
    let b = l.largest (largest_divisor m asked) k.divides k.within in
    omega arith

largest_none : (m : ℕ) → largest_divisor m 0 ≡ 0
unfolding largest_divisor
largest_none m = let z : min 0 m ≡ 0 = omega arith in ap (divisor_from m) z

pub divisor_said : DivisorSaid
divisor_said = record { is = largest_is; only = largest_only; none = largest_none }
