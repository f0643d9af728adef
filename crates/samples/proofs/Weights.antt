-- A list without two equal keys, all of them keys of another list, weighs no more than that list.
use Rattle.std.proofs.Common.{◌≡◌, ℕ, ◌+◌, ◌≤◌, cond, eqb, ◌⊎◌, ◌≢◌, List, [], ◌∷◌, refl, sym, ap, ⊎_elim, arith}
use Rattle.std.specs.List.{AllByRecursion}
use Rattle.std.proofs.lemmas.Bool.{cond_both, eqb-true, eqb-false}

-- a key stands in a list
abbrev pub In : ℕ → List ℕ → Type 0
In k [] = ⊥
In k (r ∷ rs) = (k ≡ r) ⊎ In k rs

-- no two keys are equal
abbrev pub Apart : List ℕ → Type 0
Apart [] = Unit {0}
Apart (k ∷ ks) = AllByRecursion (λ j. j ≢ k) ks × Apart ks

-- the other keys
abbrev without : ℕ → List ℕ → List ℕ
without r [] = []
without r (k ∷ ks) = cond (eqb k r) (without r ks) (k ∷ without r ks)

all_without : (P : ℕ → Type 0) (r : ℕ) (ks : List ℕ) → AllByRecursion P ks → AllByRecursion P (without r ks)
all_without P r [] a = tt
all_without P r (k ∷ ks) a =
    cond_both (eqb k r) (without r ks) (k ∷ without r ks) (AllByRecursion P) (λ t. all_without P r ks a.1) (λ t. (a.0, all_without P r ks a.1))

apart_without : (r : ℕ) (ks : List ℕ) → Apart ks → Apart (without r ks)
apart_without r [] a = tt
apart_without r (k ∷ ks) a =
    cond_both (eqb k r) (without r ks) (k ∷ without r ks) Apart (λ t. apart_without r ks a.1)
    (λ t. (all_without (λ j. j ≢ k) r ks a.0, apart_without r ks a.1))

in_rest : (r : ℕ) (rs ks : List ℕ) → AllByRecursion (λ k. In k (r ∷ rs)) ks → AllByRecursion (λ k. In k rs) (without r ks)
in_rest r rs [] a = tt
in_rest r rs (k ∷ ks) a =
    cond_both (eqb k r) (without r ks) (k ∷ without r ks) (AllByRecursion (λ j. In j rs)) (λ t. in_rest r rs ks a.1)
    (λ t. (⊎_elim (λ e. absurd (eqb-false k r t e)) (λ i. i) a.0, in_rest r rs ks a.1))

none_in_none : (ks : List ℕ) → AllByRecursion (λ k. In k []) ks → ks ≡ []
none_in_none [] a = refl
none_in_none (k ∷ ks) a = absurd a.0

module _ (weight : ℕ → ℕ) where
  abbrev pub total : List ℕ → ℕ
  total [] = 0
  total (k ∷ ks) = weight k + total ks

  -- none of the keys is taken away
  all_stay : (r : ℕ) (ks : List ℕ) → AllByRecursion (λ j. j ≢ r) ks → total ks ≤ total (without r ks)
  all_stay r [] a = omega arith
  all_stay r (k ∷ ks) a =
      cond_both (eqb k r) (without r ks) (k ∷ without r ks) (λ js. weight k + total ks ≤ total js)
      (λ t. absurd (a.0 (eqb-true k r t))) (λ t. omega (arith, all_stay r ks a.1))

  -- one of them at most is
  one_goes : (r : ℕ) (ks : List ℕ) → Apart ks → total ks ≤ weight r + total (without r ks)
  one_goes r [] a = omega arith
  one_goes r (k ∷ ks) a =
      cond_both (eqb k r) (without r ks) (k ∷ without r ks) (λ js. weight k + total ks ≤ weight r + total js)
      (λ t.
      let e : k ≡ r = eqb-true k r t in
      rw (sym e) (omega (arith, all_stay k ks a.0)))
      (λ t. omega (arith, one_goes r ks a.1))

  pub weighs_no_more : (rs ks : List ℕ) → Apart ks → AllByRecursion (λ k. In k rs) ks → total ks ≤ total rs
  weighs_no_more [] ks a i = omega (arith, ap total (none_in_none ks i))
  weighs_no_more (r ∷ rs) ks a i =
      omega (arith, one_goes r ks a, weighs_no_more rs (without r ks) (apart_without r ks a) (in_rest r rs ks i))
