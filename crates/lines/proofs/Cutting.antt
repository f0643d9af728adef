-- A list cut at the first of a byte, and its pieces between such bytes.
use Rattle.std.proofs.Common.{Bool, ◌≡◌, ℕ, ◌+◌, true, false, cond, eqb, List, [], ◌∷◌, ◌++◌, length, take, drop, Option, unwrap_or, sym, refl, ap, ◌∙◌, ⊎_elim, arith}
use Rattle.std.specs.Prelude.{◌==◌}
use Rattle.std.specs.List.{AllByRecursion, position, position_or_len}
use Rattle.std.proofs.lemmas.List.Recursion.{is_position_or_len}
use Rattle.std.proofs.lemmas.Grind.{common_steps}
use Rattle.std.proofs.lemmas.List.Sums.{prefix_len-le-length}
use Rattle.std.proofs.lemmas.List.{take_at, drop_at, length-append}
use Rattle.std.proofs.lemmas.Bool.{eqb-false, cases_Bool}
use Rattle.lines.specs.Cuts.{before, from, on_first, pieces}

-- ---- the two parts

pub before_from : (c : ℕ) (xs : List ℕ) → before c xs ++ from c xs ≡ xs
before_from c [] = refl
before_from c (x ∷ xs) =
    elim (eqb x c) as (λ t. cond t [] (x ∷ before c xs) ++ cond t (x ∷ xs) (from c xs) ≡ x ∷ xs) [
      | true ↦ refl
      | false ↦ ap (λ l. x ∷ l) (before_from c xs)
    ]

pub length_parts : (c : ℕ) (xs : List ℕ) → length (before c xs) + length (from c xs) ≡ length xs
length_parts c xs = sym (length-append (before c xs) (from c xs)) ∙ ap length (before_from c xs)

pub take_before : (c : ℕ) (xs : List ℕ) → take (length (before c xs)) xs ≡ before c xs
take_before c xs = ap (take (length (before c xs))) (sym (before_from c xs)) ∙ take_at (before c xs) (from c xs) _ refl

pub drop_before : (c : ℕ) (xs : List ℕ) → drop (length (before c xs)) xs ≡ from c xs
drop_before c xs = ap (drop (length (before c xs))) (sym (before_from c xs)) ∙ drop_at (before c xs) (from c xs) _ refl

pub place : (p : ℕ → Bool) (xs : List ℕ) (r : Option ℕ) → r ≡ position p xs → unwrap_or r (length xs) ≡ position_or_len p xs
place p xs r e = ap (λ q. unwrap_or q (length xs)) e ∙ grind (arith, common_steps, prefix_len-le-length)

pub reach : (c : ℕ) (xs : List ℕ) (r : Option ℕ) → r ≡ position (λ x. x == c) xs → unwrap_or r (length xs) ≡ length (before c xs)
reach c xs r e = place _ xs r e ∙ sym (is_position_or_len (λ ys. length (before c ys)) (λ y. y == c) refl by xs)
  where
    by : (x : ℕ) (ys : List ℕ) → length (before c (x ∷ ys)) ≡ cond (x == c) 0 (1 + length (before c ys))
    by x ys = elim (x == c) as (λ t. length (cond t [] (x ∷ before c ys)) ≡ cond t 0 (1 + length (before c ys))) [ true ↦ refl | false ↦ omega arith ]

pub none_before : (c : ℕ) (xs : List ℕ) → AllByRecursion (λ x. x ≡ c → ⊥) (before c xs)
none_before c [] = tt
none_before c (x ∷ xs) =
    ⊎_elim (λ e. rw e tt) (λ e. rw e (eqb-false x c e, none_before c xs)) (cases_Bool (eqb x c))

-- ---- the pieces

abbrev pub behind : ℕ → List ℕ → List (List ℕ)
behind c [] = []
behind c (x ∷ xs) = pieces c xs

pub pieces_cut : (c : ℕ) (xs : List ℕ) → pieces c xs ≡ before c xs ∷ behind c (from c xs)
pieces_cut c [] = refl
pieces_cut c (x ∷ xs) =
    elim (eqb x c) as (λ t. cond t ([] ∷ pieces c xs) (on_first x (pieces c xs)) ≡ cond t [] (x ∷ before c xs) ∷ behind c (cond t (x ∷ xs) (from c xs))) [
      | true ↦ refl
      | false ↦ ap (on_first x) (pieces_cut c xs)
    ]
