-- While fewer bytes are there than a start waits for, it waits, whatever comes.
use Rattle.std.proofs.Common.{◌≡◌, ℕ, ◌+◌, ◌*◌, ◌<◌, Bool, true, false, ◌&&◌, eqb, leb, List, [], ◌∷◌, ◌++◌, length, refl, ◌∙◌, subst, ⊎_elim, arith}
use Rattle.std.proofs.lemmas.List.{length-append}
use Rattle.std.proofs.lemmas.Bool.{cond-true, cond-false, cases_Bool}
use Rattle.xbus.specs.declared.front.Front.TheVariants.{Waits, Wrong}
use Rattle.xbus.specs.Front.{announced, extended, started, front_of}
use Rattle.stream.specs.Until.{until, until_long}
use Rattle.xbus.proofs.Fronts.{announced_waits}

-- few bytes behind FA
few_wait : (rest : List ℕ) → length rest < 3 → (all : List ℕ) → started rest all ≡ Waits
few_wait [] h all = refl
few_wait (a ∷ []) h all = refl
few_wait (a ∷ i ∷ []) h all = refl
few_wait (a ∷ i ∷ n ∷ rest) h all = absurd (omega arith)

extended_until : (rest xs ys : List ℕ) → length xs ≡ 4 + length rest → (extended rest xs ≡ Wrong → ⊥) → length (xs ++ ys) < until_long rest → extended (rest ++ ys) (xs ++ ys) ≡ Waits
extended_until [] xs [] l n h = refl
extended_until [] xs (y ∷ ys) l n h = absurd (omega (arith, length-append xs (y ∷ ys)))
extended_until (a ∷ []) xs ys l n h = absurd (omega (arith, length-append xs ys))
extended_until (a ∷ b ∷ rest) xs ys l n h =
    let v : ℕ = a * 256 + b in
    let t : Bool = leb 255 v && leb v 2048 in
    ⊎_elim
    (λ (e : t ≡ true). cond-true t _ Wrong e ∙ announced_waits (7 + v) (xs ++ ys) h)
    (λ (e : t ≡ false). absurd (n (cond-false t (announced (7 + v) xs) Wrong e)))
    (cases_Bool t)

started_until : (x : ℕ) (rest ys : List ℕ) → (started rest (x ∷ rest) ≡ Wrong → ⊥) → length (x ∷ (rest ++ ys)) < until (x ∷ rest) → started (rest ++ ys) (x ∷ (rest ++ ys)) ≡ Waits
started_until x [] ys n h = few_wait ys (omega arith) (x ∷ ys)
started_until x (a ∷ []) ys n h = few_wait (a ∷ ys) (omega arith) (x ∷ a ∷ ys)
started_until x (a ∷ i ∷ []) ys n h = few_wait (a ∷ i ∷ ys) (omega arith) (x ∷ a ∷ i ∷ ys)
started_until x (a ∷ i ∷ k ∷ rest) ys n h =
    let t : Bool = leb 255 k in
    let xs : List ℕ = x ∷ a ∷ i ∷ k ∷ rest in
    ⊎_elim
    (λ (e : t ≡ true).
    cond-true t _ _ e
    ∙ extended_until rest xs ys (omega arith) (λ z. n (cond-true t (extended rest xs) (announced (5 + k) xs) e ∙ z))
    (subst (λ m. length (xs ++ ys) < m) (cond-true t (until_long rest) (5 + k) e) h))
    (λ (e : t ≡ false).
    cond-false t _ _ e
    ∙ announced_waits (5 + k) (xs ++ ys) (subst (λ m. length (xs ++ ys) < m) (cond-false t (until_long rest) (5 + k) e) h))
    (cases_Bool t)

pub until_waits : (xs ys : List ℕ) → (front_of xs ≡ Wrong → ⊥) → length (xs ++ ys) < until xs → front_of (xs ++ ys) ≡ Waits
until_waits [] ys n h = absurd (omega arith)
until_waits (x ∷ rest) ys n h =
    let t : Bool = eqb x 0xFA in
    ⊎_elim
    (λ (e : t ≡ true).
    cond-true t _ Wrong e ∙ started_until x rest ys (λ z. n (cond-true t (started rest (x ∷ rest)) Wrong e ∙ z)) h)
    (λ (e : t ≡ false). absurd (n (cond-false t (started rest (x ∷ rest)) Wrong e)))
    (cases_Bool t)
