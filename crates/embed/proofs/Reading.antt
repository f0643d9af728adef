-- The calls of a script are its first call and those of the bytes behind it.
use Rattle.std.proofs.Common.{◌≡◌, ℕ, zero, suc, ◌<◌, ◌≤◌, eqb, leb, List, [], ◌∷◌, length, Some, None, Option, refl, sym, ap, ◌∙◌, subst, length-drop, arith}
use Rattle.std.specs.Option.{ForSome}
use Rattle.std.proofs.lemmas.Bool.{cond_both}
use Rattle.embed.specs.Scripts.{Call, tick, power, feed_first, feed_at, first_call, calls_by, first_calls, calls_of}

-- the bytes behind a call are fewer than n
abbrev Below : ℕ → Option (Call × List ℕ) → Type 0
Below n o = ForSome o (λ q. length q.1 < n)

below_none : (n : ℕ) → Below n None
below_none n q e = absurd (grind arith)

below_some : (n : ℕ) (p : Call × List ℕ) → length p.1 < n → Below n (Some p)
below_some n p h q e = let d : p ≡ q = cc in subst (λ (x : Call × List ℕ). length x.1 < n) d h

feed_below : (k n : ℕ) (xs : List ℕ) → length xs < n → Below n (feed_first k xs)
feed_below k n xs h =
    cond_both (leb k (length xs)) _ _ (Below n)
    (λ _. below_some n _ (omega (arith, length-drop k xs)))
    (λ _. below_none n)

feed_at_below : (n : ℕ) (xs : List ℕ) → length xs < n → Below n (feed_at xs)
feed_at_below n [] h = below_none n
feed_at_below n (x ∷ []) h = below_none n
feed_at_below n (x ∷ y ∷ xs) h = feed_below _ n xs (omega arith)

first_below : (xs : List ℕ) → Below (length xs) (first_call xs)
first_below [] = below_none 0
first_below (x ∷ xs) =
    let n : ℕ = length (x ∷ xs) in
    cond_both (eqb x 1) _ _ (Below n) (λ _. below_some n (power, xs) (omega arith)) (λ _.
    cond_both (eqb x 2) _ _ (Below n) (λ _. feed_at_below n xs (omega arith)) (λ _.
    cond_both (eqb x 3) _ _ (Below n) (λ _. below_some n (tick, xs) (omega arith)) (λ _. below_none n)))

by_same : (o : Option (Call × List ℕ)) (f g : List ℕ → List Call) → ForSome o (λ q. f q.1 ≡ g q.1) → calls_by o f ≡ calls_by o g
by_same None f g h = refl
by_same (Some q) f g h = ap (λ (cs : List Call). q.0 ∷ cs) (h q refl)

-- more calls than bytes are all calls
enough : (n m : ℕ) (xs : List ℕ) → length xs ≤ n → length xs ≤ m → first_calls n xs ≡ first_calls m xs
unfolding first_calls
enough zero zero xs h k = refl
enough zero (suc m) [] h k = refl
enough zero (suc m) (x ∷ xs) h k = absurd (omega arith)
enough (suc n) zero [] h k = refl
enough (suc n) zero (x ∷ xs) h k = absurd (omega arith)
enough (suc n) (suc m) xs h k =
    by_same (first_call xs) (first_calls n) (first_calls m)
    (λ q e. let b = first_below xs q e in enough n m q.1 (omega arith) (omega arith))

calls_first : (xs : List ℕ) → calls_of xs ≡ calls_by (first_call xs) calls_of
unfolding calls_of first_calls
calls_first [] = refl
calls_first (x ∷ xs) =
    by_same (first_call (x ∷ xs)) (first_calls (length xs)) calls_of
    (λ q e. let b = first_below (x ∷ xs) q e in enough (length xs) (length q.1) q.1 (omega arith) (omega arith))

pub calls_none : (xs : List ℕ) → None ≡ first_call xs → calls_of xs ≡ []
calls_none xs e = calls_first xs ∙ ap (λ o. calls_by o calls_of) (sym e)

pub calls_some : (xs : List ℕ) (q : Call × List ℕ) → Some q ≡ first_call xs → calls_of xs ≡ q.0 ∷ calls_of q.1
calls_some xs q e = calls_first xs ∙ ap (λ o. calls_by o calls_of) (sym e)
