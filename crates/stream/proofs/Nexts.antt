-- What is handed out of a recording next: by its cases, and as the first of the pieces.
use Rattle.std.proofs.Common.{◌≡◌, ℕ, ◌<◌, ◌≤◌, true, false, eqb, ltb, List, [], ◌∷◌, ◌++◌, map, length, take, drop, Some, None, Option, sym, refl, ap, ◌∙◌, subst, ⊎_elim, arith, MatchOption}
use Rattle.std.proofs.lemmas.List.{length-drop, nil_from_length}
use Rattle.std.proofs.lemmas.Bool.{ltb-true, ltb-false, eqb-true, lt-ltb, le-ltb, eq-eqb, ne_eqb, cond-true, cond-false, cases_lt, cases_Bool, eqb-false}
use Rattle.xbus.specs.declared.front.Front.{Front}
use Rattle.xbus.specs.declared.front.Front.TheVariants.{Whole, Waits, Wrong}
use Rattle.xbus.specs.Front.{front_of}
use Rattle.stream.specs.Settling.{dropped, settled}
use Rattle.stream.specs.Reading.{Piece, frame, stray, left, read_of, next_by, next_of}
use Rattle.xbus.proofs.Fronts.{front_bounded}
use Rattle.stream.proofs.Readings.{read_none, read_whole, read_waits, read_settled}
use Rattle.stream.proofs.Settles.{dropped_within, dropped_wrong}

-- ---- as the code finds it

module _ (xs a b : List ℕ) where
  pub next_dropped : (d : ℕ) → 0 < d → d ≡ dropped xs → a ≡ take d xs → b ≡ drop d xs → Some (map stray a, b) ≡ next_of xs
  next_dropped d h e f g =
      (λ i. Some (map stray (f i), g i)) ∙ ap (λ k. Some (map stray (take k xs), drop k xs)) e
      ∙ sym (cond-true (ltb 0 (dropped xs)) _ _ (lt-ltb 0 (dropped xs) (omega arith)))

  -- nothing is dropped
  next_front : (d : ℕ) → d ≤ 0 → d ≡ dropped xs → (w : Front) → w ≡ front_of (settled xs) → next_by w xs ≡ next_of xs
  next_front d h e w f =
      let z : dropped xs ≡ 0 = omega arith in
      ap (λ v. next_by v xs) (f ∙ ap (λ k. front_of (drop k xs)) z)
      ∙ sym (cond-false (ltb 0 (dropped xs)) _ (next_by (front_of xs) xs) (le-ltb 0 (dropped xs) (omega arith)))

  pub next_whole : (d n : ℕ) → d ≤ 0 → d ≡ dropped xs → Whole n ≡ front_of (settled xs) → a ≡ take n xs → b ≡ drop n xs → Some (frame a ∷ [], b) ≡ next_of xs
  next_whole d n h e w f g = (λ i. Some (frame (f i) ∷ [], g i)) ∙ next_front d h e (Whole n) w

  pub next_none : (d : ℕ) → d ≤ 0 → d ≡ dropped xs → Waits ≡ front_of (settled xs) → length xs ≡ 0 → None ≡ next_of xs
  next_none d h e w l = sym (cond-true (eqb (length xs) 0) None _ (eq-eqb _ 0 l)) ∙ next_front d h e Waits w

  pub next_left : (d : ℕ) → d ≤ 0 → d ≡ dropped xs → Waits ≡ front_of (settled xs) → (length xs ≡ 0 → ⊥) → a ≡ xs → b ≡ [] → Some (left a ∷ [], b) ≡ next_of xs
  next_left d h e w l f g =
      (λ i. Some (left (f i) ∷ [], g i)) ∙ sym (cond-false (eqb (length xs) 0) None _ (ne_eqb _ 0 l)) ∙ next_front d h e Waits w

-- ---- the first of the pieces

-- what is handed out stands first, and the rest is shorter
abbrev pub First : List ℕ → Option (List Piece × List ℕ) → Type 0
First xs r = MatchOption r (read_of xs ≡ []) (λ q. (read_of xs ≡ q.0 ++ read_of q.1) × (length q.1 < length xs))

not_zero : (n : ℕ) → (n ≡ 0 → ⊥) → 0 < n
not_zero n h = ⊎_elim (λ l. absurd (h (omega arith))) (λ l. l) (cases_lt n 1)

first_by : (xs : List ℕ) (w : Front) → front_of xs ≡ w → dropped xs ≡ 0 → First xs (next_by w xs)
first_by xs (Whole n) e z =
    let b = (front_bounded xs).whole n e in (read_whole xs n e, omega (arith, length-drop n xs))
first_by xs Waits e z =
    ⊎_elim
    (λ (t : eqb (length xs) 0 ≡ true).
    subst (First xs) (sym (cond-true (eqb (length xs) 0) None _ t))
    (ap read_of (nil_from_length xs (eqb-true _ 0 t)) ∙ read_none))
    (λ (t : eqb (length xs) 0 ≡ false).
    let some : 0 < length xs = not_zero (length xs) (eqb-false (length xs) 0 t) in
    subst (First xs) (sym (cond-false (eqb (length xs) 0) None _ t))
    (read_waits xs some e ∙ ap (λ ps. left xs ∷ ps) (sym read_none), some))
    (cases_Bool (eqb (length xs) 0))
first_by xs Wrong e z = absurd (omega (arith, dropped_wrong xs e))

pub next_first : (xs : List ℕ) → First xs (next_of xs)
next_first xs =
    ⊎_elim
    (λ (t : ltb 0 (dropped xs) ≡ true).
    let l = ltb-true 0 (dropped xs) t in
    subst (First xs) (sym (cond-true (ltb 0 (dropped xs)) _ _ t))
    (read_settled xs, omega (arith, length-drop (dropped xs) xs, dropped_within xs)))
    (λ (t : ltb 0 (dropped xs) ≡ false).
    let l = ltb-false 0 (dropped xs) t in
    subst (First xs) (sym (cond-false (ltb 0 (dropped xs)) _ (next_by (front_of xs) xs) t))
    (first_by xs (front_of xs) refl (omega arith)))
    (cases_Bool (ltb 0 (dropped xs)))

-- the same of what the code hands out
pub hands : (xs : List ℕ) (r : Option (List Piece × List ℕ)) → r ≡ next_of xs → First xs r
hands xs r e = subst (First xs) (sym e) (next_first xs)
