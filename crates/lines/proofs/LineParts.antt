-- The first line of a text, its end and the rest are the text, and it is the first of all lines.
use Rattle.std.proofs.Common.{◌-◌, unwrap_or, ◌≡◌, ℕ, zero, suc, ◌+◌, ◌<◌, Bool, true, false, cond, eqb, List, [], ◌∷◌, ◌++◌, length, take, drop, Some, None, Option, sym, refl, ap, ◌∙◌, subst, ⊎_elim, arith, Bor, MatchOption}
use Rattle.std.specs.Option.{option_map}
use Rattle.std.specs.List.{AllByRecursion}
use Rattle.std.specs.Cmp.Lexicographic.{pointwise}
use Rattle.std.proofs.lemmas.List.{append-nil, append_assoc, length-drop, length_push, same_from_push}
use Rattle.std.proofs.lemmas.Bool.{eqb-true, eqb-false, cases_Bool, true≢false}
use Rattle.lines.specs.Cuts.{before, from, seen}
use Rattle.lines.specs.Lines.{without_return, next_line, ended, lines_of, LineOf}
use Rattle.lines.proofs.Cutting.{before_from, length_parts, none_before, behind, pieces_cut}

-- ---- the carriage return

return_off : (xs : List ℕ) (n : ℕ) → length xs ≡ n + 1 → without_return xs ≡ cond (pointwise eqb (drop n xs) (13 ∷ [])) (take n xs) xs
return_off [] n h = absurd (omega arith)
return_off (x ∷ []) zero h = ⊎_elim (λ e. rw e refl) (λ e. rw e refl) (cases_Bool (eqb x 13))
return_off (x ∷ []) (suc n) h = absurd (omega arith)
return_off (x ∷ y ∷ ys) zero h = absurd (omega arith)
return_off (x ∷ y ∷ ys) (suc n) h =
    ap (λ l. x ∷ l) (return_off (y ∷ ys) n (omega arith))
    ∙ (elim (pointwise eqb (drop n (y ∷ ys)) (13 ∷ [])) as (λ t. x ∷ cond t (take n (y ∷ ys)) (y ∷ ys) ≡ cond t (x ∷ take n (y ∷ ys)) (x ∷ y ∷ ys)) [ true ↦ refl | false ↦ refl ])

last_off : (xs : List ℕ) → without_return xs ≡ cond (pointwise eqb (drop (length xs - 1) xs) (13 ∷ [])) (take (length xs - 1) xs) xs
last_off [] = refl
last_off (x ∷ xs) = return_off (x ∷ xs) (length (x ∷ xs) - 1) (omega arith)

pub stripped : (line : Bor (List ℕ)) (r : Option (Bor (List ℕ))) → MatchOption r (pointwise eqb (drop (length line.now - 1) line.now) (13 ∷ []) ≡ false) (λ x. (pointwise eqb (drop (length line.now - 1) line.now) (13 ∷ []) ≡ true) × (x.now ≡ take (length line.now - 1) line.now) × (length x.now + 1 ≡ length line.now)) → (unwrap_or r line).now ≡ without_return line.now
stripped line None h = sym (last_off line.now ∙ (rw h refl))
stripped line (Some x) h = h.1 ∙ sym (last_off line.now ∙ (rw h.0 refl))

record Trimmed (xs : List ℕ) : Type 0 where
  pub return : Bool
  pub whole : without_return xs ++ cond return (13 ∷ []) [] ≡ xs
  pub bare : return ≡ false → (front : List ℕ) → without_return xs ≡ front ++ 13 ∷ [] → ⊥

trimmed_one : (x : ℕ) → Trimmed (x ∷ [])
trimmed_one x =
    ⊎_elim
    (λ e. record { return = true; whole = rw e (ap (λ z. z ∷ []) (sym (eqb-true x 13 e))); bare = λ f _ _. absurd (true≢false f) })
    (λ e. record { return = false; whole = rw e refl; bare = λ _ front g. eqb-false x 13 e (same_from_push [] front x 13 (rw e at g)).1 })
    (cases_Bool (eqb x 13))

no_push_is_empty : (front : List ℕ) (x : ℕ) → [] ≡ front ++ x ∷ [] → ⊥
no_push_is_empty front x e = let l : 0 ≡ length front + 1 = ap length e ∙ length_push front x in omega arith

longer_bare : (x y : ℕ) (ys front : List ℕ) → without_return (y ∷ ys) ≡ y ∷ ys → ((f : List ℕ) → without_return (y ∷ ys) ≡ f ++ 13 ∷ [] → ⊥) → x ∷ without_return (y ∷ ys) ≡ front ++ 13 ∷ [] → ⊥
longer_bare x y ys [] w b e = let z : y ∷ ys ≡ [] = cc in let l : suc (length ys) ≡ 0 = ap length z in omega arith
longer_bare x y ys (z ∷ front) w b e = b front (cc)

trimmed : (xs : List ℕ) → Trimmed xs
trimmed [] = record { return = false; whole = refl; bare = λ _ front e. no_push_is_empty front 13 e }
trimmed (x ∷ []) = trimmed_one x
trimmed (x ∷ y ∷ ys) =
    let t = trimmed (y ∷ ys) in
    record {
      return = t.return;
      whole = ap (λ l. x ∷ l) t.whole;
      bare = λ f front e.
          longer_bare x y ys front
          (sym (append-nil (without_return (y ∷ ys))) ∙ ap (λ r. without_return (y ∷ ys) ++ cond r (13 ∷ []) []) (sym f) ∙ t.whole)
          (t.bare f) e;
    }

all_trimmed : (P : ℕ → Type 0) (xs : List ℕ) → AllByRecursion P xs → AllByRecursion P (without_return xs)
all_trimmed P [] a = tt
all_trimmed P (x ∷ []) a = elim (eqb x 13) as (λ t. AllByRecursion P (cond t [] (x ∷ []))) [ true ↦ tt | false ↦ a ]
all_trimmed P (x ∷ y ∷ ys) a = (a.0, all_trimmed P (y ∷ ys) a.1)

-- ---- the line feed

record Ended (c : ℕ) (xs : List ℕ) : Type 0 where
  pub stop : Bool
  pub whole : cond stop (c ∷ []) [] ++ drop 1 (from c xs) ≡ from c xs
  pub last : stop ≡ false → drop 1 (from c xs) ≡ []

stopped : (c : ℕ) (xs : List ℕ) → Ended c xs
stopped c [] = record { stop = false; whole = refl; last = λ _. refl }
stopped c (x ∷ xs) =
    ⊎_elim
    (λ e. record { stop = true; whole = rw e (ap (λ z. z ∷ xs) (sym (eqb-true x c e))); last = λ f. absurd (true≢false f) })
    (λ e. let r = stopped c xs in record { stop = r.stop; whole = rw e r.whole; last = rw e r.last })
    (cases_Bool (eqb x c))

none_fed : (xs : List ℕ) → pointwise eqb (take 1 (from 10 xs)) (10 ∷ []) ≡ false → from 10 xs ≡ drop 1 (from 10 xs)
none_fed [] h = refl
none_fed (x ∷ xs) h = ⊎_elim (λ e. absurd (true≢false (rw e at (rw e at h)))) (λ e. rw e (none_fed xs (rw e at h))) (cases_Bool (eqb x 10))

pub feed_off : (text : List ℕ) (end : Bor (List ℕ)) (r : Option (Bor (List ℕ))) → end.now ≡ from 10 text → MatchOption r (pointwise eqb (take 1 end.now) (10 ∷ []) ≡ false) (λ x. (pointwise eqb (take 1 end.now) (10 ∷ []) ≡ true) × (x.now ≡ drop 1 end.now) × (length x.now + 1 ≡ length end.now)) → (unwrap_or r end).now ≡ drop 1 (from 10 text)
feed_off text end None e h = e ∙ none_fed text (rw e at h)
feed_off text end (Some x) e h = h.1 ∙ ap (drop 1) e

-- ---- the line and the rest

line_of : (x : ℕ) (xs : List ℕ) → LineOf (x ∷ xs) (without_return (before 10 (x ∷ xs))) (drop 1 (from 10 (x ∷ xs)))
line_of x xs =
    let text : List ℕ = x ∷ xs in
    let line : List ℕ = before 10 text in
    let rest : List ℕ = from 10 text in
    let t = trimmed line in
    let s = stopped 10 text in
    let both : without_return line ++ (cond t.return (13 ∷ []) [] ++ (cond s.stop (10 ∷ []) [] ++ drop 1 rest)) ≡ line ++ rest =
    sym (append_assoc (without_return line) (cond t.return (13 ∷ []) []) _) ∙ (λ i. t.whole i ++ s.whole i) in
    record {
      return = t.return;
      feed = s.stop;
      whole = both ∙ before_from 10 text;
      last = s.last;
      one_line = all_trimmed (λ y. y ≡ 10 → ⊥) line (none_before 10 text);
      bare = t.bare;
      shorter = omega (arith, length_parts 10 text, length-drop 1 rest);
    }

pub line_is : (text : List ℕ) (line rest : Bor (List ℕ)) → 0 < length text → line.now ≡ without_return (before 10 text) → rest.now ≡ drop 1 (from 10 text) → option_map seen (Some (line, rest)) ≡ next_line text
line_is [] line rest h p q = absurd (omega arith)
line_is (x ∷ xs) line rest h p q = λ i. Some (p i, q i)

pub line_cases : (r : Option (Bor (List ℕ) × Bor (List ℕ))) (text : List ℕ) → option_map seen r ≡ next_line text → MatchOption r (text ≡ []) (λ q. LineOf text q.0.now q.1.now)
line_cases None [] e = refl
line_cases None (x ∷ xs) e = grind arith
line_cases (Some q) [] e = grind arith
line_cases (Some q) (x ∷ xs) e =
    let P : List ℕ × List ℕ → Type 0 = λ z. LineOf (x ∷ xs) z.0 z.1 in
    let f : (without_return (before 10 (x ∷ xs)), drop 1 (from 10 (x ∷ xs))) ≡ seen q = cc in
    subst P f (line_of x xs)

-- ---- all lines

first_line : (x : ℕ) (xs : List ℕ) → lines_of (x ∷ xs) ≡ without_return (before 10 (x ∷ xs)) ∷ lines_of (drop 1 (from 10 (x ∷ xs)))
first_line x xs = ap ended (pieces_cut 10 (x ∷ xs)) ∙ by (before 10 (x ∷ xs)) (from 10 (x ∷ xs)) (length_parts 10 (x ∷ xs))
  where
    by : (line rest : List ℕ) → length line + length rest ≡ suc (length xs) → ended (line ∷ behind 10 rest) ≡ without_return line ∷ lines_of (drop 1 rest)
    by [] [] e = absurd (omega arith)
    by (y ∷ ys) [] e = refl
    by line (z ∷ zs) e = rw (pieces_cut 10 zs) refl

pub lines_cases : (r : Option (Bor (List ℕ) × Bor (List ℕ))) (text : List ℕ) → option_map seen r ≡ next_line text → MatchOption r (lines_of text ≡ []) (λ q. lines_of text ≡ q.0.now ∷ lines_of q.1.now)
lines_cases None [] e = refl
lines_cases None (x ∷ xs) e = grind arith
lines_cases (Some q) [] e = grind arith
lines_cases (Some q) (x ∷ xs) e =
    let P : List ℕ × List ℕ → Type 0 = λ z. lines_of (x ∷ xs) ≡ z.0 ∷ lines_of z.1 in
    let f : (without_return (before 10 (x ∷ xs)), drop 1 (from 10 (x ∷ xs))) ≡ seen q = cc in
    subst P f (first_line x xs)
