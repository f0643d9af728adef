-- The spaces, the first word and the rest are the line, and it is the first of all words.
use Rattle.std.proofs.Common.{◌-◌, take, not, position, unwrap_or, ◌≡◌, ℕ, suc, ◌+◌, ◌<◌, false, eqb, List, [], ◌∷◌, ◌++◌, length, get_or, drop, replicate, Some, None, filter, Option, sym, refl, ap, ◌∙◌, subst, ⊎_elim, arith, Bor, MatchOption}
use Rattle.std.specs.Option.{option_map}
use Rattle.std.specs.Prelude.{◌==◌}
use Rattle.std.specs.List.{AllByRecursion, position_or_len}
use Rattle.std.proofs.lemmas.List.{drop_all, take_rest, length-append}
use Rattle.std.proofs.lemmas.Bool.{eqb-true, cases_Bool}
use Rattle.std.proofs.lemmas.List.Quantifiers.{position-Some}
use Rattle.lines.specs.Cuts.{before, from, seen}
use Rattle.lines.specs.Words.{past_spaces, word_at, next_word, some, words_of, WordOf}
use Rattle.lines.proofs.Cutting.{place, before_from, none_before, behind, pieces_cut}

-- ---- the spaces

behind_spaces : (xs : List ℕ) → drop (position_or_len (λ x. not (x == 32)) xs) xs ≡ past_spaces xs
behind_spaces [] = refl
behind_spaces (x ∷ xs) =
    ⊎_elim (λ e. rw e (ap (λ n. drop n (x ∷ xs)) (one_more _) ∙ behind_spaces xs)) (λ e. rw e refl) (cases_Bool (eqb x 32))
  where
    one_more : (n : ℕ) → 1 + n ≡ suc n
    one_more n = omega arith

spaces_passed : (xs : List ℕ) (r : Option ℕ) → r ≡ position (λ x. not (x == 32)) xs → drop (unwrap_or r (length xs)) xs ≡ past_spaces xs
spaces_passed xs r e = ap (λ n. drop n xs) (place _ xs r e) ∙ behind_spaces xs

pub no_word : (line : List ℕ) (r : Option ℕ) → r ≡ position (λ x. not (x == 32)) line → r ≡ None → None ≡ next_word line
no_word line r p e = ap word_at (sym (drop_all (length line) line (omega arith)) ∙ spaces_passed line None (sym e ∙ p))

pub word_there : (line : List ℕ) (r : Option ℕ) (n : ℕ) → r ≡ position (λ x. not (x == 32)) line → r ≡ Some n → (take (length line - n) (drop n line) ≡ past_spaces line) × (n < length line)
word_there line r n p e = (take_rest line n ∙ spaces_passed line (Some n) (sym e ∙ p), (position-Some _ line n 0 (sym p ∙ e)).0)

spaces_whole : (xs : List ℕ) → (n : ℕ) × (replicate n 32 ++ past_spaces xs ≡ xs)
spaces_whole [] = (0, refl)
spaces_whole (x ∷ xs) =
    ⊎_elim
    (λ e. let r = spaces_whole xs in (suc r.0, rw e (λ i. sym (eqb-true x 32 e) i ∷ r.1 i)))
    (λ e. (0, rw e refl))
    (cases_Bool (eqb x 32))

only_spaces : (xs : List ℕ) → past_spaces xs ≡ [] → AllByRecursion (λ x. x ≡ 32) xs
only_spaces [] h = tt
only_spaces (x ∷ xs) h =
    ⊎_elim (λ e. (eqb-true x 32 e, only_spaces xs (rw e at h))) (λ e. absurd (not_empty (rw e at h))) (cases_Bool (eqb x 32))
  where
    not_empty : x ∷ xs ≡ [] → ⊥
    not_empty f = let l : suc (length xs) ≡ 0 = ap length f in omega arith

past_first : (xs ys : List ℕ) (y : ℕ) → past_spaces xs ≡ y ∷ ys → eqb y 32 ≡ false
past_first [] ys y h = grind arith
past_first (x ∷ xs) ys y h =
    ⊎_elim
    (λ e. past_first xs ys y (rw e at h))
    (λ e. let f : x ∷ xs ≡ y ∷ ys = rw e at h in let g : x ≡ y = cc in ap (λ z. eqb z 32) (sym g) ∙ e)
    (cases_Bool (eqb x 32))

-- ---- the word and the rest

from_first : (c : ℕ) (xs : List ℕ) → 0 < length (from c xs) → get_or (from c xs) 0 0 ≡ c
from_first c [] h = absurd (omega arith)
from_first c (x ∷ xs) h =
    ⊎_elim (λ e. rw e (eqb-true x c e)) (λ e. rw e (from_first c xs (rw e at h))) (cases_Bool (eqb x c))

word_of : (line ys : List ℕ) (y : ℕ) → past_spaces line ≡ y ∷ ys → WordOf line (before 32 (y ∷ ys)) (from 32 (y ∷ ys))
word_of line ys y e =
    let s = spaces_whole line in
    let w : List ℕ = before 32 (y ∷ ys) in
    let r : List ℕ = from 32 (y ∷ ys) in
    let f : 0 < length w = rw (past_first line ys y e) (omega arith) in
    let gap : List ℕ = replicate s.0 32 in
    let all : gap ++ (w ++ r) ≡ line = ap (λ l. gap ++ l) (before_from 32 (y ∷ ys) ∙ sym e) ∙ s.1 in
    let n : length gap + length (w ++ r) ≡ length line = sym (length-append gap (w ++ r)) ∙ ap length all in
    record {
      spaces = s.0;
      whole = all;
      filled = f;
      solid = none_before 32 (y ∷ ys);
      parted = from_first 32 (y ∷ ys);
      shorter = omega (arith, length-append w r);
    }

pub word_is : (line : List ℕ) (q : Bor (List ℕ) × Bor (List ℕ)) (xs : List ℕ) → xs ≡ past_spaces line → 0 < length xs → q.0.now ≡ before 32 xs → q.1.now ≡ from 32 xs → option_map seen (Some q) ≡ next_word line
word_is line q [] e h f g = absurd (omega arith)
word_is line q (x ∷ xs) e h f g = (λ i. Some (f i, g i)) ∙ ap word_at e

word_by : (r : Option (Bor (List ℕ) × Bor (List ℕ))) (line xs : List ℕ) → past_spaces line ≡ xs → option_map seen r ≡ word_at xs → MatchOption r (AllByRecursion (λ x. x ≡ 32) line) (λ q. WordOf line q.0.now q.1.now)
word_by None line [] p e = only_spaces line p
word_by None line (y ∷ ys) p e = grind arith
word_by (Some q) line [] p e = grind arith
word_by (Some q) line (y ∷ ys) p e =
    let P : List ℕ × List ℕ → Type 0 = λ z. WordOf line z.0 z.1 in
    let f : (before 32 (y ∷ ys), from 32 (y ∷ ys)) ≡ seen q = cc in
    subst P f (word_of line ys y p)

pub word_cases : (r : Option (Bor (List ℕ) × Bor (List ℕ))) (line : List ℕ) → option_map seen r ≡ next_word line → MatchOption r (AllByRecursion (λ x. x ≡ 32) line) (λ q. WordOf line q.0.now q.1.now)
word_cases r line e = word_by r line (past_spaces line) refl e

-- ---- all words

words_past : (xs : List ℕ) → words_of xs ≡ words_of (past_spaces xs)
words_past [] = refl
words_past (x ∷ xs) = ⊎_elim (λ e. rw e (words_past xs)) (λ e. rw e (rw e refl)) (cases_Bool (eqb x 32))

words_behind : (xs : List ℕ) → filter some (behind 32 (from 32 xs)) ≡ words_of (from 32 xs)
words_behind [] = refl
words_behind (x ∷ xs) = ⊎_elim (λ e. rw e (rw e refl)) (λ e. rw e (words_behind xs)) (cases_Bool (eqb x 32))

pub words_first : (x : ℕ) (xs : List ℕ) → eqb x 32 ≡ false → words_of (x ∷ xs) ≡ before 32 (x ∷ xs) ∷ words_of (from 32 (x ∷ xs))
words_first x xs e = ap (filter some) (pieces_cut 32 (x ∷ xs)) ∙ (rw e (ap (λ ws. (x ∷ before 32 xs) ∷ ws) (words_behind xs)))

words_by : (r : Option (Bor (List ℕ) × Bor (List ℕ))) (line xs : List ℕ) → past_spaces line ≡ xs → option_map seen r ≡ word_at xs → MatchOption r (words_of line ≡ []) (λ q. words_of line ≡ q.0.now ∷ words_of q.1.now)
words_by None line [] p e = words_past line ∙ ap words_of p
words_by None line (y ∷ ys) p e = grind arith
words_by (Some q) line [] p e = grind arith
words_by (Some q) line (y ∷ ys) p e =
    let P : List ℕ × List ℕ → Type 0 = λ z. words_of line ≡ z.0 ∷ words_of z.1 in
    let f : (before 32 (y ∷ ys), from 32 (y ∷ ys)) ≡ seen q = cc in
    subst P f (words_past line ∙ ap words_of p ∙ words_first y ys (past_first line ys y p))

pub words_cases : (r : Option (Bor (List ℕ) × Bor (List ℕ))) (line : List ℕ) → option_map seen r ≡ next_word line → MatchOption r (words_of line ≡ []) (λ q. words_of line ≡ q.0.now ∷ words_of q.1.now)
words_cases r line e = words_by r line (past_spaces line) refl e
