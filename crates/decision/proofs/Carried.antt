-- What a message of the table asks for with its data: as it is decided, and as the table says it.
use Rattle.std.proofs.Common.{◌≡◌, ℕ, ◌*◌, ◌/◌, ◌%◌, ◌^◌, ◌<◌, ◌≤◌, Bool, true, false, cond, eqb, leb, ◌⊎◌, List, [], ◌++◌, length, take, drop, Ok, Err, sym, refl, ap, ◌∙◌, subst, inl, inr, ⊎_elim, arith}
use Rattle.std.proofs.lemmas.List.{length-take, length-drop, take-append-drop, nil_from_length}
use Rattle.std.proofs.lemmas.Bool.{false≢true, both_ways, and_parts, and_from, leb-true, le-leb, eqb-true, eq-eqb, ne_eqb, cond-true, cond-false, cond_both}
use Rattle.xbus.specs.Numbers.{Bytes, be, number_of}
use Rattle.xbus.proofs.Bytes.{bytes_take, bytes_drop}
use Rattle.xbus.proofs.Widths.{length_be, be_back, number_lt, inverse}
use Rattle.decision.specs.declared.actions.Question.TheVariants as question
use Rattle.decision.specs.declared.deciding.MessageError.TheVariants.{NotAllowed, WrongLength}
use Rattle.decision.specs.Asked.{Asked, Changing, Flags, Outputs, Factory, Ask, Set}
use Rattle.decision.specs.Decided.{Decision, fits_entries}
use Rattle.decision.specs.Table.{Carries, Nothing, Number, SetAndClear, Entries, Says, nothing, number_asked, number, flags_asked, flags, entries_asked, entries}

-- what it asks for without data
abbrev pub empty : Carries → Asked
empty (Nothing a) = a
empty (Number q n f) = Ask q
empty SetAndClear = Ask question.Flags
empty Entries = Ask question.Outputs

-- a length of a value
abbrev pub full : Carries → ℕ → Bool
full (Nothing a) n = false
full (Number q k f) n = eqb n k
full SetAndClear n = eqb n 8
full Entries n = fits_entries n

-- the change to such a value
abbrev pub filled : Carries → List ℕ → Changing
filled (Nothing a) xs = Factory
filled (Number q n f) xs = f (number_of xs)
filled SetAndClear xs = Flags (number_of (take 4 xs)) (number_of (drop 4 xs))
filled Entries xs = Outputs xs

abbrev outcome : Bool → Bool → Asked → Asked → Decision
outcome t u x y = cond t (Ok x) (cond u (Ok y) (Err WrongLength))

abbrev pub carried : Carries → List ℕ → Decision
carried c xs = outcome (eqb (length xs) 0) (full c (length xs)) (empty c) (Set (filled c xs))

empty_says : (c : Carries) → Says c [] (empty c)
empty_says (Nothing a) = nothing
empty_says (Number q n f) = number_asked
empty_says SetAndClear = flags_asked
empty_says Entries = entries_asked

-- bytes are the number that they stand for
be_of : (n : ℕ) (xs : List ℕ) → Bytes xs → length xs ≡ n → (number_of xs < 256 ^ n) × (be n (number_of xs) ≡ xs)
be_of n xs b e =
    subst (λ (k : ℕ). (number_of xs < 256 ^ k) × (be k (number_of xs) ≡ xs)) e (number_lt xs b, inverse.bytes_back xs b)

-- the test of a length of entries, in words

pub fits_is : (n : ℕ) → fits_entries n ≡ true → (4 ≤ n) × (n ≤ 128) × (n % 4 ≡ 0)
fits_is n t =
    let p = and_parts (leb 4 n) _ t in
    let q = and_parts (leb n 128) _ p.1 in
    (leb-true _ _ p.0, leb-true _ _ q.0, eqb-true _ _ q.1)

pub is_fits : (n k : ℕ) → n ≡ 4 * k → 1 ≤ k → k ≤ 32 → fits_entries n ≡ true
is_fits n k e l h =
    and_from (leb 4 n) _ (le-leb _ _ (omega arith)) (and_from (leb n 128) _ (le-leb _ _ (omega arith)) (eq-eqb _ _ (omega arith)))

filled_says : (c : Carries) (xs : List ℕ) → Bytes xs → full c (length xs) ≡ true → Says c xs (Set (filled c xs))
filled_says (Nothing a) xs b t = absurd (false≢true t)
filled_says (Number q n f) xs b t =
    let p = be_of n xs b (eqb-true _ _ t) in
    subst (λ (ys : List ℕ). Says (Number q n f) ys (Set (f (number_of xs)))) p.1 (number p.0)
filled_says SetAndClear xs b t =
    let e : length xs ≡ 8 = eqb-true _ _ t in
    let p = be_of 4 (take 4 xs) (bytes_take 4 xs b) (simp length-take (omega arith)) in
    let q = be_of 4 (drop 4 xs) (bytes_drop 4 xs b) (simp length-drop (omega arith)) in
    subst (λ (ys : List ℕ). Says SetAndClear ys (Set (filled SetAndClear xs)))
    ((λ i. p.1 i ++ q.1 i) ∙ take-append-drop 4 xs)
    (flags p.0 q.0)
filled_says Entries xs b t =
    let p = fits_is (length xs) t in entries {n = length xs / 4} (omega arith) (omega arith) (omega arith)

-- data say something without a value, or with one
says_by : {c : Carries} {xs : List ℕ} {a : Asked} → Says c xs a
    → ((xs ≡ []) × (a ≡ empty c)) ⊎ ((full c (length xs) ≡ true) × (a ≡ Set (filled c xs)))
says_by nothing = inl (refl, refl)
says_by number_asked = inl (refl, refl)
says_by (number {q} {n} {f} {v} h) =
    inr (eq-eqb _ _ (length_be n v), ap (λ (z : ℕ). Set (f z)) (sym (be_back n v h)))
says_by flags_asked = inl (refl, refl)
says_by (flags {s} {c} h k) =
    let e : s ≡ number_of (be 4 s) = sym (be_back 4 s h) in
    let g : c ≡ number_of (be 4 c) = sym (be_back 4 c k) in
    inr (refl, λ i. Set (Flags (e i) (g i)))
says_by entries_asked = inl (refl, refl)
says_by (entries {xs} {n} e l h) = inr (is_fits (length xs) n e l h, refl)

pub carried_says : (c : Carries) (xs : List ℕ) (a : Asked) → Bytes xs → carried c xs ≡ Ok a → Says c xs a
carried_says c xs a b =
    let P : Decision → Type 0 = λ d. d ≡ Ok a → Says c xs a in
    cond_both (eqb (length xs) 0) _ _ P
    (λ t e.
    let same : empty c ≡ a = cc in
    subst (λ (ys : List ℕ). Says c ys a) (sym (nil_from_length xs (eqb-true _ _ t))) (subst (Says c []) same (empty_says c)))
    (λ t.
    cond_both (full c (length xs)) _ _ P
    (λ u e. let same : Set (filled c xs) ≡ a = cc in subst (Says c xs) same (filled_says c xs b u))
    (λ u e. cc))

-- where no value is empty
pub says_carried : {c : Carries} {xs : List ℕ} {a : Asked} → full c 0 ≡ false → Says c xs a → carried c xs ≡ Ok a
says_carried {c} {xs} {a} z s =
    ⊎_elim
    (λ p. subst (λ (ys : List ℕ). carried c ys ≡ Ok a) (sym p.0) (ap (λ (y : Asked). Ok y) (sym p.1)))
    (λ p.
    let some : length xs ≡ 0 → ⊥ = λ e. both_ways (full c 0) z (ap (full c) (sym e) ∙ p.0) in
    cond-false (eqb (length xs) 0) _ _ (ne_eqb _ _ some) ∙ cond-true (full c (length xs)) _ _ p.0
    ∙ ap (λ (y : Asked). Ok y) (sym p.1))
    (says_by s)

outcome_allowed : (t u : Bool) (x y : Asked) → outcome t u x y ≡ Err NotAllowed → ⊥
outcome_allowed true u x y e = cc
outcome_allowed false true x y e = cc
outcome_allowed false false x y e = cc

pub carried_allowed : (c : Carries) (xs : List ℕ) → carried c xs ≡ Err NotAllowed → ⊥
carried_allowed c xs = outcome_allowed (eqb (length xs) 0) (full c (length xs)) (empty c) (Set (filled c xs))

outcome_otherwise : (t u : Bool) (x y : Asked) → ((a : Asked) → outcome t u x y ≡ Ok a → ⊥) → outcome t u x y ≡ Err WrongLength
outcome_otherwise true u x y h = absurd (h x refl)
outcome_otherwise false true x y h = absurd (h y refl)
outcome_otherwise false false x y h = refl

pub carried_otherwise : (c : Carries) (xs : List ℕ) → ((a : Asked) → carried c xs ≡ Ok a → ⊥) → carried c xs ≡ Err WrongLength
carried_otherwise c xs = outcome_otherwise (eqb (length xs) 0) (full c (length xs)) (empty c) (Set (filled c xs))

outcome_class : (t u : Bool) (x y z a : Asked) → outcome t u x y ≡ Err WrongLength → outcome t u x z ≡ Ok a → ⊥
outcome_class true u x y z a e h = cc
outcome_class false true x y z a e h = cc
outcome_class false false x y z a e h = cc

-- data of one length are wrong together
pub wrong_together : (c : Carries) (xs ys : List ℕ) (a : Asked) → length ys ≡ length xs → carried c xs ≡ Err WrongLength
    → carried c ys ≡ Ok a → ⊥
wrong_together c xs ys a same wrong right =
    let e : carried c ys ≡ outcome (eqb (length xs) 0) (full c (length xs)) (empty c) (Set (filled c ys)) =
    ap (λ (n : ℕ). outcome (eqb n 0) (full c n) (empty c) (Set (filled c ys))) same in
    outcome_class (eqb (length xs) 0) (full c (length xs)) (empty c) (Set (filled c xs)) (Set (filled c ys)) a wrong (sym e ∙ right)
