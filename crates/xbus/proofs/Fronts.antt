-- What the computed front says of sizes and sums, and that only a front that waits can change.
use Rattle.std.proofs.Common.{◌≡◌, ℕ, ◌+◌, ◌-◌, ◌*◌, ◌%◌, ◌<◌, ◌≤◌, Bool, true, false, cond, ◌&&◌, eqb, ltb, leb, List, [], ◌∷◌, ◌++◌, length, get_or, take, drop, sym, refl, ap, ◌∙◌, ⊎_elim, arith}
use Rattle.std.proofs.lemmas.List.{length-append, take-append-le}
use Rattle.std.proofs.lemmas.Bool.{leb-true, leb-false, eqb-true, lt-ltb, le-ltb, lt-leb, eq-eqb, cond-true, cond-false, cond_both, cases_lt, cases_Bool, and_parts, and_right}
use Rattle.xbus.specs.declared.front.Front.{Front}
use Rattle.xbus.specs.declared.front.Front.TheVariants.{Whole, Waits, Wrong}
use Rattle.xbus.specs.Front.{total, announced, extended, started, front_of}
use Rattle.xbus.specs.Frames.{Stays, Bounded}
use Rattle.xbus.specs.Parts.{around}

-- ---- the three cases exclude each other

pub waits_not_wrong : Waits ≡ Wrong → ⊥
waits_not_wrong e = let z : ◌≡◌ {A = ℕ} 0 1 = cc in omega arith

pub whole_not_wrong : (n : ℕ) → Whole n ≡ Wrong → ⊥
whole_not_wrong n e = let z : ◌≡◌ {A = ℕ} 0 1 = cc in omega arith

pub whole_not_waits : (n : ℕ) → Whole n ≡ Waits → ⊥
whole_not_waits n e = let z : ◌≡◌ {A = ℕ} 0 1 = cc in omega arith

-- a test whose other answer is Wrong
pub tested : (t : Bool) (x w : Front) → (w ≡ Wrong → ⊥) → cond t x Wrong ≡ w → (t ≡ true) × (x ≡ w)
tested true x w n e = (refl, e)
tested false x w n e = absurd (n (sym e))

-- ---- a frame that its header announces

pub announced_waits : (n : ℕ) (xs : List ℕ) → length xs < n → announced n xs ≡ Waits
announced_waits n xs h = cond-true (ltb (length xs) n) _ _ (lt-ltb _ n h)

announced_there : (n : ℕ) (xs : List ℕ) → n ≤ length xs → announced n xs ≡ cond (eqb (total (take (n - 1) (drop 1 xs)) % 256) 0) (Whole n) Wrong
announced_there n xs h = cond-false (ltb (length xs) n) _ _ (le-ltb _ n h)

pub announced_whole : (n : ℕ) (xs : List ℕ) → n ≤ length xs → total (take (n - 1) (drop 1 xs)) % 256 ≡ 0 → announced n xs ≡ Whole n
announced_whole n xs h z = announced_there n xs h ∙ cond-true (eqb _ 0) _ _ (eq-eqb _ 0 z)

pub announced_short : (n : ℕ) (xs : List ℕ) → announced n xs ≡ Waits → length xs < n
announced_short n xs e =
    ⊎_elim (λ h. h)
    (λ h. absurd (whole_not_waits n (tested _ (Whole n) Waits waits_not_wrong (sym (announced_there n xs h) ∙ e)).1))
    (cases_lt (length xs) n)

-- the frame of n bytes is whole
pub record Complete (n k : ℕ) (xs : List ℕ) : Type 0 where
  pub same : k ≡ n
  pub within : n ≤ length xs
  pub sums : total (take (n - 1) (drop 1 xs)) % 256 ≡ 0

pub announced_complete : (n k : ℕ) (xs : List ℕ) → announced n xs ≡ Whole k → Complete n k xs
announced_complete n k xs e =
    ⊎_elim
    (λ h. absurd (whole_not_waits k (sym e ∙ announced_waits n xs h)))
    (λ h.
    let p = tested _ (Whole n) (Whole k) (whole_not_wrong k) (sym (announced_there n xs h) ∙ e) in
    let q = p.1 in
    record { same = cc; within = h; sums = eqb-true _ 0 p.0 })
    (cases_lt (length xs) n)

announced_stays : (n : ℕ) (xs ys : List ℕ) → 0 < length xs → (announced n xs ≡ Waits → ⊥) → announced n (xs ++ ys) ≡ announced n xs
announced_stays n [] ys some w = absurd (omega arith)
announced_stays n (x ∷ xs) ys some w =
    ⊎_elim
    (λ h. absurd (w (announced_waits n (x ∷ xs) h)))
    (λ h.
    announced_there n (x ∷ xs ++ ys) (omega (arith, length-append xs ys))
    ∙ ap (λ l. cond (eqb (total l % 256) 0) (Whole n) Wrong) (take-append-le (n - 1) xs ys (omega arith))
    ∙ sym (announced_there n (x ∷ xs) h))
    (cases_lt (length (x ∷ xs)) n)

-- ---- by the header: one rule for standard and extended frames

high_wrong : (h l : ℕ) (rest xs : List ℕ) → 8 < h → extended (h ∷ l ∷ rest) xs ≡ Wrong
high_wrong h l rest xs g =
    cond-false (leb 255 (h * 256 + l) && leb (h * 256 + l) 2048) _ Wrong
    (and_right (leb 255 (h * 256 + l)) _ (lt-leb (h * 256 + l) 2048 (omega arith)))

extended_stays : (rest xs ys : List ℕ) → 0 < length xs → (extended rest xs ≡ Waits → ⊥) → extended (rest ++ ys) (xs ++ ys) ≡ extended rest xs
extended_stays [] xs ys some w = absurd (w refl)
extended_stays (h ∷ []) xs ys some w =
    ⊎_elim
    (λ (e : leb h 8 ≡ true). absurd (w (cond-true (leb h 8) Waits Wrong e)))
    (λ (e : leb h 8 ≡ false). behind ys e ∙ sym (cond-false (leb h 8) Waits Wrong e))
    (cases_Bool (leb h 8))
  where
    behind : (zs : List ℕ) → leb h 8 ≡ false → extended (h ∷ zs) (xs ++ ys) ≡ Wrong
    behind [] e = cond-false (leb h 8) Waits Wrong e
    behind (l ∷ zs) e = high_wrong h l zs (xs ++ ys) (leb-false h 8 e)
extended_stays (h ∷ l ∷ rest) xs ys some w =
    let t : Bool = leb 255 (h * 256 + l) && leb (h * 256 + l) 2048 in
    let n : ℕ = 7 + (h * 256 + l) in
    ⊎_elim
    (λ (e : t ≡ true).
    let same = cond-true t (announced n xs) Wrong e in
    cond-true t _ Wrong e ∙ announced_stays n xs ys some (λ z. w (same ∙ z)) ∙ sym same)
    (λ (e : t ≡ false). cond-false t _ Wrong e ∙ sym (cond-false t (announced n xs) Wrong e))
    (cases_Bool t)

started_stays : (rest xs ys : List ℕ) → 0 < length xs → (started rest xs ≡ Waits → ⊥) → started (rest ++ ys) (xs ++ ys) ≡ started rest xs
started_stays [] xs ys some w = absurd (w refl)
started_stays (a ∷ []) xs ys some w = absurd (w refl)
started_stays (a ∷ i ∷ []) xs ys some w = absurd (w refl)
started_stays (a ∷ i ∷ n ∷ rest) xs ys some w =
    let t : Bool = leb 255 n in
    ⊎_elim
    (λ (e : t ≡ true).
    let same = cond-true t (extended rest xs) (announced (5 + n) xs) e in
    cond-true t _ _ e ∙ extended_stays rest xs ys some (λ z. w (same ∙ z)) ∙ sym same)
    (λ (e : t ≡ false).
    let same = cond-false t (extended rest xs) (announced (5 + n) xs) e in
    cond-false t _ _ e ∙ announced_stays (5 + n) xs ys some (λ z. w (same ∙ z)) ∙ sym same)
    (cases_Bool t)

pub front_stays : (xs : List ℕ) → Stays xs
front_stays [] ys w = absurd (w refl)
front_stays (x ∷ rest) ys w =
    let t : Bool = eqb x 0xFA in
    ⊎_elim
    (λ (e : t ≡ true).
    let same = cond-true t (started rest (x ∷ rest)) Wrong e in
    cond-true t _ Wrong e ∙ started_stays rest (x ∷ rest) ys (omega arith) (λ z. w (same ∙ z)) ∙ sym same)
    (λ (e : t ≡ false). cond-false t _ Wrong e ∙ sym (cond-false t (started rest (x ∷ rest)) Wrong e))
    (cases_Bool t)

-- ---- sizes

-- a frame is announced, or a start is cut before its length
data Header (xs : List ℕ) (w : Front) : Type 0 where
  announces : (n : ℕ) → 5 ≤ n → n ≤ 2055 → around xs ≤ n → announced n xs ≡ w → Header xs w
  cut : length xs ≤ 5 → Waits ≡ w → Header xs w

around_most : (xs : List ℕ) → around xs ≤ 7
around_most xs = cond_both (leb 255 (get_or xs 3 0)) 7 5 (λ k. k ≤ 7) (λ _. omega arith) (λ _. omega arith)

extended_header : (rest xs : List ℕ) (w : Front) → (w ≡ Wrong → ⊥) → length xs ≡ 4 + length rest → extended rest xs ≡ w → Header xs w
extended_header [] xs w n l e = cut (omega arith) e
extended_header (h ∷ []) xs w n l e = cut (omega arith) (tested (leb h 8) Waits w n e).1
extended_header (h ∷ k ∷ rest) xs w n l e =
    let p = tested _ (announced (7 + (h * 256 + k)) xs) w n e in
    let q = and_parts (leb 255 (h * 256 + k)) (leb (h * 256 + k) 2048) p.0 in
    announces (7 + (h * 256 + k)) (omega arith) (omega (arith, leb-true (h * 256 + k) 2048 q.1)) (omega (arith, around_most xs)) p.1

started_header : (x : ℕ) (rest : List ℕ) (w : Front) → (w ≡ Wrong → ⊥) → started rest (x ∷ rest) ≡ w → Header (x ∷ rest) w
started_header x [] w n e = cut (omega arith) e
started_header x (a ∷ []) w n e = cut (omega arith) e
started_header x (a ∷ i ∷ []) w n e = cut (omega arith) e
started_header x (a ∷ i ∷ k ∷ rest) w n e =
    let xs : List ℕ = x ∷ a ∷ i ∷ k ∷ rest in
    ⊎_elim
    (λ (t : leb 255 k ≡ true).
    extended_header rest xs w n (omega arith) (sym (cond-true (leb 255 k) (extended rest xs) (announced (5 + k) xs) t) ∙ e))
    (λ (t : leb 255 k ≡ false).
    announces (5 + k) (omega arith) (omega (arith, leb-false 255 k t)) (omega (arith, cond-false {A = ℕ} (leb 255 k) 7 5 t))
    (sym (cond-false (leb 255 k) (extended rest xs) (announced (5 + k) xs) t) ∙ e))
    (cases_Bool (leb 255 k))

header : (xs : List ℕ) (w : Front) → (w ≡ Wrong → ⊥) → front_of xs ≡ w → Header xs w
header [] w n e = cut (omega arith) e
header (x ∷ rest) w n e = started_header x rest w n (tested (eqb x 0xFA) _ w n e).1

waits_bounded : (xs : List ℕ) → front_of xs ≡ Waits → length xs ≤ 2054
waits_bounded xs e =
    elim (header xs Waits waits_not_wrong e) [
      | announces n low high room a ↦ omega (arith, announced_short n xs a)
      | cut l w ↦ omega arith
    ]

whole_bounded : (xs : List ℕ) (n : ℕ) → front_of xs ≡ Whole n → (5 ≤ n) × (n ≤ 2055) × (n ≤ length xs)
whole_bounded xs n e =
    elim (header xs (Whole n) (whole_not_wrong n) e) [
      | announces k low high room a ↦ let f = announced_complete k n xs a in (omega arith, omega arith, omega arith)
      | cut l w ↦ absurd (whole_not_waits n (sym w))
    ]

-- a whole frame holds its header and checksum
pub whole_around : (xs : List ℕ) (n : ℕ) → front_of xs ≡ Whole n → around xs ≤ n
whole_around xs n e =
    elim (header xs (Whole n) (whole_not_wrong n) e) [
      | announces k low high room a ↦ let f = announced_complete k n xs a in omega arith
      | cut l w ↦ absurd (whole_not_waits n (sym w))
    ]

pub front_bounded : (xs : List ℕ) → Bounded xs
front_bounded xs = record { waits = waits_bounded xs; whole = whole_bounded xs }
