-- Reading what waits together with more bytes: dropping, filling and passing take nothing from what reading takes.
use Rattle.std.proofs.Common.{◌≡◌, ℕ, suc, ◌≤◌, true, false, ◌⊎◌, List, [], ◌∷◌, ◌++◌, length, take, drop, Some, None, sym, refl, ap, ◌∙◌, subst, ap₂, inl, inr, ⊎_elim, append_assoc, one-add, arith}
use Rattle.std.proofs.lemmas.List.{take-append-le, drop-append-le, length-append, length-drop}
use Rattle.std.proofs.lemmas.Bool.{cases_Bool, cond_both, true≢false, false≢true}
use Rattle.xbus.specs.declared.front.Front.{Front}
use Rattle.xbus.specs.declared.front.Front.TheVariants.{Whole, Waits, Wrong}
use Rattle.xbus.specs.Front.{front_of}
use Rattle.xbus.specs.Parts.{parts_of, whole_parts, first_parts}
use Rattle.xbus.proofs.Fronts.{front_stays, front_bounded, waits_not_wrong, whole_not_wrong, whole_not_waits}
use Rattle.stream.specs.Settling.{dropped, settled}
use Rattle.stream.specs.Waiting.{if_whole, took, passed}
use Rattle.stream.specs.Reading.{Piece, read_of}
use Rattle.stream.proofs.Readings.{read_none, read_whole, read_waits, read_wrong}
use Rattle.stream.proofs.Settles.{dropped_wrong, dropped_none}
use Rattle.session.specs.Filling.{is_whole, fills, filled}
use Rattle.session.specs.Moments.{frames_of, left_of, frames_in, left_in}

-- the frames that reading takes, and what it leaves
abbrev pub Read : Type 0
Read = List (List ℕ) × List ℕ

abbrev pub reads : List ℕ → Read
reads xs = (frames_in xs, left_in xs)

abbrev pub onto : List (List ℕ) → Read → Read
onto fs r = (fs ++ r.0, r.1)

reads_of : (xs : List ℕ) (ps : List Piece) → read_of xs ≡ ps → reads xs ≡ (frames_of ps, left_of ps)
unfolding frames_in left_in
reads_of xs ps e = ap (λ (qs : List Piece). (frames_of qs, left_of qs)) e

pub reads_none : reads [] ≡ ([], [])
reads_none = reads_of [] [] read_none

pub reads_whole : (xs : List ℕ) (n : ℕ) → front_of xs ≡ Whole n → reads xs ≡ onto (take n xs ∷ []) (reads (drop n xs))
unfolding frames_in left_in
reads_whole xs n e = reads_of xs _ (read_whole xs n e)

pub reads_waits : (xs : List ℕ) → front_of xs ≡ Waits → reads xs ≡ ([], xs)
reads_waits [] e = reads_none
reads_waits (x ∷ xs) e = reads_of (x ∷ xs) _ (read_waits (x ∷ xs) (omega arith) e)

pub reads_wrong : (x : ℕ) (xs : List ℕ) → front_of (x ∷ xs) ≡ Wrong → reads (x ∷ xs) ≡ reads xs
unfolding frames_in left_in
reads_wrong x xs e = reads_of (x ∷ xs) _ (read_wrong x xs e)

-- the front is one of three
pub front_cases : (f : Front) → ((n : ℕ) × (f ≡ Whole n)) ⊎ ((f ≡ Waits) ⊎ (f ≡ Wrong))
front_cases (Whole n) = inl (n, refl)
front_cases Waits = inr (inl refl)
front_cases Wrong = inr (inr refl)

-- bytes that rest: nothing is to be dropped
abbrev pub Settled : List ℕ → Type 0
Settled w = front_of w ≡ Wrong → ⊥

pub settled_none : Settled []
settled_none e = waits_not_wrong e

settled_same : (w : List ℕ) → Settled w → settled w ≡ w
settled_same w s = ap (λ (n : ℕ). drop n w) (dropped_none w s)

settled_drops : (x : ℕ) (xs : List ℕ) → front_of (x ∷ xs) ≡ Wrong → settled (x ∷ xs) ≡ settled xs
settled_drops x xs e = ap (λ (n : ℕ). drop n (x ∷ xs)) (dropped_wrong (x ∷ xs) e ∙ one-add (dropped xs))

front_wrong : (w : List ℕ) → (Settled w) ⊎ (front_of w ≡ Wrong)
front_wrong w =
    ⊎_elim (λ q. inl (λ e. whole_not_wrong q.0 (sym q.1 ∙ e)))
    (λ r. ⊎_elim (λ (q : front_of w ≡ Waits). inl (λ e. waits_not_wrong (sym q ∙ e))) (λ q. inr q) r)
    (front_cases (front_of w))

wrong_more : (w v : List ℕ) → front_of w ≡ Wrong → front_of (w ++ v) ≡ Wrong
wrong_more w v e = front_stays w v (λ h. waits_not_wrong (sym h ∙ e)) ∙ e

pub reads_settled : (w v : List ℕ) → reads (settled w ++ v) ≡ reads (w ++ v)
reads_settled [] v = refl
reads_settled (x ∷ xs) v =
    ⊎_elim
    (λ (s : Settled (x ∷ xs)). ap (λ (y : List ℕ). reads (y ++ v)) (settled_same (x ∷ xs) s))
    (λ e. ap (λ (y : List ℕ). reads (y ++ v)) (settled_drops x xs e) ∙ reads_settled xs v ∙ sym (reads_wrong x (xs ++ v) (wrong_more (x ∷ xs) v e)))
    (front_wrong (x ∷ xs))

pub settled_settles : (w : List ℕ) → Settled (settled w)
settled_settles [] = settled_none
settled_settles (x ∷ xs) =
    ⊎_elim
    (λ (s : Settled (x ∷ xs)). subst Settled (sym (settled_same (x ∷ xs) s)) s)
    (λ e. subst Settled (sym (settled_drops x xs e)) (settled_settles xs))
    (front_wrong (x ∷ xs))

-- a whole frame waits, or none does

if_none : {A : Type 0} (f : Front) (g : ℕ → A) (y : A) → if_whole f (λ _. true) false ≡ false → if_whole f g y ≡ y
if_none (Whole n) g y e = absurd (true≢false e)
if_none Waits g y e = refl
if_none Wrong g y e = refl

none_front : (f : Front) → if_whole f (λ _. true) false ≡ false → (f ≡ Wrong → ⊥) → f ≡ Waits
none_front (Whole n) e s = absurd (true≢false e)
none_front Waits e s = refl
none_front Wrong e s = absurd (s refl)

some_front : (f : Front) → if_whole f (λ _. true) false ≡ true → (n : ℕ) × (f ≡ Whole n)
some_front (Whole n) e = (n, refl)
some_front Waits e = absurd (false≢true e)
some_front Wrong e = absurd (false≢true e)

pub is_whole_lem : (w : List ℕ) → is_whole w ≡ true → (n : ℕ) × (front_of w ≡ Whole n)
is_whole_lem w e = some_front (front_of w) e

pub waits_front : (w : List ℕ) → is_whole w ≡ false → Settled w → front_of w ≡ Waits
waits_front w e s = none_front (front_of w) e s

pub reads_quiet : (w : List ℕ) → is_whole w ≡ false → Settled w → reads w ≡ ([], w)
reads_quiet w e s = reads_waits w (waits_front w e s)

-- the first parts

pub parts_whole : (w : List ℕ) (n : ℕ) → front_of w ≡ Whole n → first_parts w ≡ Some (parts_of (take n w))
parts_whole w n e = ap (λ (f : Front). whole_parts f w) e

parts_by : (f : Front) (w : List ℕ) → if_whole f (λ _. true) false ≡ false → whole_parts f w ≡ None
parts_by (Whole n) w e = absurd (true≢false e)
parts_by Waits w e = refl
parts_by Wrong w e = refl

pub parts_none : (w : List ℕ) → is_whole w ≡ false → first_parts w ≡ None
parts_none w e = parts_by (front_of w) w e

-- one byte more, and many

took_settles : (w : List ℕ) (b : ℕ) → is_whole w ≡ false → took w b ≡ settled (w ++ (b ∷ []))
took_settles w b e = if_none (front_of w) (λ _. w) (settled (w ++ (b ∷ []))) e

reads_took : (w v : List ℕ) (b : ℕ) → is_whole w ≡ false → reads (took w b ++ v) ≡ reads (w ++ (b ∷ v))
reads_took w v b e =
    ap (λ (x : List ℕ). reads (x ++ v)) (took_settles w b e) ∙ reads_settled (w ++ (b ∷ [])) v ∙ ap reads (append_assoc w (b ∷ []) v)

settled_took : (w : List ℕ) (b : ℕ) → is_whole w ≡ false → Settled (took w b)
settled_took w b e = subst Settled (sym (took_settles w b e)) (settled_settles (w ++ (b ∷ [])))

pub settled_filled : (bs w : List ℕ) → Settled w → Settled (filled w bs)
unfolding filled
settled_filled [] w s = s
settled_filled (b ∷ bs) w s =
    cond_both (is_whole w) w (filled (took w b) bs) Settled (λ _. s) (λ e. settled_filled bs (took w b) (settled_took w b e))

-- no more than the longest frame waits: bytes that wait are fewer

few_took : (w : List ℕ) (b : ℕ) → is_whole w ≡ false → Settled w → length (took w b) ≤ 2055
few_took w b e s =
    let f = (front_bounded w).waits (waits_front w e s) in
    let l = length-drop (dropped (w ++ (b ∷ []))) (w ++ (b ∷ [])) in
    let k = length-append w (b ∷ []) in
    rw took_settles (omega arith)

pub few_filled : (bs w : List ℕ) → Settled w → length w ≤ 2055 → length (filled w bs) ≤ 2055
unfolding filled
few_filled [] w s l = l
few_filled (b ∷ bs) w s l =
    cond_both (is_whole w) w (filled (took w b) bs) (λ (x : List ℕ). length x ≤ 2055) (λ _. l)
    (λ e. few_filled bs (took w b) (settled_took w b e) (few_took w b e s))

pub filled_whole : (w bs : List ℕ) → is_whole w ≡ true → filled w bs ≡ w
unfolding filled
filled_whole w [] e = refl
filled_whole w (b ∷ bs) e = rw e

pub fills_whole : (w bs : List ℕ) → is_whole w ≡ true → fills w bs ≡ 0
unfolding fills
fills_whole w [] e = refl
fills_whole w (b ∷ bs) e = rw e

pub filled_more : (w bs : List ℕ) (b : ℕ) → is_whole w ≡ false → filled w (b ∷ bs) ≡ filled (took w b) bs
unfolding filled
filled_more w bs b e = rw e

pub fills_more : (w bs : List ℕ) (b : ℕ) → is_whole w ≡ false → fills w (b ∷ bs) ≡ suc (fills (took w b) bs)
unfolding fills
fills_more w bs b e = rw e (one-add _)

pub filled_none : (w : List ℕ) → filled w [] ≡ w
unfolding filled
filled_none w = refl

pub fills_none : (w : List ℕ) → fills w [] ≡ 0
unfolding fills
fills_none w = refl

-- reading what waits after a feed, with more behind it, is reading what waited, the bytes taken and the rest
pub reads_filled : (bs w v : List ℕ) → reads (filled w bs ++ v) ≡ reads (w ++ (take (fills w bs) bs ++ v))
reads_filled [] w v =
    ap (λ (x : List ℕ). reads (x ++ v)) (filled_none w) ∙ ap (λ (n : ℕ). reads (w ++ (take n [] ++ v))) (sym (fills_none w))
reads_filled (b ∷ bs) w v =
    ⊎_elim
    (λ (e : is_whole w ≡ true).
    ap (λ (x : List ℕ). reads (x ++ v)) (filled_whole w (b ∷ bs) e)
    ∙ ap (λ (n : ℕ). reads (w ++ (take n (b ∷ bs) ++ v))) (sym (fills_whole w (b ∷ bs) e)))
    (λ (e : is_whole w ≡ false).
    ap (λ (x : List ℕ). reads (x ++ v)) (filled_more w bs b e) ∙ reads_filled bs (took w b) v
    ∙ reads_took w (take (fills (took w b) bs) bs ++ v) b e
    ∙ ap (λ (n : ℕ). reads (w ++ (take n (b ∷ bs) ++ v))) (sym (fills_more w bs b e)))
    (cases_Bool (is_whole w))

-- a whole frame is passed

passed_settles : (w : List ℕ) (n : ℕ) → front_of w ≡ Whole n → passed w ≡ settled (drop n w)
passed_settles w n e = ap (λ (f : Front). if_whole f (λ k. settled (drop k w)) w) e

pub settled_passed : (w : List ℕ) (n : ℕ) → front_of w ≡ Whole n → Settled (passed w)
settled_passed w n e = subst Settled (sym (passed_settles w n e)) (settled_settles (drop n w))

pub few_passed : (w : List ℕ) (n : ℕ) → front_of w ≡ Whole n → length w ≤ 2055 → length (passed w) ≤ 2055
few_passed w n e l =
    let d = length-drop n w in
    let k = length-drop (dropped (drop n w)) (drop n w) in
    rw (passed_settles w n e) (omega arith)

pub reads_passed : (w v : List ℕ) (n : ℕ) → front_of w ≡ Whole n → reads (w ++ v) ≡ onto (take n w ∷ []) (reads (passed w ++ v))
reads_passed w v n e =
    let b = (front_bounded w).whole n e in
    let l : n ≤ length w = b.2 in
    reads_whole (w ++ v) n (front_stays w v (λ h. whole_not_waits n (sym e ∙ h)) ∙ e)
    ∙ ap₂ (λ (f r : List ℕ). onto (f ∷ []) (reads r)) (take-append-le n w v l) (drop-append-le n w v l)
    ∙ ap (onto (take n w ∷ [])) (sym (ap (λ (x : List ℕ). reads (x ++ v)) (passed_settles w n e) ∙ reads_settled (drop n w) v))
