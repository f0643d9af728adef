-- Frames and their parts are each other's inverse.
use Rattle.std.proofs.Common.{◌≡◌, ℕ, ◌+◌, ◌-◌, ◌/◌, ◌%◌, ◌≤◌, cond, leb, List, [], ◌∷◌, ◌++◌, length, take, drop, Some, None, sym, refl, ap, ◌∙◌, subst, ⊎_elim, arith}
use Rattle.std.proofs.lemmas.List.{length-append, length-take-le, get_or-take, take_at, drop_at}
use Rattle.std.proofs.lemmas.Bool.{le-leb, lt-leb, cond-true, cond-false, cases_lt}
use Rattle.xbus.specs.declared.front.Front.{Front}
use Rattle.xbus.specs.declared.front.Front.TheVariants.{Whole, Waits, Wrong}
use Rattle.xbus.specs.Front.{front_of}
use Rattle.xbus.specs.Frames.{checksum, enclosed, encoded, Frame}
use Rattle.xbus.specs.Parts.{Parts, frame_of, around, parts_of, split_of, whole_parts, first_parts, PartsInverse}
use Rattle.xbus.specs.Writing.{ReadsBack}
use Rattle.xbus.proofs.Headers.{length_short, length_is_long}
use Rattle.xbus.proofs.Fronts.{front_bounded, whole_around}
use Rattle.xbus.proofs.Cases.{encoded_whole, front_said}

-- what is known of the bytes of a frame: the header tells where the data are
record Split (xs : List ℕ) (a i : ℕ) (d : List ℕ) : Type 0 where
  pub parts : parts_of xs ≡ record { address = a; identifier = i; content = d }

-- behind the length field and k bytes more stand the data and one byte
split_at : (k a i n : ℕ) (more d : List ℕ) (s : ℕ) → cond (leb 255 n) 7 5 ≡ k + 5 → length more ≡ k → Split (0xFA ∷ a ∷ i ∷ n ∷ (more ++ (d ++ (s ∷ [])))) a i d
split_at k a i n more d s e l =
    let xs : List ℕ = 0xFA ∷ a ∷ i ∷ n ∷ (more ++ (d ++ (s ∷ []))) in
    let lx : length xs ≡ k + 5 + length d = omega (arith, length-append more (d ++ (s ∷ [])), length-append d (s ∷ [])) in
    let behind : drop (around xs - 1) xs ≡ d ++ (s ∷ []) =
    drop_at (0xFA ∷ a ∷ i ∷ n ∷ more) (d ++ (s ∷ [])) (around xs - 1) (omega (arith, e)) in
    let content : take (length xs - around xs) (drop (around xs - 1) xs) ≡ d =
    ap (take (length xs - around xs)) behind ∙ take_at d (s ∷ []) (length xs - around xs) (omega (arith, e, lx)) in
    record { parts = ap (λ z. record { address = a; identifier = i; content = z }) content }

encoded_split : (a i : ℕ) (d : List ℕ) → length d ≤ 2048 → Split (encoded a i d) a i d
encoded_split a i d h =
    let n : ℕ = length d in
    let P : List ℕ → Type 0 = λ z. Split (enclosed ((a ∷ i ∷ z) ++ d)) a i d in
    ⊎_elim
    (λ l.
    let s : ℕ = checksum (a ∷ i ∷ n ∷ d) in
    subst P (sym (length_short n l)) (split_at 0 a i n [] d s (cond-false (leb 255 n) 7 5 (lt-leb 255 n l)) refl))
    (λ l.
    let s : ℕ = checksum (a ∷ i ∷ 0xFF ∷ n / 256 ∷ n % 256 ∷ d) in
    subst P (sym (length_is_long n l h)) (split_at 2 a i 0xFF (n / 256 ∷ n % 256 ∷ []) d s refl refl))
    (cases_lt n 255)

pub parts_encoded : (p : Parts) → length p.content ≤ 2048 → parts_of (frame_of p) ≡ p
parts_encoded p h = (encoded_split p.address p.identifier p.content h).parts

-- a frame is that of its parts
pub frame_parts : (xs : List ℕ) → Frame xs → frame_of (parts_of xs) ≡ xs
frame_parts xs f =
    let s = encoded_split f.address f.identifier f.content f.content_short in
    subst (λ z. frame_of (parts_of z) ≡ z) (sym f.is) (ap frame_of s.parts)

pub parts_inverse : PartsInverse
parts_inverse = record {
  parts_back = parts_encoded;
  frame_back = λ xs bs n e. frame_parts (take n xs) ((front_said xs bs).whole n e).1;
}

-- a whole frame has parts
pub split_whole : (xs : List ℕ) (n : ℕ) → front_of xs ≡ Whole n → split_of (take n xs) ≡ Some (parts_of (take n xs))
split_whole xs n e =
    let f : List ℕ = take n xs in
    let b = (front_bounded xs).whole n e in
    let same : around f ≡ around xs = ap (λ k. cond (leb 255 k) 7 5) (get_or-take n xs 3 0 (omega arith)) in
    cond-true (leb (around f) (length f)) (Some (parts_of f)) None
    (le-leb (around f) (length f) (omega (arith, same, whole_around xs n e, length-take-le n xs b.2)))

-- no whole frame stands there
pub split_none : (xs : List ℕ) (w : Front) → w ≡ front_of xs → ((n : ℕ) → w ≡ Whole n → ⊥) → None ≡ first_parts xs
split_none xs (Whole n) e not = absurd (not n refl)
split_none xs Waits e not = ap (λ w. whole_parts w xs) e
split_none xs Wrong e not = ap (λ w. whole_parts w xs) e

pub reads_back : ReadsBack
reads_back p h behind =
    let f : List ℕ = frame_of p in
    ap (λ w. whole_parts w (f ++ behind)) (encoded_whole p.address p.identifier p.content behind h)
    ∙ ap (λ l. Some (parts_of l)) (take_at f behind (length f) refl) ∙ ap Some (parts_encoded p h)
