-- Reading: its cases one by one, frames one behind the other, and reading in the words of the protocol.
use Rattle.std.proofs.Common.{◌≡◌, ℕ, zero, suc, ◌+◌, ◌-◌, ◌<◌, ◌≤◌, List, [], ◌∷◌, ◌++◌, map, length, take, drop, sym, refl, ap, ◌∙◌, subst, arith}
use Rattle.std.specs.List.{flat_map}
use Rattle.std.proofs.lemmas.List.{length-drop, take_at, drop_at, take-append-drop, append-nil}
use Rattle.xbus.specs.declared.front.Front.{Front}
use Rattle.xbus.specs.declared.front.Front.TheVariants.{Whole, Waits, Wrong}
use Rattle.xbus.specs.Numbers.{Bytes}
use Rattle.xbus.specs.Front.{front_of}
use Rattle.xbus.specs.Frames.{Frame}
use Rattle.stream.specs.Settling.{unless_wrong, dropped, settled}
use Rattle.stream.specs.Reading.{Piece, frame, stray, left, pieces_by, read_from, read_of, Reads, ends, waits, takes, drops, piece_bytes, FramesAreRead, ReadingSaid}
use Rattle.xbus.proofs.Bytes.{bytes_drop}
use Rattle.xbus.proofs.Cases.{encoded_whole, front_said, begins_whole, starts_waits}
use Rattle.xbus.proofs.Fronts.{front_bounded}

-- ---- case by case

read_from_skips : (k : ℕ) (xs : List ℕ) → read_from k xs ≡ read_from 0 (drop k xs)
unfolding read_from
read_from_skips zero xs = refl
read_from_skips (suc k) [] = refl
read_from_skips (suc k) (x ∷ xs) = read_from_skips k xs

pub read_none : read_of [] ≡ []
unfolding read_of read_from
read_none = refl

-- the pieces of what begins with this front
module _ (x : ℕ) (xs : List ℕ) where
  read_by : (w : Front) → front_of (x ∷ xs) ≡ w → read_of (x ∷ xs) ≡ pieces_by w (x ∷ xs) (λ n. read_from (n - 1) xs)
  unfolding read_of read_from
  read_by w e = ap (λ v. pieces_by v (x ∷ xs) (λ n. read_from (n - 1) xs)) e

  read_behind : (n : ℕ) → 0 < n → read_from (n - 1) xs ≡ read_of (drop n (x ∷ xs))
  unfolding read_of
  read_behind n h =
      let e : n ≡ suc (n - 1) = omega arith in
      read_from_skips (n - 1) xs ∙ ap (λ k. read_from 0 (drop k (x ∷ xs))) (sym e)

pub read_whole : (xs : List ℕ) (n : ℕ) → front_of xs ≡ Whole n → read_of xs ≡ frame (take n xs) ∷ read_of (drop n xs)
read_whole [] n e = absurd (let b = (front_bounded []).whole n e in omega arith)
read_whole (x ∷ xs) n e =
    let b = (front_bounded (x ∷ xs)).whole n e in
    read_by x xs (Whole n) e ∙ ap (λ ps. frame (take n (x ∷ xs)) ∷ ps) (read_behind x xs n (omega arith))

pub read_waits : (xs : List ℕ) → 0 < length xs → front_of xs ≡ Waits → read_of xs ≡ left xs ∷ []
read_waits [] some e = absurd (omega arith)
read_waits (x ∷ xs) some e = read_by x xs Waits e

pub read_wrong : (x : ℕ) (xs : List ℕ) → front_of (x ∷ xs) ≡ Wrong → read_of (x ∷ xs) ≡ stray x ∷ read_of xs
read_wrong x xs e = read_by x xs Wrong e ∙ ap (λ ps. stray x ∷ ps) (read_behind x xs 1 (omega arith))

-- the bytes that settling drops are dropped by reading
pub read_settled : (xs : List ℕ) → read_of xs ≡ map stray (take (dropped xs) xs) ++ read_of (settled xs)
read_settled [] = refl
read_settled (x ∷ xs) = by (front_of (x ∷ xs)) refl (read_settled xs)
  where
    by : (w : Front) → front_of (x ∷ xs) ≡ w → read_of xs ≡ map stray (take (dropped xs) xs) ++ read_of (settled xs) → read_of (x ∷ xs) ≡ map stray (take (dropped (x ∷ xs)) (x ∷ xs)) ++ read_of (settled (x ∷ xs))
    by (Whole n) e r = ap (λ w. map stray (take (unless_wrong w 0 (1 + dropped xs)) (x ∷ xs)) ++ read_of (drop (unless_wrong w 0 (1 + dropped xs)) (x ∷ xs))) (sym e)
    by Waits e r = ap (λ w. map stray (take (unless_wrong w 0 (1 + dropped xs)) (x ∷ xs)) ++ read_of (drop (unless_wrong w 0 (1 + dropped xs)) (x ∷ xs))) (sym e)
    by Wrong e r =
        let s : 1 + dropped xs ≡ suc (dropped xs) = omega arith in
        read_wrong x xs e ∙ ap (λ ps. stray x ∷ ps) r
        ∙ ap (λ k. map stray (take k (x ∷ xs)) ++ read_of (drop k (x ∷ xs))) (sym s)
        ∙ ap (λ w. map stray (take (unless_wrong w 0 (1 + dropped xs)) (x ∷ xs)) ++ read_of (drop (unless_wrong w 0 (1 + dropped xs)) (x ∷ xs))) (sym e)

-- ---- frames one behind the other

pub frame_front : (f rest : List ℕ) → Frame f → front_of (f ++ rest) ≡ Whole (length f)
frame_front f rest h =
    subst (λ z. front_of (z ++ rest) ≡ Whole (length z)) (sym h.is)
    (encoded_whole h.address h.identifier h.content rest h.content_short)

pub frames_are_read : FramesAreRead
frames_are_read [] h = read_none
frames_are_read (f ∷ fs) h =
    let rest : List ℕ = flat_map (λ z. z) fs in
    read_whole (f ++ rest) (length f) (frame_front f rest h.0)
    ∙ (λ i. frame (take_at f rest (length f) refl i) ∷ read_of (drop_at f rest (length f) refl i))
    ∙ ap (λ ps. frame f ∷ ps) (frames_are_read fs h.1)

-- ---- in the words of the protocol

-- what is shown of a list may use that it holds of what is behind a piece
module _ (P : List ℕ → Type 0)
    (none : P [])
    (whole : (xs : List ℕ) (n : ℕ) → front_of xs ≡ Whole n → P (drop n xs) → P xs)
    (waiting : (xs : List ℕ) → 0 < length xs → front_of xs ≡ Waits → P xs)
    (wrong : (x : ℕ) (xs : List ℕ) → front_of (x ∷ xs) ≡ Wrong → P xs → P (x ∷ xs))
  where
    reading_upto : (k : ℕ) (xs : List ℕ) (w : Front) → length xs ≤ k → front_of xs ≡ w → P xs
    reading_upto k [] w l e = none
    reading_upto zero (x ∷ xs) w l e = absurd (omega arith)
    reading_upto (suc k) (x ∷ xs) (Whole n) l e =
        let b = (front_bounded (x ∷ xs)).whole n e in
        whole (x ∷ xs) n e (reading_upto k (drop n (x ∷ xs)) (front_of (drop n (x ∷ xs))) (omega (arith, length-drop n (x ∷ xs))) refl)
    reading_upto (suc k) (x ∷ xs) Waits l e = waiting (x ∷ xs) (omega arith) e
    reading_upto (suc k) (x ∷ xs) Wrong l e = wrong x xs e (reading_upto k xs (front_of xs) (omega arith) refl)

    pub reading_by : (xs : List ℕ) → P xs
    reading_by xs = reading_upto (length xs) xs (front_of xs) (omega arith) refl

reads : (xs : List ℕ) → Bytes xs → Reads xs (read_of xs)
reads =
    reading_by (λ xs. Bytes xs → Reads xs (read_of xs))
    (λ bs. subst (Reads []) (sym read_none) ends)
    (λ xs n e r bs.
    subst (Reads xs) (sym (read_whole xs n e)) (takes ((front_said xs bs).whole n e) (r (bytes_drop n xs bs))))
    (λ xs some e bs. subst (Reads xs) (sym (read_waits xs some e)) (waits some ((front_said xs bs).waits e)))
    (λ x xs e r bs. subst (Reads (x ∷ xs)) (sym (read_wrong x xs e)) (drops ((front_said (x ∷ xs) bs).wrong e) (r bs.1)))

only_reading : {xs : List ℕ} {ps : List Piece} → Bytes xs → Reads xs ps → ps ≡ read_of xs
only_reading bs ends = sym read_none
only_reading bs (waits {xs = xs} some s) = sym (read_waits xs some (starts_waits xs s))
only_reading bs (takes {xs = xs} {n = n} b r) =
    ap (λ ps. frame (take n xs) ∷ ps) (only_reading (bytes_drop n xs bs) r) ∙ sym (read_whole xs n (begins_whole xs n b))
only_reading bs (drops {x = x} {xs = xs} neither r) =
    ap (λ ps. stray x ∷ ps) (only_reading bs.1 r) ∙ sym (read_wrong x xs ((front_said (x ∷ xs) bs).is_wrong neither))

bytes_kept : (xs : List ℕ) → flat_map piece_bytes (read_of xs) ≡ xs
bytes_kept =
    reading_by (λ xs. flat_map piece_bytes (read_of xs) ≡ xs)
    (ap (flat_map piece_bytes) read_none)
    (λ xs n e r. ap (flat_map piece_bytes) (read_whole xs n e) ∙ ap (λ l. take n xs ++ l) r ∙ take-append-drop n xs)
    (λ xs some e. ap (flat_map piece_bytes) (read_waits xs some e) ∙ append-nil xs)
    (λ x xs e r. ap (flat_map piece_bytes) (read_wrong x xs e) ∙ ap (λ l. x ∷ l) r)

pub reading_said : (xs : List ℕ) → Bytes xs → ReadingSaid xs
reading_said xs bs = record { reads = reads xs bs; only = λ ps. only_reading bs; kept = bytes_kept xs }
