-- A frame with one packet more, in place.
use Rattle.std.proofs.Common.{◌≡◌, ℕ, ◌+◌, ◌-◌, ◌/◌, ◌%◌, ◌≤◌, ◌&&◌, ltb, leb, List, [], ◌∷◌, ◌++◌, length, take, drop, set, Some, Option, sym, ap, ◌∙◌, div-one, ⊎_elim, arith}
use lib.Seq.{paste}
use borrow.Rule.Slice.PartMut.{put_mid}
use Rattle.std.proofs.lemmas.List.{append_assoc, length-append, length-take-le, length-drop, take_at, drop_at, drop_all, drop-drop, take-append-drop, append-nil}
use Rattle.std.proofs.lemmas.Bool.{lt-ltb, le-ltb, le-leb, lt-leb, cond-true, cond-false, cases_lt, and_from, and_right}
use Rattle.xbus.specs.Numbers.{be}
use Rattle.xbus.specs.Frames.{encoded}
use Rattle.xbus.specs.Writing.{frame_size, content_start, content_size, sealed_by}
use Rattle.xbus.proofs.Writes.{frame_room}

-- ---- sizes

pub start_grows : (n m : ℕ) → n ≤ m → content_start n ≤ content_start m
start_grows n m h =
    ⊎_elim
    (λ l.
    let t = cond-true {A = ℕ} (ltb n 255) 4 6 (lt-ltb n 255 l) in
    ⊎_elim
    (λ k. omega (arith, cond-true {A = ℕ} (ltb m 255) 4 6 (lt-ltb m 255 k)))
    (λ k. omega (arith, cond-false {A = ℕ} (ltb m 255) 4 6 (le-ltb m 255 k)))
    (cases_lt m 255))
    (λ l. omega (arith, cond-false {A = ℕ} (ltb n 255) 4 6 (le-ltb n 255 l), cond-false {A = ℕ} (ltb m 255) 4 6 (le-ltb m 255 (omega arith))))
    (cases_lt n 255)

pub size_grows : (n m : ℕ) → n ≤ m → frame_size n ≤ frame_size m
size_grows n m h = omega (arith, frame_room n, frame_room m, start_grows n m h)

pub size_back : (n : ℕ) → n ≤ 2048 → content_size (frame_size n) ≡ Some n
size_back n h =
    ⊎_elim
    (λ l.
    let e = cond-true (ltb n 255) (n + 5) (n + 7) (lt-ltb n 255 l) in
    let d : n + 5 - 5 ≡ n = omega arith in
    ap content_size e
    ∙ cond-true (leb 5 (n + 5) && leb (n + 5) 259) _ _ (and_from _ _ (le-leb 5 (n + 5) (omega arith)) (le-leb (n + 5) 259 (omega arith)))
    ∙ ap Some d)
    (λ l.
    let e = cond-false (ltb n 255) (n + 5) (n + 7) (le-ltb n 255 l) in
    let d : n + 7 - 7 ≡ n = omega arith in
    ap content_size e
    ∙ cond-false (leb 5 (n + 7) && leb (n + 7) 259) _ _ (and_right (leb 5 (n + 7)) _ (lt-leb (n + 7) 259 (omega arith)))
    ∙ cond-true (leb 262 (n + 7) && leb (n + 7) 2055) _ _ (and_from _ _ (le-leb 262 (n + 7) (omega arith)) (le-leb (n + 7) 2055 (omega arith)))
    ∙ ap Some d)
    (cases_lt n 255)

-- ---- a packet

-- identifier, size and data, written one after the other
pub packet_laid : (out mid cs content : List ℕ) (id : ℕ) → length out ≡ 3 + length content → mid ≡ id / 256 % 256 ∷ id % 256 ∷ [] → cs ≡ content
    → put_mid 3 (length (set (mid ++ drop 2 out) 2 (length content)) - 3) (set (mid ++ drop 2 out) 2 (length content)) cs ≡ be 2 id ++ (length content ∷ content)
packet_laid [] mid cs content id l e f = absurd (omega arith)
packet_laid (x ∷ []) mid cs content id l e f = absurd (omega arith)
packet_laid (x ∷ y ∷ []) mid cs content id l e f = absurd (omega arith)
packet_laid (x ∷ y ∷ z ∷ rest) mid cs content id l e f =
    let n : ℕ = length content in
    let k : ℕ = length (set (be 2 id ++ (z ∷ rest)) 2 n) - 3 in
    let two : mid ≡ be 2 id = e ∙ ap (λ m. id / 256 % 256 ∷ m % 256 ∷ []) (sym (div-one id)) in
    let none : drop k rest ≡ [] = drop_all k rest (omega arith) in
    ap (λ m. put_mid 3 (length (set (m ++ (z ∷ rest)) 2 n) - 3) (set (m ++ (z ∷ rest)) 2 n) cs) two
    ∙ (λ i. be 2 id ++ (n ∷ (f i ++ none i))) ∙ ap (λ t. be 2 id ++ (n ∷ t)) (append-nil content)

-- bytes that are copied to their own place
pub paste_self : (xs : List ℕ) (at n : ℕ) → xs ≡ paste xs at (drop at xs) n
paste_self xs at n =
    sym
    (append_assoc (take at xs) (take n (drop at xs)) (drop (at + n) xs)
    ∙ ap (λ r. take at xs ++ (take n (drop at xs) ++ r)) (sym (drop-drop n at xs))
    ∙ ap (λ r. take at xs ++ r) (take-append-drop n (drop at xs)) ∙ take-append-drop at xs)

-- ---- the data, moved, and the packet behind them

module _ (xs packet mid : List ℕ) (old new len : ℕ)
    (same : mid ≡ packet) (fits : new + (len + length packet) ≤ length xs) (in-old : old + len ≤ length xs)
  where
    abbrev data_moved : List ℕ
    data_moved = take len (drop old xs)

    abbrev moved : List ℕ
    moved = paste xs new (drop old xs) len

    moved_front : take (new + len) moved ≡ take new xs ++ data_moved
    moved_front =
        let l : length data_moved ≡ len = length-take-le len (drop old xs) (omega (arith, length-drop old xs)) in
        take_at (take new xs ++ data_moved) (drop (new + len) xs) (new + len)
        (length-append (take new xs) data_moved ∙ omega (arith, length-take-le new xs (omega arith)))

    -- what stands from `new` on once the packet is written
    pub extended : (k : ℕ) (n : ℕ) → n ≡ len + length packet → take n (drop new (put_mid (new + len) k moved mid)) ≡ data_moved ++ packet
    extended k n e =
        let l : length data_moved ≡ len = length-take-le len (drop old xs) (omega (arith, length-drop old xs)) in
        let rest : List ℕ = drop k (drop (new + len) moved) in
        let all : put_mid (new + len) k moved mid ≡ take new xs ++ ((data_moved ++ packet) ++ rest) =
        (λ i. moved_front i ++ (same i ++ rest)) ∙ append_assoc (take new xs) data_moved (packet ++ rest)
        ∙ ap (λ z. take new xs ++ z) (sym (append_assoc data_moved packet rest)) in
        ap (λ z. take n (drop new z)) all
        ∙ ap (take n) (drop_at (take new xs) ((data_moved ++ packet) ++ rest) new (length-take-le new xs (omega arith)))
        ∙ take_at (data_moved ++ packet) rest n (length-append data_moved packet ∙ omega arith)

-- a part that is written over leaves the length
over_length : (a n : ℕ) (xs ys : List ℕ) → a + n ≤ length xs → length ys ≡ n → length (put_mid a (a + n - a) xs ys) ≡ length xs
over_length a n xs ys h l =
    let rest : List ℕ = drop (a + n - a) (drop a xs) in
    omega (arith, length-append (take a xs) (ys ++ rest), length-append ys rest, length-take-le a xs (omega arith), length-drop (a + n - a) (drop a xs), length-drop a xs)

-- header and checksum around them; `shifted` is the frame with its data moved
module _ (xs shifted packet mid fin : List ℕ) (old new len n : ℕ) (r : Option ℕ)
    (short : n ≤ 2048) (grows : n ≡ len + length packet) (same : mid ≡ packet) (size : length xs ≡ frame_size n)
    (is-old : old ≡ content_start len) (is-new : new ≡ content_start n)
    (is-shifted : shifted ≡ paste xs new (drop old xs) len) (kept : length shifted ≡ length xs)
  where
    abbrev written : List ℕ
    written = put_mid (new + len) (new + n - (new + len)) shifted mid

    written_length : length written ≡ length xs
    written_length =
        let f = frame_room n in
        let k : new + n ≡ new + len + length packet = omega arith in
        ap (λ m. length (put_mid (new + len) (m - (new + len)) shifted mid)) k
        ∙ over_length (new + len) (length packet) shifted mid (omega arith) (ap length same) ∙ kept

    pub sealed_extended : r ≡ content_size (length written) → fin ≡ sealed_by r 0xFF 0x36 written → fin ≡ encoded 0xFF 0x36 (take len (drop (content_start len) xs) ++ packet)
    sealed_extended is-r is-fin =
        let f = frame_room n in
        let g = start_grows len n (omega arith) in
        let k : ℕ = new + n - (new + len) in
        let some : r ≡ Some n = is-r ∙ ap content_size (written_length ∙ size) ∙ size_back n short in
        is-fin ∙ ap (λ o. sealed_by o 0xFF 0x36 written) some
        ∙ ap (encoded 0xFF 0x36)
        (ap (λ j. take n (drop j written)) (sym is-new)
        ∙ ap (λ m. take n (drop new (put_mid (new + len) k m mid))) is-shifted
        ∙ extended xs packet mid old new len same (omega arith) (omega arith) k n grows
        ∙ ap (λ j. take len (drop j xs) ++ packet) is-old)
