-- A frame written step by step: the header, the data, the checksum, and its place in the tray.
use Rattle.std.proofs.Common.{◌≡◌, ℕ, ◌+◌, ◌-◌, ◌%◌, ◌<◌, ◌≤◌, ltb, List, [], ◌∷◌, ◌++◌, length, take, drop, set, sym, refl, ap, ◌∙◌, ⊎_elim, arith, take-add}
use borrow.Rule.Slice.PartMut.{put_mid}
use Rattle.std.proofs.lemmas.List.{length-set, length-take-le, length-drop, take_all, take_more_set}
use Rattle.std.proofs.lemmas.Slice.{take-put_mid, between-put_mid, between_is}
use Rattle.std.proofs.lemmas.Bool.{lt-ltb, le-ltb, cond-true, cond-false, cases_lt}
use Rattle.xbus.specs.Numbers.{be}
use Rattle.xbus.specs.Front.{total}
use Rattle.xbus.specs.Frames.{length_bytes, header_of, checksum, enclosed, encoded}
use Rattle.xbus.specs.Writing.{frame_size, content_start}
use Rattle.xbus.proofs.Headers.{length_short, length_is_long, length_enclosed}

-- ---- the header

-- the first four elements replaced
abbrev pub four : List ℕ → ℕ → ℕ → ℕ → ℕ → List ℕ
four xs a b c d = set (set (set (set xs 0 a) 1 b) 2 c) 3 d

four_is : (xs : List ℕ) (a b c d : ℕ) → 4 ≤ length xs → four xs a b c d ≡ a ∷ b ∷ c ∷ d ∷ drop 4 xs
four_is [] a b c d h = absurd (omega arith)
four_is (x ∷ []) a b c d h = absurd (omega arith)
four_is (x ∷ y ∷ []) a b c d h = absurd (omega arith)
four_is (x ∷ y ∷ z ∷ []) a b c d h = absurd (omega arith)
four_is (x ∷ y ∷ z ∷ w ∷ xs) a b c d h = refl

pub header_short : (xs : List ℕ) (a i n : ℕ) → 4 ≤ length xs → n < 255 → take (content_start n) (four xs 0xFA a i n) ≡ 0xFA ∷ header_of a i n
header_short xs a i n h l =
    ap (λ k. take k (four xs 0xFA a i n)) (cond-true (ltb n 255) 4 6 (lt-ltb n 255 l))
    ∙ ap (take 4) (four_is xs 0xFA a i n h) ∙ ap (λ z. 0xFA ∷ a ∷ i ∷ z) (sym (length_short n l))

pub header_long : (xs mid : List ℕ) (a i n : ℕ) → 6 ≤ length xs → 255 ≤ n → mid ≡ be (length (take 2 (drop 4 (four xs 0xFA a i 0xFF)))) n → take (content_start n) (put_mid 4 2 (four xs 0xFA a i 0xFF) mid) ≡ 0xFA ∷ header_of a i n
header_long xs mid a i n h l e =
    let ys : List ℕ = four xs 0xFA a i 0xFF in
    let is : ys ≡ 0xFA ∷ a ∷ i ∷ 0xFF ∷ drop 4 xs = four_is xs 0xFA a i 0xFF (omega arith) in
    let two : length (take 2 (drop 4 ys)) ≡ 2 =
    ap (λ l. length (take 2 (drop 4 l))) is ∙ length-take-le 2 (drop 4 xs) (omega (arith, length-drop 4 xs)) in
    let m : mid ≡ be 2 n = e ∙ ap (λ k. be k n) two in
    let s : length_bytes n ≡ 0xFF ∷ be 2 n = cond-false (ltb n 255) _ _ (le-ltb n 255 l) in
    ap (λ k. take k (put_mid 4 2 ys mid)) (cond-false (ltb n 255) 4 6 (le-ltb n 255 l))
    ∙ take-put_mid 4 2 ys mid 6 (omega (arith, ap length m)) (omega (arith, ap length is))
    ∙ ap (λ l. take 4 l ++ mid) is ∙ ap (λ z. 0xFA ∷ a ∷ i ∷ 0xFF ∷ z) m ∙ ap (λ z. 0xFA ∷ a ∷ i ∷ z) (sym s)

-- ---- the checksum behind header and data

-- a header of `start` bytes stands in front of the data in `out`
module _ (xs out hd : List ℕ) (start len : ℕ)
    (header : take start out ≡ 0xFA ∷ hd) (rest : drop start out ≡ drop start xs)
    (room : start + len + 1 ≡ length out)
  where
    abbrev content : List ℕ
    content = take len (drop start xs)

    front : take (start + len) out ≡ 0xFA ∷ (hd ++ content)
    front = take-add start len out ∙ (λ i. header i ++ take len (rest i))

    pub sealed : (s : ℕ) → s ≡ total (take (start + len - 1) (drop 1 out)) % 256 → set out (start + len) ((0 + (256 - s)) % 256) ≡ enclosed (hd ++ content)
    sealed s e =
        let end : ℕ = start + len in
        let x : ℕ = (0 + (256 - s)) % 256 in
        let part : take (end - 1) (drop 1 out) ≡ hd ++ content = between_is out 1 end ∙ ap (drop 1) front in
        let t : s ≡ total (hd ++ content) % 256 = e ∙ ap (λ l. total l % 256) part in
        let c : x ≡ checksum (hd ++ content) = omega (arith, t) in
        let l : length (set out end x) ≡ length out = length-set out end x in
        sym (take_all (end + 1) (set out end x) (omega (arith, l)))
        ∙ take_more_set out end x (omega arith)
        ∙ (λ i. front i ++ (c i ∷ []))

-- a frame is a header, the data and a checksum
pub frame_room : (n : ℕ) → content_start n + n + 1 ≡ frame_size n
frame_room n =
    ⊎_elim
    (λ l. let t = lt-ltb n 255 l in omega (arith, cond-true {A = ℕ} (ltb n 255) 4 6 t, cond-true {A = ℕ} (ltb n 255) (n + 5) (n + 7) t))
    (λ l. let t = le-ltb n 255 l in omega (arith, cond-false {A = ℕ} (ltb n 255) 4 6 t, cond-false {A = ℕ} (ltb n 255) (n + 5) (n + 7) t))
    (cases_lt n 255)

-- the data of a frame have their length
pub content_long : (xs : List ℕ) (len : ℕ) → length xs ≡ frame_size len → length (take len (drop (content_start len) xs)) ≡ len
content_long xs len e =
    length-take-le len (drop (content_start len) xs) (omega (arith, length-drop (content_start len) xs, frame_room len))

-- the header was written for exactly these data
pub sealed_frame : (xs out : List ℕ) (a i start len s : ℕ) → take (content_start len) out ≡ 0xFA ∷ header_of a i len → drop (content_start len) out ≡ drop (content_start len) xs → start ≡ content_start len → length xs ≡ frame_size len → length out ≡ length xs → s ≡ total (take (start + len - 1) (drop 1 out)) % 256 → set out (start + len) ((0 + (256 - s)) % 256) ≡ encoded a i (take len (drop (content_start len) xs))
sealed_frame xs out a i start len s header rest is e l t =
    sealed xs out (header_of a i len) start len (ap (λ k. take k out) is ∙ header)
    (ap (λ k. drop k out) is ∙ rest ∙ ap (λ k. drop k xs) (sym is)) (omega (arith, frame_room len)) s t
    ∙ ap (λ k. enclosed (header_of a i len ++ take len (drop k xs))) is
    ∙ ap (λ k. enclosed (header_of a i k ++ take len (drop (content_start len) xs))) (sym (content_long xs len e))

-- data that are copied to their place stand there
pub copied : (xs mid content : List ℕ) (a i start len : ℕ) → len ≡ length content → start ≤ length xs → mid ≡ content → start ≡ content_start len → encoded a i (take len (drop (content_start len) (put_mid start (start + len - start) xs mid))) ≡ encoded a i content
copied xs mid content a i start len l h e s =
    let n : start + len - start ≡ len = omega arith in
    let ys : List ℕ = put_mid start (start + len - start) xs mid in
    ap (encoded a i)
    (ap (λ k. take len (drop k ys)) (sym s) ∙ ap (λ k. take k (drop start ys)) (sym n)
    ∙ between-put_mid start (start + len - start) xs mid (start + len) h (ap length e ∙ sym l ∙ sym n) ∙ e)

-- ---- the place in the tray

pub encoded_size : (a i : ℕ) (d : List ℕ) → length d ≤ 2048 → length (encoded a i d) ≡ frame_size (length d)
encoded_size a i d h =
    let n : ℕ = length d in
    let e = length_enclosed (header_of a i n) d in
    ⊎_elim
    (λ l.
    let s = ap (λ z. length (a ∷ i ∷ z)) (length_short n l) in
    let f = cond-true (ltb n 255) (n + 5) (n + 7) (lt-ltb n 255 l) in
    omega arith)
    (λ l.
    let s = ap (λ z. length (a ∷ i ∷ z)) (length_is_long n l h) in
    let f = cond-false (ltb n 255) (n + 5) (n + 7) (le-ltb n 255 l) in
    omega arith)
    (cases_lt n 255)
