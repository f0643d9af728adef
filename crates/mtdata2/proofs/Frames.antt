-- The frame of a message: what is read of a frame, and what it is that is read, or why it is refused.
use Rattle.std.proofs.Common.{◌≡◌, ℕ, ◌+◌, ◌*◌, ◌/◌, ◌%◌, ◌<◌, ◌≤◌, true, false, ◌&&◌, eqb, leb, ◌⊎◌, List, [], ◌∷◌, ◌++◌, length, get_or, take, drop, Ok, Err, Result, sym, refl, ap, ◌∙◌, subst, inl, inr, ⊎_elim, arith}
use Rattle.std.proofs.lemmas.List.{append_assoc, length-append, length-take-le, take_all, take_at, take_more, drop_at}
use Rattle.std.proofs.lemmas.Bool.{leb-true, leb-false, eqb-true, eqb-false, eq-eqb, le-leb, lt-leb, cond-true, cond-false, cases_lt, cases_Bool, and_parts, and_cases, and_from}
use Rattle.xbus.specs.Numbers.{Bytes}
use Rattle.xbus.specs.Front.{total}
use Rattle.xbus.specs.Frames.{header_of, checksum, enclosed, encoded}
use Rattle.xbus.proofs.Bytes.{bytes_at, bytes_take}
use Rattle.xbus.proofs.Headers.{length_short, length_long, length_is_long, length_enclosed, checksum_sums, checksum_is}
use Rattle.mtdata2.specs.Faults.{Report, frame_fault}
use Rattle.mtdata2.specs.Reading.{Parts, body_of, extended_of, started_of, frame_of}
use Rattle.mtdata2.specs.Words.{data_start, Announces, Tells, empty, other_start, header_cut, length_ruled_out, other_length, wrong_checksum}

-- xs is the frame of these parts, whose data start there
pub record Framed (xs : List ℕ) (p : Parts) : Type 0 where
  pub is : xs ≡ encoded p.address p.identifier p.content
  pub bytes : Bytes p.content
  pub short : length p.content ≤ 2048
  pub starts : p.start ≡ data_start p.address p.identifier (length p.content)

abbrev pub Told : List ℕ → Result Parts Report → Type 0
Told xs (Ok p) = Framed xs p
Told xs (Err f) = Tells xs f

-- ---- behind a complete header

-- n data bytes and one more, which sum to 0 with the header
sealed : (a i n : ℕ) (t : List ℕ) → Bytes t → length t ≡ n + 1 → total (header_of a i n ++ t) % 256 ≡ 0 → 0xFA ∷ (header_of a i n ++ t) ≡ encoded a i (take n t)
sealed a i n t bs l z =
    let hd : List ℕ = header_of a i n in
    let d : List ℕ = take n t in
    let s : ℕ = get_or t n 0 in
    let ld : length d ≡ n = length-take-le n t (omega arith) in
    let split : t ≡ d ++ (s ∷ []) = sym (take_all (n + 1) t (omega arith)) ∙ take_more t n 0 (omega arith) in
    let e : hd ++ t ≡ (hd ++ d) ++ (s ∷ []) = ap (λ r. hd ++ r) split ∙ sym (append_assoc hd d (s ∷ [])) in
    let k : s ≡ checksum (hd ++ d) = checksum_is (hd ++ d) s (bytes_at t n bs) (ap (λ r. total r % 256) (sym e) ∙ z) in
    ap (λ r. 0xFA ∷ r) e ∙ ap (λ r. 0xFA ∷ ((hd ++ d) ++ (r ∷ []))) k ∙ ap (λ j. enclosed (header_of a i j ++ d)) (sym ld)

module _ (a i start n : ℕ) (t xs : List ℕ) (is : xs ≡ 0xFA ∷ (header_of a i n ++ t)) (starts : start ≡ data_start a i n) (short : n ≤ 2048) (bs : Bytes t) where
  announces : Announces xs start n
  announces = record { address = a; identifier = i; behind = t; short = short; is = is; starts = starts }

  content_is : take n (drop start xs) ≡ take n t
  content_is = ap (λ l. take n (drop start l)) is ∙ ap (take n) (drop_at (0xFA ∷ header_of a i n) t start (sym starts))

  body_framed : length xs ≡ start + n + 1 → total (drop 1 xs) % 256 ≡ 0 → Framed xs (record { address = a; identifier = i; start = start; content = take n (drop start xs) })
  body_framed l z =
      let lt : length t ≡ n + 1 = omega (arith, ap length is, length-append (header_of a i n) t) in
      let c = content_is in
      let ln : length (take n t) ≡ n = length-take-le n t (omega arith) in
      let same : length (take n (drop start xs)) ≡ n = ap length c ∙ ln in
      record {
        is = is ∙ sealed a i n t bs lt (ap (λ r. total (drop 1 r) % 256) (sym is) ∙ z) ∙ ap (encoded a i) (sym c);
        bytes = subst Bytes (sym c) (bytes_take n t bs);
        short = omega arith;
        starts = starts ∙ ap (data_start a i) (sym same);
      }

  told_body : Told xs (body_of a i start n xs)
  told_body =
      ⊎_elim
      (λ (l : eqb (length xs) (start + n + 1) ≡ true).
      ⊎_elim
      (λ (z : eqb (total (drop 1 xs) % 256) 0 ≡ true).
      subst (Told xs) (sym (cond-true _ _ _ l ∙ cond-true _ _ _ z)) (body_framed (eqb-true _ _ l) (eqb-true _ _ z)))
      (λ (z : eqb (total (drop 1 xs) % 256) 0 ≡ false).
      subst (Told xs) (sym (cond-true _ _ _ l ∙ cond-false _ _ _ z))
      (wrong_checksum start n announces (eqb-true _ _ l) (eqb-false _ _ z)))
      (cases_Bool (eqb (total (drop 1 xs) % 256) 0)))
      (λ (l : eqb (length xs) (start + n + 1) ≡ false).
      subst (Told xs) (sym (cond-false _ _ _ l)) (other_length start n announces (eqb-false _ _ l)))
      (cases_Bool (eqb (length xs) (start + n + 1)))

-- ---- by the header

ruled_out : (v : ℕ) → (leb 255 v && leb v 2048) ≡ false → (v < 255) ⊎ (2048 < v)
ruled_out v e = ⊎_elim (λ l. inl (leb-false 255 v l)) (λ l. inr (leb-false v 2048 l)) (and_cases (leb 255 v) (leb v 2048) e)

told_extended : (a i : ℕ) (t : List ℕ) → Bytes t → Told (0xFA ∷ a ∷ i ∷ 0xFF ∷ t) (extended_of a i t (0xFA ∷ a ∷ i ∷ 0xFF ∷ t))
told_extended a i [] bs = header_cut (omega arith, refl, inr (refl, omega arith))
told_extended a i (h ∷ []) bs = header_cut (omega arith, refl, inr (refl, omega arith))
told_extended a i (h ∷ l ∷ t) bs =
    let v : ℕ = h * 256 + l in
    let xs : List ℕ = 0xFA ∷ a ∷ i ∷ 0xFF ∷ h ∷ l ∷ t in
    ⊎_elim
    (λ (e : (leb 255 v && leb v 2048) ≡ true).
    let q = and_parts (leb 255 v) (leb v 2048) e in
    let s = length_long h l bs.0 bs.1.0 (leb-true 255 v q.0) in
    subst (Told xs) (sym (cond-true _ (body_of a i 6 v xs) (frame_fault 16 4) e))
    (told_body a i 6 v t xs (ap (λ z. 0xFA ∷ a ∷ i ∷ (z ++ t)) (sym s)) (ap (λ z. length (0xFA ∷ a ∷ i ∷ z)) (sym s)) (leb-true v 2048 q.1) bs.1.1))
    (λ (e : (leb 255 v && leb v 2048) ≡ false).
    subst (Told xs) (sym (cond-false _ (body_of a i 6 v xs) (frame_fault 16 4) e)) (length_ruled_out a i h l t refl (ruled_out v e)))
    (cases_Bool (leb 255 v && leb v 2048))

told_started : (rest : List ℕ) → Bytes rest → Told (0xFA ∷ rest) (started_of rest (0xFA ∷ rest))
told_started [] bs = header_cut (omega arith, refl, inl (omega arith))
told_started (a ∷ []) bs = header_cut (omega arith, refl, inl (omega arith))
told_started (a ∷ i ∷ []) bs = header_cut (omega arith, refl, inl (omega arith))
told_started (a ∷ i ∷ n ∷ t) bs =
    let xs : List ℕ = 0xFA ∷ a ∷ i ∷ n ∷ t in
    ⊎_elim
    (λ h.
    let s = length_short n h in
    subst (Told xs) (sym (cond-false (leb 255 n) (extended_of a i t xs) (body_of a i 4 n xs) (lt-leb 255 n h)))
    (told_body a i 4 n t xs (ap (λ z. 0xFA ∷ a ∷ i ∷ (z ++ t)) (sym s)) (ap (λ z. length (0xFA ∷ a ∷ i ∷ z)) (sym s)) (omega arith) bs.1.1.1))
    (λ h.
    let e : n ≡ 0xFF = omega (arith, bs.1.1.0) in
    let P : ℕ → Type 0 = λ m. Told (0xFA ∷ a ∷ i ∷ m ∷ t) (started_of (a ∷ i ∷ m ∷ t) (0xFA ∷ a ∷ i ∷ m ∷ t)) in
    subst P (sym e) (told_extended a i t bs.1.1.1))
    (cases_lt n 255)

pub told_frame : (xs : List ℕ) → Bytes xs → Told xs (frame_of xs)
told_frame [] bs = empty refl
told_frame (x ∷ rest) bs =
    ⊎_elim
    (λ (e : eqb x 0xFA ≡ true).
    let P : ℕ → Type 0 = λ y. Told (y ∷ rest) (started_of rest (y ∷ rest)) in
    subst (Told (x ∷ rest)) (sym (cond-true (eqb x 0xFA) (started_of rest (x ∷ rest)) (frame_fault 14 0) e))
    (subst P (sym (eqb-true x 0xFA e)) (told_started rest bs.1)))
    (λ (e : eqb x 0xFA ≡ false).
    subst (Told (x ∷ rest)) (sym (cond-false (eqb x 0xFA) (started_of rest (x ∷ rest)) (frame_fault 14 0) e))
    (other_start (omega arith) (eqb-false x 0xFA e)))
    (cases_Bool (eqb x 0xFA))

-- ---- a frame is read as its parts

abbrev pub parts_from : ℕ → ℕ → List ℕ → Parts
parts_from a i d = record { address = a; identifier = i; start = data_start a i (length d); content = d }

-- what is read behind any header
body_back : (hd d : List ℕ) (a i start : ℕ) → length (0xFA ∷ hd) ≡ start → body_of a i start (length d) (enclosed (hd ++ d)) ≡ Ok (record { address = a; identifier = i; start = start; content = d })
body_back hd d a i start starts =
    let xs : List ℕ = enclosed (hd ++ d) in
    let c : List ℕ = checksum (hd ++ d) ∷ [] in
    let l : length xs ≡ start + length d + 1 = omega (arith, length_enclosed hd d) in
    let b : drop start xs ≡ d ++ c = ap (λ z. drop start (0xFA ∷ z)) (append_assoc hd d c) ∙ drop_at (0xFA ∷ hd) (d ++ c) start starts in
    let same : take (length d) (drop start xs) ≡ d = ap (take (length d)) b ∙ take_at d c (length d) refl in
    cond-true (eqb (length xs) (start + length d + 1)) _ _ (eq-eqb _ _ l)
    ∙ cond-true (eqb (total (drop 1 xs) % 256) 0) _ _ (eq-eqb _ 0 (checksum_sums (hd ++ d)))
    ∙ ap (λ z. Ok (record { address = a; identifier = i; start = start; content = z })) same

-- a header that announces n data bytes, which the frame has room for
pub announced : (a i n : ℕ) (t : List ℕ) → n ≤ 2048 → frame_of (0xFA ∷ (header_of a i n ++ t)) ≡ body_of a i (data_start a i n) n (0xFA ∷ (header_of a i n ++ t))
announced a i n t h =
    let P : List ℕ → Type 0 = λ z. frame_of (0xFA ∷ a ∷ i ∷ (z ++ t)) ≡ body_of a i (length (0xFA ∷ a ∷ i ∷ z)) n (0xFA ∷ a ∷ i ∷ (z ++ t)) in
    ⊎_elim
    (λ l. subst P (sym (length_short n l)) (cond-false (leb 255 n) _ _ (lt-leb 255 n l)))
    (λ l.
    let v : ℕ = n / 256 * 256 + n % 256 in
    let same : v ≡ n = omega arith in
    let xs : List ℕ = 0xFA ∷ a ∷ i ∷ 0xFF ∷ n / 256 ∷ n % 256 ∷ t in
    let fit = and_from (leb 255 v) (leb v 2048) (le-leb 255 v (omega arith)) (le-leb v 2048 (omega arith)) in
    subst P (sym (length_is_long n l h)) (cond-true (leb 255 v && leb v 2048) _ _ fit ∙ ap (λ k. body_of a i 6 k xs) same))
    (cases_lt n 255)

pub frame_back : (a i : ℕ) (d : List ℕ) → length d ≤ 2048 → frame_of (encoded a i d) ≡ Ok (parts_from a i d)
frame_back a i d h =
    let n : ℕ = length d in
    let hd : List ℕ = header_of a i n in
    let c : List ℕ = checksum (hd ++ d) ∷ [] in
    let e : encoded a i d ≡ 0xFA ∷ (hd ++ (d ++ c)) = ap (λ z. 0xFA ∷ z) (append_assoc hd d c) in
    ap frame_of e ∙ announced a i n (d ++ c) h ∙ ap (body_of a i (data_start a i n) n) (sym e)
    ∙ body_back hd d a i (data_start a i n) refl
