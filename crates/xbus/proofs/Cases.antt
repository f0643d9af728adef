-- The three cases at the front of a list of bytes, in the words of the protocol.
use Rattle.std.proofs.Common.{◌≡◌, ℕ, suc, ◌+◌, ◌-◌, ◌*◌, ◌%◌, ◌<◌, ◌≤◌, true, false, ◌&&◌, eqb, leb, List, [], ◌∷◌, ◌++◌, length, get_or, take, drop, replicate, sym, refl, ap, ◌∙◌, subst, inl, inr, ⊎_elim, arith}
use lib.Seq.{take-append-add}
use Rattle.std.proofs.lemmas.List.{append-nil, append_assoc, length-append, length-take-le, length-replicate, take_at, take_more, take-append-drop}
use Rattle.std.proofs.lemmas.Bool.{leb-true, ne_eqb, cond-true, cond-false, cases_lt, cases_Bool, and_parts, cases_eq}
use Rattle.xbus.specs.declared.front.Front.{Front}
use Rattle.xbus.specs.declared.front.Front.TheVariants.{Whole, Waits, Wrong}
use Rattle.xbus.specs.Numbers.{Bytes}
use Rattle.xbus.specs.Front.{total, announced, started, front_of}
use Rattle.xbus.specs.Frames.{header_of, checksum, enclosed, encoded, Begins, Starts, Neither, FrontSaid}
use Rattle.xbus.proofs.Bytes.{bytes_at, bytes_take, bytes_append, bytes_zeros}
use Rattle.xbus.proofs.Fronts.{waits_not_wrong, whole_not_wrong, whole_not_waits, announced_whole, announced_short, Complete, announced_complete, front_stays, front_bounded}
use Rattle.xbus.proofs.Headers.{length_short, length_long, length_enclosed, checksum_sums, checksum_is, announces}

-- ---- a frame at the front

regroup : (h d c r : List ℕ) → ((h ++ d) ++ c) ++ r ≡ h ++ ((d ++ c) ++ r)
regroup h d c r = simp append_assoc

-- a frame at the front is whole, whatever stands behind it
pub encoded_whole : (a i : ℕ) (d rest : List ℕ) → length d ≤ 2048 → front_of (encoded a i d ++ rest) ≡ Whole (length (encoded a i d))
encoded_whole a i d rest h =
    let hd : List ℕ = header_of a i (length d) in
    let w : List ℕ = hd ++ d in
    let c : List ℕ = checksum w ∷ [] in
    let n : ℕ = length hd + length d + 2 in
    let e : encoded a i d ++ rest ≡ 0xFA ∷ (hd ++ ((d ++ c) ++ rest)) = ap (λ l. 0xFA ∷ l) (regroup hd d c rest) in
    let lw : length (w ++ c) ≡ n - 1 = omega (arith, length-append w c, length-append hd d) in
    let fits : n ≤ length (encoded a i d ++ rest) = omega (arith, length-append (w ++ c) rest) in
    let sums : total (take (n - 1) ((w ++ c) ++ rest)) % 256 ≡ 0 =
    ap (λ l. total l % 256) (take_at (w ++ c) rest (n - 1) lw) ∙ checksum_sums w in
    ap front_of e ∙ announces a i (length d) ((d ++ c) ++ rest) h ∙ ap (announced n) (sym e)
    ∙ announced_whole n (encoded a i d ++ rest) fits sums
    ∙ ap Whole (sym (length_enclosed hd d))

-- ---- what a front that is not wrong begins with

-- with ys it has its header; or it is a header and more
data Shape (xs : List ℕ) : Type 0 where
  cut : (a i n : ℕ) (ys : List ℕ) → a < 256 → i < 256 → n ≤ 2048 → xs ++ ys ≡ 0xFA ∷ header_of a i n → front_of xs ≡ Waits → Shape xs
  headed : (a i n : ℕ) (t : List ℕ) → a < 256 → i < 256 → n ≤ 2048 → Bytes t → xs ≡ 0xFA ∷ (header_of a i n ++ t) → Shape xs

shape_extended : (a i : ℕ) (t : List ℕ) → a < 256 → i < 256 → Bytes t → (front_of (0xFA ∷ a ∷ i ∷ 0xFF ∷ t) ≡ Wrong → ⊥) → Shape (0xFA ∷ a ∷ i ∷ 0xFF ∷ t)
shape_extended a i [] ha hi bs n = cut a i 255 (0 ∷ 255 ∷ []) ha hi (omega arith) refl refl
shape_extended a i (h ∷ []) ha hi bs n =
    ⊎_elim
    (λ (e : leb h 8 ≡ true).
    let w = cond-true (leb h 8) Waits Wrong e in
    let le = leb-true h 8 e in
    ⊎_elim
    (λ z. cut a i 255 (255 ∷ []) ha hi (omega arith) (ap (λ x. 0xFA ∷ a ∷ i ∷ 0xFF ∷ x ∷ 255 ∷ []) z) w)
    (λ p.
    let q : 255 ≤ h * 256 + 0 = omega (arith, p) in
    cut a i (h * 256 + 0) (0 ∷ []) ha hi (omega arith)
    (ap (λ s. 0xFA ∷ a ∷ i ∷ s) (sym (length_long h 0 (omega arith) (omega arith) q))) w)
    (cases_eq h 0))
    (λ (e : leb h 8 ≡ false). absurd (n (cond-false (leb h 8) Waits Wrong e)))
    (cases_Bool (leb h 8))
shape_extended a i (h ∷ l ∷ t) ha hi bs n =
    let v : ℕ = h * 256 + l in
    let all : List ℕ = 0xFA ∷ a ∷ i ∷ 0xFF ∷ h ∷ l ∷ t in
    ⊎_elim
    (λ y.
    let q = and_parts (leb 255 v) (leb v 2048) y in
    let le = leb-true 255 v q.0 in
    headed a i v t ha hi (leb-true v 2048 q.1) bs.1.1
    (ap (λ s. 0xFA ∷ a ∷ i ∷ (s ++ t)) (sym (length_long h l bs.0 bs.1.0 le))))
    (λ y. absurd (n (cond-false (leb 255 v && leb v 2048) (announced (7 + v) all) Wrong y)))
    (cases_Bool (leb 255 v && leb v 2048))

shape_started : (rest : List ℕ) → Bytes rest → (front_of (0xFA ∷ rest) ≡ Wrong → ⊥) → Shape (0xFA ∷ rest)
shape_started [] bs n = cut 0 0 0 (0 ∷ 0 ∷ 0 ∷ []) (omega arith) (omega arith) (omega arith) refl refl
shape_started (a ∷ []) bs n = cut a 0 0 (0 ∷ 0 ∷ []) bs.0 (omega arith) (omega arith) refl refl
shape_started (a ∷ i ∷ []) bs n = cut a i 0 (0 ∷ []) bs.0 bs.1.0 (omega arith) refl refl
shape_started (a ∷ i ∷ l ∷ t) bs n =
    ⊎_elim
    (λ h. headed a i l t bs.0 bs.1.0 (omega arith) bs.1.1.1 (ap (λ s. 0xFA ∷ a ∷ i ∷ (s ++ t)) (sym (length_short l h))))
    (λ h.
    let e : l ≡ 0xFF = omega (arith, bs.1.1.0) in
    let P : ℕ → Type 0 = λ x. (front_of (0xFA ∷ a ∷ i ∷ x ∷ t) ≡ Wrong → ⊥) → Shape (0xFA ∷ a ∷ i ∷ x ∷ t) in
    subst P (sym e) (shape_extended a i t bs.0 bs.1.0 bs.1.1.1) n)
    (cases_lt l 255)

shape : (xs : List ℕ) → Bytes xs → (front_of xs ≡ Wrong → ⊥) → Shape xs
shape [] bs n = cut 0 0 0 (0xFA ∷ 0 ∷ 0 ∷ 0 ∷ []) (omega arith) (omega arith) (omega arith) refl refl
shape (x ∷ rest) bs n =
    ⊎_elim
    (λ e.
    let P : ℕ → Type 0 = λ y. (front_of (y ∷ rest) ≡ Wrong → ⊥) → Shape (y ∷ rest) in
    subst P (sym e) (shape_started rest bs.1) n)
    (λ e. absurd (n (cond-false (eqb x 0xFA) (started rest (x ∷ rest)) Wrong (ne_eqb x 0xFA e))))
    (cases_eq x 0xFA)

-- ---- a whole front is a frame

complete_begins : (a i n k : ℕ) (t : List ℕ) → a < 256 → i < 256 → n ≤ 2048 → Bytes t → Complete (length (header_of a i n) + n + 2) k (0xFA ∷ (header_of a i n ++ t)) → Begins (0xFA ∷ (header_of a i n ++ t)) k
complete_begins a i n k t ha hi hn bs f =
    let hd : List ℕ = header_of a i n in
    let d : List ℕ = take n t in
    let s : ℕ = get_or t n 0 in
    let all : List ℕ = 0xFA ∷ (hd ++ t) in
    let lt : n < length t = omega (arith, f.within, length-append hd t) in
    let ld : length d ≡ n = length-take-le n t (omega arith) in
    let at : take (length hd + (n + 1)) (hd ++ t) ≡ (hd ++ d) ++ (s ∷ []) =
    take-append-add hd t (n + 1) ∙ ap (λ l. hd ++ l) (take_more t n 0 lt) ∙ sym (append_assoc hd d (s ∷ [])) in
    let e : length hd + n + 2 - 1 ≡ length hd + (n + 1) = omega arith in
    let sums : total ((hd ++ d) ++ (s ∷ [])) % 256 ≡ 0 =
    ap (λ l. total l % 256) (sym at) ∙ ap (λ j. total (take j (hd ++ t)) % 256) (sym e) ∙ f.sums in
    let last : s ≡ checksum (hd ++ d) = checksum_is (hd ++ d) s (bytes_at t n bs) sums in
    let size : k ≡ suc (length hd + (n + 1)) = omega (arith, f.same) in
    let front : take k all ≡ 0xFA ∷ ((hd ++ d) ++ (s ∷ [])) = ap (λ j. take j all) size ∙ ap (λ l. 0xFA ∷ l) at in (
      omega (arith, f.within, f.same),
      record {
        address = a;
        identifier = i;
        content = d;
        address_byte = ha;
        identifier_byte = hi;
        content_bytes = bytes_take n t bs;
        content_short = omega arith;
        is = front ∙ ap (λ x. 0xFA ∷ ((hd ++ d) ++ (x ∷ []))) last ∙ ap (λ j. enclosed (header_of a i j ++ d)) (sym ld);
      },
    )

whole_begins : (xs : List ℕ) → Bytes xs → (k : ℕ) → front_of xs ≡ Whole k → Begins xs k
whole_begins xs bs k e =
    elim (shape xs bs (λ w. whole_not_wrong k (sym e ∙ w))) [
      | cut a i n ys ha hi hn is w ↦ absurd (whole_not_waits k (sym e ∙ w))
      | headed a i n t ha hi hn bt is ↦
          let all : List ℕ = 0xFA ∷ (header_of a i n ++ t) in
          subst (λ l. Begins l k) (sym is)
          (complete_begins a i n k t ha hi hn bt
          (announced_complete (length (header_of a i n) + n + 2) k all (sym (announces a i n t hn) ∙ ap front_of (sym is) ∙ e)))
    ]

pub begins_whole : (xs : List ℕ) (n : ℕ) → Begins xs n → front_of xs ≡ Whole n
begins_whole xs n p =
    let f = p.1 in
    let z : List ℕ = encoded f.address f.identifier f.content in
    let l : length z ≡ n = sym (ap length f.is) ∙ length-take-le n xs p.0 in
    ap front_of (sym (take-append-drop n xs) ∙ ap (λ w. w ++ drop n xs) f.is)
    ∙ encoded_whole f.address f.identifier f.content (drop n xs) f.content_short ∙ ap Whole l

-- ---- a front that waits is a proper start

-- zeros and a checksum complete a frame
completed : (a i n : ℕ) (t xs ys : List ℕ) → a < 256 → i < 256 → n ≤ 2048 → Bytes t → length t ≤ n → xs ++ ys ≡ 0xFA ∷ (header_of a i n ++ t) → Starts xs
completed a i n t xs ys ha hi hn bs le e =
    let hd : List ℕ = header_of a i n in
    let z : List ℕ = replicate (n - length t) 0 in
    let d : List ℕ = t ++ z in
    let c : List ℕ = checksum (hd ++ d) ∷ [] in
    let ld : length d ≡ n = omega (arith, length-append t z, length-replicate {A = ℕ} (n - length t) 0) in
    let far : (hd ++ t) ++ (z ++ c) ≡ (hd ++ d) ++ c = simp append_assoc in
    inr (
      ys ++ (z ++ c),
      omega (arith, length-append ys (z ++ c), length-append z c),
      record {
        address = a;
        identifier = i;
        content = d;
        address_byte = ha;
        identifier_byte = hi;
        content_bytes = bytes_append t z bs (bytes_zeros (n - length t));
        content_short = omega arith;
        is = sym (append_assoc xs ys (z ++ c)) ∙ ap (λ l. l ++ (z ++ c)) e ∙ ap (λ l. 0xFA ∷ l) far ∙ ap (λ j. enclosed (header_of a i j ++ d)) (sym ld);
      },
    )

waits_starts : (xs : List ℕ) → Bytes xs → front_of xs ≡ Waits → Starts xs
waits_starts xs bs e =
    elim (shape xs bs (λ w. waits_not_wrong (sym e ∙ w))) [
      | cut a i n ys ha hi hn is w ↦
          completed a i n [] xs ys ha hi hn tt (omega arith) (is ∙ ap (λ l. 0xFA ∷ l) (sym (append-nil (header_of a i n))))
      | headed a i n t ha hi hn bt is ↦
          let all : List ℕ = 0xFA ∷ (header_of a i n ++ t) in
          let less = announced_short (length (header_of a i n) + n + 2) all (sym (announces a i n t hn) ∙ ap front_of (sym is) ∙ e) in
          completed a i n t xs [] ha hi hn bt (omega (arith, length-append (header_of a i n) t)) (append-nil xs ∙ is)
    ]

-- a whole frame that needs bytes behind xs does not stand in xs alone, and xs is not wrong
unfinished : (xs ys : List ℕ) (n : ℕ) (w : Front) → 0 < length ys → n ≡ length (xs ++ ys) → front_of (xs ++ ys) ≡ Whole n → front_of xs ≡ w → w ≡ Waits
unfinished xs ys n (Whole k) some l e f =
    let stays = front_stays xs ys (λ z. whole_not_waits k (sym f ∙ z)) in
    let k_is_n : k ≡ n = let p = sym f ∙ sym stays ∙ e in cc in
    let le = ((front_bounded xs).whole k f).2 in
    absurd (omega (arith, length-append xs ys))
unfinished xs ys n Waits some l e f = refl
unfinished xs ys n Wrong some l e f =
    let stays = front_stays xs ys (λ z. waits_not_wrong (sym z ∙ f)) in
    absurd (whole_not_wrong n (sym e ∙ stays ∙ f))

pub starts_waits : (xs : List ℕ) → Starts xs → front_of xs ≡ Waits
starts_waits xs (inl e) = ap front_of e
starts_waits xs (inr s) =
    let ys = s.0 in
    let f = s.2 in
    let z : List ℕ = encoded f.address f.identifier f.content in
    let whole : front_of (xs ++ ys) ≡ Whole (length z) =
    ap front_of (f.is ∙ sym (append-nil z)) ∙ encoded_whole f.address f.identifier f.content [] f.content_short in
    unfinished xs ys (length z) (front_of xs) s.1 (ap length (sym f.is)) whole refl

-- ---- all of it

neither_wrong : (xs : List ℕ) → Bytes xs → (w : Front) → front_of xs ≡ w → Neither xs → w ≡ Wrong
neither_wrong xs bs (Whole n) e not = absurd (not (inl (n, whole_begins xs bs n e)))
neither_wrong xs bs Waits e not = absurd (not (inr (waits_starts xs bs e)))
neither_wrong xs bs Wrong e not = refl

pub front_said : (xs : List ℕ) → Bytes xs → FrontSaid xs
front_said xs bs = record {
  whole = whole_begins xs bs;
  is_whole = begins_whole xs;
  waits = waits_starts xs bs;
  is_waits = starts_waits xs;
  wrong = λ e. ⊎_elim (λ p. whole_not_wrong p.0 (sym (begins_whole xs p.0 p.1) ∙ e)) (λ s. waits_not_wrong (sym (starts_waits xs s) ∙ e));
  is_wrong = neither_wrong xs bs (front_of xs) refl;
}
