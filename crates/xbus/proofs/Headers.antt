-- The length field, the checksum, and the size that a complete header announces.
use Rattle.std.proofs.Common.{◌≡◌, ℕ, ◌+◌, ◌*◌, ◌/◌, ◌%◌, ◌<◌, ◌≤◌, ◌&&◌, ltb, leb, List, [], ◌∷◌, ◌++◌, length, sym, ap, ◌∙◌, subst, ⊎_elim, arith}
use Rattle.std.proofs.lemmas.List.{length-append}
use Rattle.std.proofs.lemmas.Bool.{le-ltb, lt-ltb, le-leb, lt-leb, cond-true, cond-false, cases_lt, and_from}
use Rattle.xbus.specs.declared.front.Front.TheVariants.{Wrong}
use Rattle.xbus.specs.Front.{total, announced, extended, front_of}
use Rattle.xbus.specs.Frames.{length_bytes, header_of, checksum, enclosed}
use Rattle.xbus.proofs.Totals.{total_append}

-- ---- the length field

pub length_short : (n : ℕ) → n < 255 → length_bytes n ≡ n ∷ []
length_short n h = cond-true (ltb n 255) _ _ (lt-ltb n 255 h)

pub length_long : (h l : ℕ) → h < 256 → l < 256 → 255 ≤ h * 256 + l → length_bytes (h * 256 + l) ≡ 0xFF ∷ h ∷ l ∷ []
length_long h l hb lb le =
    let p : (h * 256 + l) / 256 % 256 ≡ h = omega arith in
    let q : (h * 256 + l) / 1 % 256 ≡ l = omega arith in
    cond-false (ltb (h * 256 + l) 255) _ _ (le-ltb _ 255 le) ∙ (λ i. 0xFF ∷ p i ∷ q i ∷ [])

pub length_is_long : (n : ℕ) → 255 ≤ n → n ≤ 2048 → length_bytes n ≡ 0xFF ∷ n / 256 ∷ n % 256 ∷ []
length_is_long n low high =
    let same : n / 256 * 256 + n % 256 ≡ n = omega arith in
    ap length_bytes (sym same) ∙ length_long (n / 256) (n % 256) (omega arith) (omega arith) (omega arith)

-- ---- the checksum

pub checksum_sums : (w : List ℕ) → total (w ++ (checksum w ∷ [])) % 256 ≡ 0
checksum_sums w = omega (arith, total_append w (checksum w ∷ []))

pub checksum_is : (w : List ℕ) (s : ℕ) → s < 256 → total (w ++ (s ∷ [])) % 256 ≡ 0 → s ≡ checksum w
checksum_is w s h e = omega (arith, total_append w (s ∷ []))

pub length_enclosed : (h d : List ℕ) → length (enclosed (h ++ d)) ≡ length h + length d + 2
length_enclosed h d = omega (arith, length-append (h ++ d) (checksum (h ++ d) ∷ []), length-append h d)

-- ---- a complete header announces the frame's size

pub announces : (a i n : ℕ) (r : List ℕ) → n ≤ 2048 → front_of (0xFA ∷ (header_of a i n ++ r)) ≡ announced (length (header_of a i n) + n + 2) (0xFA ∷ (header_of a i n ++ r))
announces a i n r k =
    let P : List ℕ → Type 0 = λ s. front_of (0xFA ∷ ((a ∷ i ∷ s) ++ r)) ≡ announced (length (a ∷ i ∷ s) + n + 2) (0xFA ∷ ((a ∷ i ∷ s) ++ r)) in
    ⊎_elim
    (λ h.
    let all : List ℕ = 0xFA ∷ a ∷ i ∷ n ∷ r in
    let e : 5 + n ≡ 3 + n + 2 = omega arith in
    subst P (sym (length_short n h))
    (cond-false (leb 255 n) (extended r all) (announced (5 + n) all) (lt-leb 255 n h) ∙ ap (λ m. announced m all) e))
    (λ h.
    let v : ℕ = n / 256 * 256 + n % 256 in
    let all : List ℕ = 0xFA ∷ a ∷ i ∷ 0xFF ∷ n / 256 ∷ n % 256 ∷ r in
    let same : v ≡ n = omega arith in
    let e : 7 + v ≡ 5 + n + 2 = omega arith in
    let fit = and_from (leb 255 v) (leb v 2048) (le-leb 255 v (omega arith)) (le-leb v 2048 (omega arith)) in
    subst P (sym (length_is_long n h k)) (cond-true (leb 255 v && leb v 2048) (announced (7 + v) all) Wrong fit ∙ ap (λ m. announced m all) e))
    (cases_lt n 255)
