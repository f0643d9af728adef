-- Big-endian numbers: one law for every width, and the steps of reading and writing byte by byte.
use Rattle.std.proofs.Common.{◌≡◌, ℕ, zero, suc, ◌+◌, ◌*◌, ◌/◌, ◌%◌, ◌^◌, ◌<◌, List, [], ◌∷◌, ◌++◌, length, get_or, take, set, reverse, sym, refl, ap, ◌∙◌, mod-eq_of_lt, mul_assoc, pow-suc, div-one, add-one, arith, lit<}
use native.Mathlib.Nat.{mod-one, pow-succ', one-le-pow, mul-add-div_right, mul-add-mod_self_right, div-div-eq-div-mul}
use lib.Arith.{mod-mul, digits_lt, digits_div}
use Rattle.std.proofs.lemmas.List.{length_push, take_more, take_all, take_more_set, reverse-append}
use Rattle.xbus.specs.Numbers.{Bytes, be, number_of, NumbersInverse}

power : (k : ℕ) → 0 < 256 ^ k
power k = one-le-pow k 256 (lit< tt)

pub length_be : (k n : ℕ) → length (be k n) ≡ k
length_be zero n = refl
length_be (suc k) n = ap suc (length_be k n)

pub number_be : (k n : ℕ) → number_of (be k n) ≡ n % 256 ^ k
number_be zero n = sym (mod-one n)
number_be (suc k) n =
    rw (length_be k n, number_be k n, pow-succ' 256 k) (sym (mod-mul n {m = 256} {c = 256 ^ k} (lit< tt) (power k)))

-- what stands above the lowest k bytes does not show in them
be_low : (k m n : ℕ) → be k (m * 256 ^ k + n) ≡ be k n
be_low zero m n = refl
be_low (suc k) m n =
    let e : m * 256 ^ suc k + n ≡ m * 256 * 256 ^ k + n =
    ap (λ (z : ℕ). m * z + n) (pow-succ' 256 k) ∙ ap (λ (z : ℕ). z + n) (sym (mul_assoc m 256 (256 ^ k))) in
    let h : (m * 256 * 256 ^ k + n) / 256 ^ k % 256 ≡ n / 256 ^ k % 256 =
    ap (λ (z : ℕ). z % 256) (mul-add-div_right (power k) (m * 256) n) ∙ mul-add-mod_self_right m 256 (n / 256 ^ k) in
    ap (be (suc k)) e ∙ ap (λ (z : ℕ). z ∷ be k (m * 256 * 256 ^ k + n)) h
    ∙ ap (λ (zs : List ℕ). n / 256 ^ k % 256 ∷ zs) (be_low k (m * 256) n)

pub number_lt : (bs : List ℕ) → Bytes bs → number_of bs < 256 ^ length bs
number_lt [] h = lit< tt
number_lt (b ∷ bs) h = rw (pow-succ' 256 (length bs)) (digits_lt h.0 (number_lt bs h.1))

be_number : (bs : List ℕ) → Bytes bs → be (length bs) (number_of bs) ≡ bs
be_number [] h = refl
be_number (b ∷ bs) h =
    let k = length bs in
    ap (λ (z : ℕ). z ∷ be k (b * 256 ^ k + number_of bs))
    (ap (λ (z : ℕ). z % 256) (digits_div b (number_lt bs h.1)) ∙ mod-eq_of_lt h.0)
    ∙ ap (λ (zs : List ℕ). b ∷ zs) (be_low k b (number_of bs) ∙ be_number bs h.1)

pub inverse : NumbersInverse
inverse = record { number_back = number_be; bytes_back = be_number }

-- a number that its width holds is read as it was written
pub be_back : (k n : ℕ) → n < 256 ^ k → number_of (be k n) ≡ n
be_back k n h = number_be k n ∙ mod-eq_of_lt h

-- the bytes of two widths, one by one
pub two_bytes : (n : ℕ) → n / 256 % 256 ∷ n % 256 ∷ [] ≡ be 2 n
two_bytes n = ap (λ k. n / 256 % 256 ∷ k % 256 ∷ []) (sym (div-one n))

pub four_bytes : (n : ℕ) → n / 16777216 % 256 ∷ n / 65536 % 256 ∷ n / 256 % 256 ∷ n % 256 ∷ [] ≡ be 4 n
four_bytes n = ap (λ k. n / 16777216 % 256 ∷ n / 65536 % 256 ∷ n / 256 % 256 ∷ k % 256 ∷ []) (sym (div-one n))

-- ---- reading byte by byte

pow_push : (bs : List ℕ) (b : ℕ) → 256 ^ length (bs ++ (b ∷ [])) ≡ 256 ^ length bs * 256
pow_push bs b = rw (length_push bs b, add-one, pow-suc)

number_push : (bs : List ℕ) (b : ℕ) → number_of (bs ++ (b ∷ [])) ≡ number_of bs * 256 + b
number_push [] b = omega arith
number_push (x ∷ bs) b =
    let e = number_push bs b in
    let m : x * 256 ^ length (bs ++ (b ∷ [])) ≡ x * 256 ^ length bs * 256 =
    ap (λ (z : ℕ). x * z) (pow_push bs b) ∙ sym (mul_assoc x (256 ^ length bs) 256) in
    omega arith

pub number_more : (bs : List ℕ) (i : ℕ) → i < length bs → number_of (take (i + 1) bs) ≡ number_of (take i bs) * 256 + get_or bs i 0
number_more bs i h = ap number_of (take_more bs i 0 h) ∙ number_push (take i bs) (get_or bs i 0)

-- ---- writing byte by byte, the lowest first

-- the first i elements of out are the lowest bytes of v, the lowest first, and r is what is still to be written
pub Written : ℕ → ℕ → List ℕ → ℕ → Type 0
Written v i out r = (reverse (take i out) ≡ be i v) × (r ≡ v / 256 ^ i)

pub written_none : (v : ℕ) (out : List ℕ) → Written v 0 out v
unfolding Written
written_none v out = (refl, sym (div-one v))

pub written_more : (v i : ℕ) (out : List ℕ) (r : ℕ) → i < length out → Written v i out r → Written v (i + 1) (set out i (r % 256)) (r / 256)
unfolding Written
written_more v i out r h w =
    let more : suc i ≡ i + 1 = omega arith in (
      ap reverse (take_more_set out i (r % 256) h) ∙ reverse-append (take i out) (r % 256 ∷ [])
          ∙ (λ t. w.1 t % 256 ∷ w.0 t) ∙ ap (λ n. be n v) more,
      ap (λ n. n / 256) w.1 ∙ div-div-eq-div-mul v (256 ^ i) 256 ∙ ap (λ n. v / n) (sym (pow-suc 256 i))
          ∙ ap (λ n. v / 256 ^ n) more,
    )

pub written_all : (v i : ℕ) (out : List ℕ) (r : ℕ) → i ≡ length out → Written v i out r → reverse out ≡ be (length out) v
unfolding Written
written_all v i out r e w =
    ap reverse (sym (take_all i out (omega arith))) ∙ w.0 ∙ ap (λ n. be n v) e
