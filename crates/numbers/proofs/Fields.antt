-- The fields of an IEEE 754 number: what has a value is finite, the value is theirs alone, and even digits end in an even bit.
use Rattle.std.proofs.Common.{◌≡◌, ℕ, zero, suc, ◌+◌, ◌-◌, ◌*◌, ◌/◌, ◌%◌, ◌^◌, ◌<◌, ◌≤◌, Bool, true, false, cond, eqb, leb, sym, refl, ap, ◌∙◌, subst, inl, inr, eq-or-lt_of_le, mul-le-mul_left, mul-one, mul_right_comm, arith, pow_pos, pow_mono, ne_eqb}
use native.Mathlib.Nat.{eq_of_mul-eq-mul_right}
use lib.Ieee.{Float, nan, inf, fin, Format, binary32, binary64, prec, low, hid, ones, top, down, odd, of_fields, of_bits}
use lib.Ieee.Fits.{down_pos}
use lib.Ieee.Exact.{HasValue, odd_sign}
use Rattle.numbers.specs.Worth.{exponent, fraction, Finite, magnitude}
use Rattle.numbers.proofs.Near.{le_or_lt, split_pow}

-- ---- the value that the fields stand for

magnitude_value : (f : Format) (s : Bool) (x t : ℕ) → x < ones f → HasValue (of_fields f s x t) s (magnitude f x t) (2 ^ low f)
unfolding of_fields
magnitude_value f s zero t h =
    subst (λ (z : ℕ). HasValue (odd (prec f) s t 0 (low f)) s z (2 ^ low f)) (mul-one t) (odd_sign (prec f) s t 0 (low f))
magnitude_value f s (suc x) t h =
    let e : eqb (suc x) (ones f) ≡ false = ne_eqb (suc x) (ones f) (λ q. omega arith) in
    subst (λ (z : Float). HasValue z s (magnitude f (suc x) t) (2 ^ low f))
    (sym (ap (λ (b : Bool). cond b (cond (eqb t 0) (inf s) nan) (odd (prec f) s (hid f + t) x (low f))) e))
    (odd_sign (prec f) s (hid f + t) x (low f))

worth_value : (f : Format) (b : ℕ) → Finite f b
    → HasValue (of_bits f b) (leb (top f) b) (magnitude f (exponent f b) (fraction f b)) (2 ^ low f)
unfolding of_bits
worth_value f b h = magnitude_value f (leb (top f) b) (exponent f b) (fraction f b) h

one_value : (x : Float) (s t : Bool) (a b c : ℕ) → HasValue x s a c → HasValue x t b c → (s ≡ t) × (a ≡ b)
one_value nan s t a b c h k = absurd h
one_value (inf r) s t a b c h k = absurd h
one_value (fin r m e) s t a b c h k =
    (sym h.0 ∙ k.0, eq_of_mul-eq-mul_right (down e) (down_pos e) a b (sym h.1 ∙ k.1))

-- finite bits with a value have its sign and magnitude
pub value_fields : (f : Format) (b : ℕ) (s : Bool) (a : ℕ) → Finite f b → HasValue (of_bits f b) s a (2 ^ low f)
    → (leb (top f) b ≡ s) × (magnitude f (exponent f b) (fraction f b) ≡ a)
value_fields f b s a h v =
    one_value (of_bits f b) (leb (top f) b) s (magnitude f (exponent f b) (fraction f b)) a (2 ^ low f) (worth_value f b h) v

-- ---- an infinity or a NaN has no value

no_value : (b r s : Bool) (a c : ℕ) → HasValue (cond b (inf r) nan) s a c → ⊥
no_value true r s a c h = h
no_value false r s a c h = h

not_ones : (f : Format) (r : Bool) (x t : ℕ) (s : Bool) (a c : ℕ) → x ≡ ones f → HasValue (of_fields f r x t) s a c → ⊥
unfolding of_fields
not_ones binary32 r x t s a c e h =
    no_value (eqb t 0) r s a c (subst (λ (z : ℕ). HasValue (of_fields binary32 r z t) s a c) e h)
not_ones binary64 r x t s a c e h =
    no_value (eqb t 0) r s a c (subst (λ (z : ℕ). HasValue (of_fields binary64 r z t) s a c) e h)

exponent_le : (f : Format) (b : ℕ) → exponent f b ≤ ones f
exponent_le binary32 b = omega arith
exponent_le binary64 b = omega arith

pub value_finite : (f : Format) (b : ℕ) (s : Bool) (a c : ℕ) → HasValue (of_bits f b) s a c → Finite f b
unfolding of_bits
value_finite f b s a c h = elim (eq-or-lt_of_le (exponent_le f b)) [
  | inl e ↦ absurd (not_ones f (leb (top f) b) (exponent f b) (fraction f b) s a c e h)
  | inr l ↦ l
]

pub fraction_lt : (f : Format) (b : ℕ) → fraction f b < hid f
fraction_lt binary32 b = omega arith
fraction_lt binary64 b = omega arith

-- ---- an even number of kept digits has an even last bit

even_times : (q c : ℕ) → q % 2 ≡ 0 → q * c ≡ q / 2 * c * 2
even_times q c h = let e : q ≡ q / 2 * 2 = omega arith in ap (λ (z : ℕ). z * c) e ∙ mul_right_comm (q / 2) 2 c

even_fraction : (h t x q k : ℕ) → h % 2 ≡ 0 → q ≤ 2 * h → (h + t) * 2 ^ x ≡ q * 2 ^ k → q % 2 ≡ 0 → t % 2 ≡ 0
even_fraction h t x q k H Q e E = elim (le_or_lt x k) [
  | inl l ↦
      let c : h + t ≡ q * 2 ^ (k - x) =
      eq_of_mul-eq-mul_right (2 ^ x) (pow_pos x) (h + t) (q * 2 ^ (k - x)) (e ∙ sym (split_pow q k x l)) in
      let d : q * 2 ^ (k - x) ≡ q / 2 * 2 ^ (k - x) * 2 = even_times q (2 ^ (k - x)) E in
      omega arith
  | inr l ↦
      let r = split_pow (h + t) x k (omega arith) in
      let c : (h + t) * 2 ^ (x - k) ≡ q = eq_of_mul-eq-mul_right (2 ^ k) (pow_pos k) ((h + t) * 2 ^ (x - k)) q (r ∙ e) in
      let d : (h + t) * 2 ^ 1 ≤ (h + t) * 2 ^ (x - k) = mul-le-mul_left (h + t) (pow_mono {i = 1} {j = x - k} (omega arith)) in
      omega arith
]

even_magnitude : (f : Format) (x t q k : ℕ) → q ≤ 2 ^ prec f → magnitude f x t ≡ q * 2 ^ k → q % 2 ≡ 0 → t % 2 ≡ 0
even_magnitude f zero t q k Q e E = let d : q * 2 ^ k ≡ q / 2 * 2 ^ k * 2 = even_times q (2 ^ k) E in omega arith
even_magnitude binary32 (suc x) t q k Q e E = even_fraction (hid binary32) t x q k refl Q e E
even_magnitude binary64 (suc x) t q k Q e E = even_fraction (hid binary64) t x q k refl Q e E

last_bit : (f : Format) (b : ℕ) → fraction f b % 2 ≡ 0 → b % 2 ≡ 0
last_bit binary32 b h = omega arith
last_bit binary64 b h = omega arith

pub even_bits : (f : Format) (b q k : ℕ) → q ≤ 2 ^ prec f → magnitude f (exponent f b) (fraction f b) ≡ q * 2 ^ k → q % 2 ≡ 0
    → b % 2 ≡ 0
even_bits f b q k Q e E = last_bit f b (even_magnitude f (exponent f b) (fraction f b) q k Q e E)
