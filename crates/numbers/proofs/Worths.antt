-- The bits of a reading's float: no finite float is nearer to the reading, and a double is the reading itself.
use Rattle.std.proofs.Common.{◌≡◌, ℕ, zero, suc, ◌+◌, ◌*◌, ◌%◌, ◌^◌, ◌<◌, ◌≤◌, Bool, true, false, leb, ℤ, pos, negsuc, sym, refl, ap, ◌∙◌, subst, inl, inr, lt_of_le_of_lt, mul-one, arith, lit<}
use lib.Ieee.{Float, Format, binary32, binary64, prec, low, hid, top, round, of_bits, to_bits}
use lib.Ieee.Fits.{round-fits}
use lib.Ieee.Exact.{HasValue}
use lib.Ieee.Bits.{of_bits-to_bits}
use Rattle.xbus.specs.Numbers.{number_of}
use Rattle.mti.specs.declared.precision.Precision.TheVariants.{Single, Double}
use Rattle.numbers.specs.Encoding.{in_range, rounded, code_of, encoded}
use Rattle.numbers.specs.Worth.{exponent, fraction, Finite, magnitude, signed, worth, exactly, distance, Nearest, Exact}
use Rattle.numbers.proofs.Ranges.{in_range_size}
use Rattle.numbers.proofs.Bytes.{encoded_number}
use Rattle.numbers.proofs.Near.{Near, cut, pick, pick_near}
use Rattle.numbers.proofs.Fields.{value_fields, value_finite, fraction_lt, even_bits}
use Rattle.numbers.proofs.Picks.{target, digits, dropped, picked, digits_le, round_value}
use Rattle.numbers.proofs.Signs.{SignedNear, any_sign}

-- ---- the number that is picked, against that of any fields

-- y is no nearer to n than what is picked with p digits
abbrev Picked : ℕ → ℕ → ℕ → Type 0
Picked p n y = Near (pick p n % 2 ≡ 0) (pick p n * 2 ^ cut p n) n y

picked_near : (f : Format) (n x t : ℕ) → t < hid f → Picked (prec f) n (magnitude f x t)
picked_near binary32 n zero t h = subst (Picked 24 n) (mul-one t) (pick_near 24 n t 0 (lit< tt) (omega arith))
picked_near binary64 n zero t h = subst (Picked 53 n) (mul-one t) (pick_near 53 n t 0 (lit< tt) (omega arith))
picked_near binary32 n (suc x) t h = pick_near 24 n (hid binary32 + t) x (lit< tt) (omega arith)
picked_near binary64 n (suc x) t h = pick_near 53 n (hid binary64 + t) x (lit< tt) (omega arith)

hid_pos : (f : Format) → 0 < hid f
hid_pos binary32 = lit< tt
hid_pos binary64 = lit< tt

-- ---- the bits of a rounded reading

module _ (f : Format) (s : Bool) (n : ℕ) (h : n ≤ 2 ^ 47) where
  abbrev Even : Type 0
  Even = digits f n % 2 ≡ 0

  bits : ℕ
  bits = to_bits f (round f s n (2 ^ 32))

  bits_value : HasValue (of_bits f bits) s (picked f n) (2 ^ low f)
  unfolding bits
  bits_value =
      let x = round f s n (2 ^ 32) in
      subst (λ (y : Float). HasValue y s (picked f n) (2 ^ low f)) (sym (of_bits-to_bits f x (round-fits f s n (2 ^ 32))))
      (round_value f s n h)

  bits_finite : Finite f bits
  bits_finite = value_finite f bits s (picked f n) (2 ^ low f) bits_value

  bits_fields : (leb (top f) bits ≡ s) × (magnitude f (exponent f bits) (fraction f bits) ≡ picked f n)
  bits_fields = value_fields f bits s (picked f n) bits_finite bits_value

  bits_worth : worth f bits ≡ signed s (picked f n)
  bits_worth =
      ap (λ (t : Bool). signed t (magnitude f (exponent f bits) (fraction f bits))) bits_fields.0
      ∙ ap (signed s) bits_fields.1

  bits_even : Even → bits % 2 ≡ 0
  bits_even e = even_bits f bits (digits f n) (dropped f n) (digits_le f n) bits_fields.1 e

  bits_near : (c : ℕ) → SignedNear Even (signed s (picked f n)) (signed s (target f n)) (worth f c)
  bits_near c =
      any_sign Even s (leb (top f) c) (picked f n) (target f n) (magnitude f (exponent f c) (fraction f c))
      (picked_near f (target f n) (exponent f c) (fraction f c) (fraction_lt f c))
      (picked_near f (target f n) 0 0 (hid_pos f))

  bits_nearest : (v : ℤ) → exactly f v ≡ signed s (target f n) → Nearest f v bits
  bits_nearest v e = record {
    finite = bits_finite;
    nearest = λ c k. rw (e, bits_worth) (bits_near c).near;
    even = λ c k q.
        let tie : distance (worth f c) (signed s (target f n)) ≡ distance (signed s (picked f n)) (signed s (target f n)) =
        ap (distance (worth f c)) (sym e) ∙ q ∙ ap (λ (z : ℤ). distance z (exactly f v)) bits_worth
        ∙ ap (distance (signed s (picked f n))) e in
        elim ((bits_near c).tied tie) [
          | inl w ↦ inl (w ∙ sym bits_worth)
          | inr w ↦ inr (bits_even w)
        ];
  }

nearest_is : (f : Format) (v : ℤ) → in_range v ≡ true → Nearest f v (to_bits f (rounded f v))
unfolding bits
nearest_is f (pos n) h = let l = in_range_size (pos n) h in bits_nearest f false n (omega arith) (pos n) refl
nearest_is f (negsuc n) h = let l = in_range_size (negsuc n) h in bits_nearest f true (suc n) (omega arith) (negsuc n) refl

pub single_nearest : (v : ℤ) → in_range v ≡ true → Nearest binary32 v (number_of (encoded Single v))
unfolding code_of
single_nearest v h = rw (encoded_number Single v) (nearest_is binary32 v h)

-- ---- a double has all the digits of a reading

only_itself : (E : Type 0) (g n : ℕ) → Near E g n n → g ≡ n
only_itself E g n (inl l) = omega arith
only_itself E g n (inr l) = omega (arith, l.0)

whole : (n : ℕ) → n ≤ 2 ^ 47 → picked binary64 n ≡ target binary64 n
whole n h =
    only_itself (digits binary64 n % 2 ≡ 0) (picked binary64 n) (target binary64 n)
    (pick_near 53 (target binary64 n) n 1042 (lit< tt) (lt_of_le_of_lt h (lit< tt)))

exact_at : (s : Bool) (n : ℕ) (v : ℤ) → n ≤ 2 ^ 47 → exactly binary64 v ≡ signed s (target binary64 n)
    → Exact binary64 v (to_bits binary64 (round binary64 s n (2 ^ 32)))
unfolding bits
exact_at s n v h e =
    record { finite = bits_finite binary64 s n h; exact = bits_worth binary64 s n h ∙ ap (signed s) (whole n h) ∙ sym e }

exact_is : (v : ℤ) → in_range v ≡ true → Exact binary64 v (to_bits binary64 (rounded binary64 v))
exact_is (pos n) h = let l = in_range_size (pos n) h in exact_at false n (pos n) (omega arith) refl
exact_is (negsuc n) h = let l = in_range_size (negsuc n) h in exact_at true (suc n) (negsuc n) (omega arith) refl

pub double_exact : (v : ℤ) → in_range v ≡ true → Exact binary64 v (number_of (encoded Double v))
unfolding code_of
double_exact v h = rw (encoded_number Double v) (exact_is v h)
