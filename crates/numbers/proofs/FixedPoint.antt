-- Fixed point: the rounding to steps, and two's complement read back.
use Rattle.std.proofs.Common.{◌≡◌, ℕ, suc, ◌-◌, ◌*◌, ◌%◌, ◌^◌, ◌<◌, ◌≤◌, true, false, cond, ltb, ℤ, pos, negsuc, neg_ℤ, nat_abs, sym, refl, ap, ◌∙◌, subst, arith}
use lib.Signed.{mag}
use Rattle.std.specs.Int.{saturate_to_bits, int_rem_euclid}
use Rattle.std.proofs.lemmas.Int.{ints}
use Rattle.std.proofs.lemmas.Bool.{lt-ltb, le-ltb}
use Rattle.xbus.specs.Numbers.{number_of}
use Rattle.mti.specs.declared.precision.Precision.TheVariants.{Fixed32, Fixed48}
use Rattle.numbers.specs.Steps.{steps, Floor}
use Rattle.numbers.specs.Encoding.{in_range, twos, code_of, encoded}
use Rattle.numbers.specs.Meanings.{signed_of, Held}
use Rattle.numbers.proofs.Ranges.{in_range_size}
use Rattle.numbers.proofs.Bytes.{encoded_number}

pub steps_floor : (v : ℤ) → Floor v (steps v)
unfolding steps
steps_floor (pos n) = record { low = omega (arith, ints); high = omega (arith, ints) }
steps_floor (negsuc n) = record { low = omega (arith, ints); high = omega (arith, ints) }

pub steps_only : (v s : ℤ) → Floor v s → s ≡ steps v
steps_only v s f = let g = steps_floor v in omega (arith, ints)

-- n and -(n + 1) in two's complement of p codes
signed_at : (n m p : ℕ) → m ≡ n → suc n * 2 ≤ p
    → (cond (ltb (m * 2) p) (pos m) (neg_ℤ (pos (p - m))) ≡ pos n)
    × (cond (ltb ((p - 1 - m) * 2) p) (pos (p - 1 - m)) (neg_ℤ (pos (p - (p - 1 - m)))) ≡ negsuc n)
signed_at n m p e h =
    let a : ltb (m * 2) p ≡ true = lt-ltb (m * 2) p (omega arith) in
    let b : ltb ((p - 1 - m) * 2) p ≡ false = le-ltb ((p - 1 - m) * 2) p (omega arith) in
    let c : p - (p - 1 - m) ≡ suc n = omega arith in
    (rw a (ap pos e), rw (b, c))

signed4 : (z : ℤ) → mag z < 2 ^ 31 → signed_of 4 (twos 4 z) ≡ z
signed4 (pos n) h = (signed_at n (n % 256 ^ 4) (256 ^ 4) (omega arith) (omega arith)).0
signed4 (negsuc n) h = (signed_at n (n % 256 ^ 4) (256 ^ 4) (omega arith) (omega arith)).1

signed6 : (z : ℤ) → mag z < 2 ^ 47 → signed_of 6 (twos 6 z) ≡ z
signed6 (pos n) h = (signed_at n (n % 256 ^ 6) (256 ^ 6) (omega arith) (omega arith)).0
signed6 (negsuc n) h = (signed_at n (n % 256 ^ 6) (256 ^ 6) (omega arith) (omega arith)).1

held_size : (z : ℤ) → mag (saturate_to_bits 31 z) < 2 ^ 31
held_size (pos n) = omega arith
held_size (negsuc n) = omega arith

fixed32_back : (v : ℤ) → signed_of 4 (number_of (encoded Fixed32 v)) ≡ saturate_to_bits 31 (steps v)
unfolding code_of
fixed32_back v = ap (signed_of 4) (encoded_number Fixed32 v) ∙ signed4 (saturate_to_bits 31 (steps v)) (held_size (steps v))

-- the steps in words

held : (s : ℤ) → Held s (saturate_to_bits 31 s)
held (pos n) = record {
  same = λ l h. omega (arith, ints);
  below = λ h. omega (arith, ints);
  above = λ h. omega (arith, ints);
}
held (negsuc n) = record {
  same = λ l h. omega (arith, ints);
  below = λ h. omega (arith, ints);
  above = λ h. omega (arith, ints);
}

pub fixed32_held : (v s : ℤ) → Floor v s → Held s (signed_of 4 (number_of (encoded Fixed32 v)))
fixed32_held v s f =
    subst (λ (w : ℤ). Held s w) (ap (saturate_to_bits 31) (steps_only v s f) ∙ sym (fixed32_back v)) (held s)

pub fixed48_back : (v : ℤ) → in_range v ≡ true → signed_of 6 (number_of (encoded Fixed48 v)) ≡ v
unfolding code_of
fixed48_back v h = ap (signed_of 6) (encoded_number Fixed48 v) ∙ signed6 v (in_range_size v h)

-- two's complement as the program computes it
pub twos_is : (k : ℕ) (z : ℤ) → nat_abs (int_rem_euclid z (pos (256 ^ k))) ≡ twos k z
twos_is k (pos n) = refl
twos_is k (negsuc n) = refl
