-- A reading as the program computes it: v / 2 ^ 32 in a double is exact, and that double narrowed is the nearest single.
use Rattle.std.proofs.Common.{◌≡◌, ℕ, zero, suc, ◌+◌, ◌*◌, ◌^◌, ◌≤◌, Bool, true, false, cond, not, T, ltb, ℤ, pos, negsuc, sym, refl, ap, ◌∙◌, subst, lt_of_le_of_lt, mul-le-mul_right, mul_assoc, mul-pos, mul_right_comm, arith, lit<}
use lib.Ieee.{Float, nan, inf, fin, Format, binary32, binary64, prec, up, down, unlike, round, units, odd, low, emax, is_nan, div, of_int, of_bits}
use lib.Ieee.Exact.{HasValue, round_exact}
use lib.Ieee.Fits.{down_pos, round_is}
use lib.Ieee.Back.{round_whole}
use lib.Ieee.Scale.{round_same}
use Rattle.std.specs.Float.{round_to_format}
use Rattle.numbers.specs.Encoding.{in_range, rounded}
use Rattle.numbers.proofs.Ranges.{in_range_size}

-- the divisor as the program has it
pub divisor : of_bits binary64 4751297606875873280 ≡ fin false 1 (pos 32)
unfolding of_bits
divisor = refl

unlike_false : (s : Bool) → unlike s false ≡ s
unlike_false true = refl
unlike_false false = refl

quotient : (f : Format) (s : Bool) (n : ℕ) (x : Float) → HasValue x s n 1 → div f x (fin false 1 (pos 32)) ≡ round f s n (2 ^ 32)
unfolding div
quotient f s n nan h = absurd h
quotient f s n (inf t) h = absurd h
quotient f s n (fin t m e) h =
    ap (λ (b : Bool). round f b (m * up e * 1) (1 * 2 ^ 32 * down e)) (unlike_false t ∙ h.0)
    ∙ round_same f s (m * up e * 1) (1 * 2 ^ 32 * down e) n (2 ^ 32) (mul-pos {m = 2 ^ 32} (lit< tt) (down_pos e)) (lit< tt)
    (ap (λ (z : ℕ). z * 2 ^ 32) h.1 ∙ mul_right_comm n (down e) (2 ^ 32) ∙ mul_assoc n (2 ^ 32) (down e))

pub scaled_is : (v : ℤ) → in_range v ≡ true → div binary64 (of_int binary64 v) (fin false 1 (pos 32)) ≡ rounded binary64 v
unfolding of_int
scaled_is (pos n) h =
    let l = in_range_size (pos n) h in
    quotient binary64 false n (round binary64 false n 1) (round_whole binary64 false n (omega arith))
scaled_is (negsuc n) h =
    let l = in_range_size (negsuc n) h in
    quotient binary64 true (suc n) (round binary64 true (suc n) 1) (round_whole binary64 true (suc n) (omega arith))

-- ---- what is rounded is no NaN

units_number : (f : Format) (s : Bool) (q k : ℕ) → T (not (is_nan (units f s q k)))
unfolding units odd is_nan
units_number f s q k = go (ltb (q * 2 ^ k) (2 ^ (low f + suc (emax f)))) q
  where
    go : (b : Bool) (q : ℕ) → T (not (is_nan (cond b (odd (suc (prec f)) s q k (low f)) (inf s))))
    go false q = tt
    go true zero = tt
    go true (suc q) = tt

round_number : (f : Format) (s : Bool) (a b : ℕ) → T (not (is_nan (round f s a b)))
round_number f s a b = subst (λ (x : Float). T (not (is_nan x))) (sym (round_is f s a b)) (units_number f s _ _)

pub rounded_number : (f : Format) (v : ℤ) → T (not (is_nan (rounded f v)))
rounded_number f (pos n) = round_number f false n (2 ^ 32)
rounded_number f (negsuc n) = round_number f true (suc n) (2 ^ 32)

-- ---- a double holds a reading, so that narrowing it rounds the reading itself

held : (s : Bool) (n : ℕ) → n ≤ 2 ^ 47 → HasValue (round binary64 s n (2 ^ 32)) s n (2 ^ 32)
held s n h =
    round_exact binary64 s n (2 ^ 32) n 1042 (lit< tt) (omega arith)
    (lt_of_le_of_lt (mul-le-mul_right (2 ^ 1042) h) (lit< tt)) (sym (mul_assoc n (2 ^ 1042) (2 ^ 32)))

narrowed : (f : Format) (s : Bool) (n : ℕ) (x : Float) → HasValue x s n (2 ^ 32) → round_to_format f x ≡ round f s n (2 ^ 32)
unfolding round_to_format
narrowed f s n nan h = absurd h
narrowed f s n (inf t) h = absurd h
narrowed f s n (fin t m e) h =
    ap (λ (b : Bool). round f b (m * up e) (down e)) h.0
    ∙ round_same f s (m * up e) (down e) n (2 ^ 32) (down_pos e) (lit< tt) h.1

pub narrowed_is : (v : ℤ) → in_range v ≡ true → round_to_format binary32 (rounded binary64 v) ≡ rounded binary32 v
narrowed_is (pos n) h =
    let l = in_range_size (pos n) h in
    narrowed binary32 false n (round binary64 false n (2 ^ 32)) (held false n (omega arith))
narrowed_is (negsuc n) h =
    let l = in_range_size (negsuc n) h in
    narrowed binary32 true (suc n) (round binary64 true (suc n) (2 ^ 32)) (held true (suc n) (omega arith))
