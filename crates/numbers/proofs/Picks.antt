-- What `round` picks for a reading, in units of the smallest positive number of its format.
use Rattle.std.proofs.Common.{◌≡◌, ℕ, suc, ◌+◌, ◌-◌, ◌*◌, ◌/◌, ◌%◌, ◌^◌, ◌<◌, ◌≤◌, Bool, sym, ap, ◌∙◌, subst, le_trans, le_of_eq, lt_of_le_of_lt, mul-le-mul_right, mul_assoc, mul-pos, mul-div_cancel, arith, lit<, pow_pos, pow-add}
use Prim.Native.Nat.{compare}
use lib.Pow.{pow-lt}
use lib.Ieee.{Float, Format, binary32, binary64, prec, emax, low, size, units, round}
use lib.Ieee.Digits.{size-le}
use lib.Ieee.Fits.{kept-lt, nearest-le, round_is}
use lib.Ieee.Exact.{HasValue, units_val}
use lib.Ieee.Nearest.{closest, closest_same}
use Rattle.numbers.proofs.Near.{cut, pick}

-- n / 2 ^ 32
abbrev pub target : Format → ℕ → ℕ
target f n = n * 2 ^ (low f - 32)

-- its kept digits, rounded, and how many are dropped
abbrev pub digits : Format → ℕ → ℕ
digits f n = pick (prec f) (target f n)

abbrev pub dropped : Format → ℕ → ℕ
dropped f n = cut (prec f) (target f n)

abbrev pub picked : Format → ℕ → ℕ
picked f n = digits f n * 2 ^ dropped f n

target_is : (f : Format) (n : ℕ) → n * 2 ^ low f ≡ target f n * 2 ^ 32
target_is binary32 n = sym (mul_assoc n (2 ^ 117) (2 ^ 32))
target_is binary64 n = sym (mul_assoc n (2 ^ 1042) (2 ^ 32))

round_picks : (f : Format) (s : Bool) (n : ℕ) → round f s n (2 ^ 32) ≡ units f s (digits f n) (dropped f n)
round_picks f s n =
    let l = n * 2 ^ low f in
    let t = target f n in
    let k = dropped f n in
    let e : l ≡ t * 2 ^ 32 = target_is f n in
    let d : l / 2 ^ 32 ≡ t = ap (λ (z : ℕ). z / 2 ^ 32) e ∙ mul-div_cancel t (pow_pos 32) in
    let same : closest l (2 ^ 32 * 2 ^ k) ≡ closest t (2 ^ k) =
    closest_same l (2 ^ 32 * 2 ^ k) t (2 ^ k) (mul-pos {m = 2 ^ 32} (pow_pos 32) (pow_pos k)) (pow_pos k)
    (ap (λ (z : ℕ). z * 2 ^ k) e ∙ mul_assoc t (2 ^ 32) (2 ^ k)) in
    round_is f s n (2 ^ 32)
    ∙ ap (λ (z : ℕ). units f s (closest l (2 ^ 32 * 2 ^ (size z - prec f))) (size z - prec f)) d
    ∙ ap (λ (q : ℕ). units f s q k) same

pub digits_le : (f : Format) (n : ℕ) → digits f n ≤ 2 ^ prec f
digits_le f n =
    let t = target f n in
    let u = 2 ^ dropped f n in
    le_trans (nearest-le (t / u) (compare (t % u * 2) u)) (kept-lt (prec f) t)

-- ---- a reading is below the largest finite number

target_lt : (f : Format) (n : ℕ) → n ≤ 2 ^ 47 → target f n < 2 ^ (low f + 16)
target_lt binary32 n h = lt_of_le_of_lt (mul-le-mul_right (2 ^ 117) h) (lit< tt)
target_lt binary64 n h = lt_of_le_of_lt (mul-le-mul_right (2 ^ 1042) h) (lit< tt)

room : (f : Format) (z : ℕ) → z ≤ low f + 16 → prec f + (z - prec f) < low f + suc (emax f)
room binary32 z h = omega arith
room binary64 z h = omega arith

picked_lt : (f : Format) (n : ℕ) → n ≤ 2 ^ 47 → picked f n < 2 ^ (low f + suc (emax f))
picked_lt f n h =
    let k = dropped f n in
    lt_of_le_of_lt (le_trans (mul-le-mul_right (2 ^ k) (digits_le f n)) (le_of_eq (sym (pow-add 2 (prec f) k))))
    (pow-lt (room f (size (target f n)) (size-le (target f n) (low f + 16) (target_lt f n h))))

pub round_value : (f : Format) (s : Bool) (n : ℕ) → n ≤ 2 ^ 47 → HasValue (round f s n (2 ^ 32)) s (picked f n) (2 ^ low f)
round_value f s n h =
    subst (λ (x : Float). HasValue x s (picked f n) (2 ^ low f)) (sym (round_picks f s n))
    (units_val f s (digits f n) (dropped f n) (picked_lt f n h))
