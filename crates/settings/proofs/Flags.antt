-- A number within another as a set of bits: by the bits, and by `and`.
use Rattle.std.proofs.Common.{◌≡◌, ℕ, suc, ◌/◌, ◌%◌, ◌^◌, sym, ap, ◌∙◌, ⊎_elim, arith}
use native.Mathlib.Nat.{div-div-eq-div-mul, pow-succ'}
use lib.Arith.{bin_ind}
use lib.Bits.{bit_and, and_shr, and_step, and_zero_l}
use Rattle.std.proofs.lemmas.Bool.{cases_eq}
use Rattle.settings.specs.Rules.{Bit}

pub bits_within : (f b : ℕ) → bit_and f b ≡ f → (k : ℕ) → Bit f k → Bit b k
bits_within f b h k t =
    let x : ℕ = f / 2 ^ k in
    let y : ℕ = b / 2 ^ k in
    let e : bit_and x y ≡ x = sym (and_shr f b k) ∙ ap (λ n. n / 2 ^ k) h in
    let s = and_step x y in
    let odd : x % 2 ≡ 1 = t in
    let r : y % 2 ≡ 1 = omega arith in
    r

-- bit k of the half is bit k + 1
pub half_bit : (n k : ℕ) → n / 2 / 2 ^ k ≡ n / 2 ^ suc k
half_bit n k = div-div-eq-div-mul n 2 (2 ^ k) ∙ ap (λ m. n / m) (sym (pow-succ' 2 k))

Within : ℕ → Type 0
Within f = (b : ℕ) → ((k : ℕ) → Bit f k → Bit b k) → bit_and f b ≡ f

within_half : (f : ℕ) → Within (f / 2) → Within f
unfolding Within
within_half f ih b h =
    let e = ih (b / 2) (λ k t. ap (λ n. n % 2) (half_bit b k) ∙ h (suc k) (ap (λ n. n % 2) (sym (half_bit f k)) ∙ t)) in
    let low : f % 2 ≡ 1 → b % 2 ≡ 1 = λ t. omega (arith, h 0 (omega arith)) in
    let s = and_step f b in
    ⊎_elim (λ (t : f % 2 ≡ 1). let u = low t in omega arith) (λ even. omega arith) (cases_eq (f % 2) 1)

pub within_bits : (f b : ℕ) → ((k : ℕ) → Bit f k → Bit b k) → bit_and f b ≡ f
unfolding Within
within_bits = bin_ind Within (λ b h. and_zero_l b) within_half
