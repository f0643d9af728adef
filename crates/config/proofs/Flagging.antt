-- Each bit of the new flags.
use Rattle.std.proofs.Common.{◌≡◌, ℕ, zero, suc, ◌+◌, ◌-◌, ◌/◌, ◌%◌, ◌^◌, ◌<◌, ◌≤◌, sym, ap, ◌∙◌, inl, inr, ⊎_elim, arith, pow_mono}
use native.Mathlib.Nat.{div-eq_of_lt, pow-succ'}
use lib.Bits.{bit_and, bit_or, and_comm, and_shr, or_shr, and_step, or_step}
use Rattle.std.proofs.lemmas.Bool.{cases_lt, cases_eq}
use Rattle.settings.specs.Rules.{Bit}
use Rattle.settings.proofs.Flags.{half_bit, within_bits}
use Rattle.config.specs.Changed.{new_flags}
use Rattle.config.specs.After.{Flagged}

-- the bits of what is left of all ones are the others
other_bit : (n k c : ℕ) → c < 2 ^ n → k < n → (2 ^ n - 1 - c) / 2 ^ k % 2 + c / 2 ^ k % 2 ≡ 1
other_bit zero k c h l = absurd (omega arith)
other_bit (suc n) zero c h l = let p = pow-succ' 2 n in omega arith
other_bit (suc n) (suc k) c h l =
    let p = pow-succ' 2 n in
    let half : (2 ^ suc n - 1 - c) / 2 ≡ 2 ^ n - 1 - c / 2 = omega arith in
    let e = half_bit (2 ^ suc n - 1 - c) k in
    let f = half_bit c k in
    let ih = other_bit n k (c / 2) (omega arith) (omega arith) in
    let g : (2 ^ n - 1 - c / 2) / 2 ^ k ≡ (2 ^ suc n - 1 - c) / 2 ^ suc k = ap (λ m. m / 2 ^ k) (sym half) ∙ e in
    omega arith

past : (n k : ℕ) → n < 2 ^ 32 → 32 ≤ k → n / 2 ^ k ≡ 0
past n k h l = let m : 2 ^ 32 ≤ 2 ^ k = pow_mono l in div-eq_of_lt (omega arith)

pub flagged : (old set clear : ℕ) → old < 2 ^ 32 → clear < 2 ^ 32 → Flagged old set clear (new_flags old set clear)
flagged old set clear ho hc k =
    let x = old / 2 ^ k in
    let y = (2 ^ 32 - 1 - clear) / 2 ^ k in
    let s = set / 2 ^ k in
    let e : new_flags old set clear / 2 ^ k ≡ bit_or (bit_and x y) s =
    or_shr (bit_and old (2 ^ 32 - 1 - clear)) set k ∙ ap (λ n. bit_or n s) (and_shr old (2 ^ 32 - 1 - clear) k) in
    let p = or_step (bit_and x y) s in
    let q = and_step x y in
    let other : x % 2 ≡ 1 → y % 2 + clear / 2 ^ k % 2 ≡ 1 =
    λ t.
    ⊎_elim (λ l. other_bit 32 k clear hc l) (λ l. let z : x ≡ 0 = past old k ho l in absurd (omega arith)) (cases_lt k 32) in (
      λ t.
          ⊎_elim (λ (u : s % 2 ≡ 1). inl u)
          (λ no. let a : x % 2 ≡ 1 = omega arith in let b : y % 2 ≡ 1 = omega arith in let o = other a in inr (a, λ u. omega arith))
          (cases_eq (s % 2) 1),
      ⊎_elim (λ u. omega arith) (λ u. let o = other u.0 in let no : clear / 2 ^ k % 2 ≡ 1 → ⊥ = u.1 in omega arith),
    )

-- numbers with the same bits are the same
pub same_bits : (m n : ℕ) → ((k : ℕ) → Bit m k → Bit n k) → ((k : ℕ) → Bit n k → Bit m k) → m ≡ n
same_bits m n f g = sym (within_bits m n f) ∙ and_comm m n ∙ within_bits n m g
