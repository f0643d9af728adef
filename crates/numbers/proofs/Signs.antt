-- Nearness of signed numbers: on the side of n as without signs, and across zero no nearer than zero.
use Rattle.std.proofs.Common.{◌≡◌, ℕ, ◌+◌, ◌≤◌, Bool, true, false, not, ◌⊎◌, ℤ, pos, neg_ℤ, sym, ap, ◌∙◌, inl, inr, arith}
use Rattle.std.proofs.lemmas.Int.{ints}
use Rattle.numbers.specs.Worth.{signed, distance}
use Rattle.numbers.proofs.Near.{gap, Near}

pub record SignedNear (E : Type 0) (g n y : ℤ) : Type 0 where
  pub near : distance g n ≤ distance y n
  pub tied : distance y n ≡ distance g n → (y ≡ g) ⊎ E

distance_same : (s : Bool) (a b : ℕ) → distance (signed s a) (signed s b) ≡ gap a b
distance_same false a b = omega (arith, ints)
distance_same true a b = omega (arith, ints)

distance_apart : (s : Bool) (a b : ℕ) → distance (signed (not s) a) (signed s b) ≡ a + b
distance_apart false a b = omega (arith, ints)
distance_apart true a b = omega (arith, ints)

signed_zero : (s t : Bool) (g : ℕ) → 0 ≡ g → signed s 0 ≡ signed t g
signed_zero false false g e = ap pos e
signed_zero false true g e = ap (λ (z : ℕ). neg_ℤ (pos z)) e
signed_zero true false g e = ap pos e
signed_zero true true g e = ap (λ (z : ℕ). neg_ℤ (pos z)) e

-- a y on n's side
with_sign : (E : Type 0) (s : Bool) (g n y : ℕ) → Near E g n y → SignedNear E (signed s g) (signed s n) (signed s y)
with_sign E s g n y h =
    let p : distance (signed s g) (signed s n) ≡ gap g n = distance_same s g n in
    let q : distance (signed s y) (signed s n) ≡ gap y n = distance_same s y n in
    elim h [
      | inl l ↦ record { near = omega arith; tied = λ e. absurd (omega arith) }
      | inr l ↦ record { near = omega (arith, l.0); tied = λ e. elim l.1 [ inl k ↦ inl (ap (signed s) k) | inr k ↦ inr k ] }
    ]

-- a y on the other side is no nearer than 0
across : (E : Type 0) (s : Bool) (g n y : ℕ) → Near E g n 0 → SignedNear E (signed s g) (signed s n) (signed (not s) y)
across E s g n y h =
    let p : distance (signed s g) (signed s n) ≡ gap g n = distance_same s g n in
    let q : distance (signed (not s) y) (signed s n) ≡ y + n = distance_apart s y n in
    elim h [
      | inl l ↦ record { near = omega arith; tied = λ e. absurd (omega arith) }
      | inr l ↦
          record {
            near = omega (arith, l.0);
            tied = λ e.
                let z : 0 ≡ y = omega (arith, l.0) in
                elim l.1 [ inl k ↦ inl (ap (signed (not s)) (sym z) ∙ signed_zero (not s) s g k) | inr k ↦ inr k ];
          }
    ]

pub any_sign : (E : Type 0) (s t : Bool) (g n y : ℕ) → Near E g n y → Near E g n 0 → SignedNear E (signed s g) (signed s n) (signed t y)
any_sign E false false g n y h k = with_sign E false g n y h
any_sign E false true g n y h k = across E false g n y k
any_sign E true false g n y h k = across E true g n y k
any_sign E true true g n y h k = with_sign E true g n y h
