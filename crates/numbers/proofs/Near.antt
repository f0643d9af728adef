-- The nearest multiple of a number, and the nearest number with few digits, by distance and with ties to even.
use Rattle.std.proofs.Common.{◌≡◌, ℕ, suc, ◌+◌, ◌-◌, ◌*◌, ◌/◌, ◌%◌, ◌^◌, ◌<◌, ◌≤◌, not, T, eqb, ◌⊎◌, sym, ap, ◌∙◌, subst, inl, inr, le_trans, le_of_eq, lt_of_lt_of_le, mul-le-mul_right, mod-lt, mul_assoc, suc-mul, mul-lt-mul_of_pos_right, div-add-mod', arith, eqb→eq, leb→le, pow_pos, pow_mono, pow-add}
use Prim.Native.Nat.{compare, Ordering}
use lib.Dec.{is_le, compare_is_eq, nleb→lt, eqb_refl}
use lib.Arith.{lt_of_le-ne}
use lib.Ieee.{nearest, size}
use lib.Ieee.Digits.{size_reaches, back}
use lib.Ieee.Nearest.{closest}
use Rattle.std.proofs.lemmas.Bool.{cases_lt}

pub le_or_lt : (m n : ℕ) → (m ≤ n) ⊎ (n < m)
le_or_lt m n = elim (cases_lt n m) [ inl h ↦ inr h | inr h ↦ inl h ]

pub split_pow : (m j k : ℕ) → k ≤ j → m * 2 ^ (j - k) * 2 ^ k ≡ m * 2 ^ j
split_pow m j k h =
    mul_assoc m (2 ^ (j - k)) (2 ^ k)
    ∙ ap (λ (x : ℕ). m * x) (sym (pow-add 2 (j - k) k) ∙ ap (λ (x : ℕ). 2 ^ x) (back j k h))

abbrev pub gap : ℕ → ℕ → ℕ
gap x y = x - y + (y - x)

-- g is as near to n as y is, and E holds where it is not nearer and is not y
abbrev pub Near : Type 0 → ℕ → ℕ → ℕ → Type 0
Near E g n y = (gap g n < gap y n) ⊎ ((gap g n ≡ gap y n) × ((y ≡ g) ⊎ E))

-- ---- what a comparison says

abbrev Compared : Ordering → ℕ → ℕ → Type 0
Compared Ordering.lt a b = a < b
Compared Ordering.eq a b = a ≡ b
Compared Ordering.gt a b = b < a

compared : (a b : ℕ) → Compared (compare a b) a b
compared a b =
    go (compare a b) (leb→le a b) (nleb→lt a b) (eqb→eq a b)
    (λ (e : a ≡ b). subst (λ (x : ℕ). T (eqb a x)) e (eqb_refl a))
  where
    go : (o : Ordering) → (T (is_le o) → a ≤ b) → (T (not (is_le o)) → b < a) → (T (compare_is_eq o) → a ≡ b)
        → (a ≡ b → T (compare_is_eq o)) → Compared o a b
    go Ordering.lt h k e n = lt_of_le-ne (h tt) n
    go Ordering.eq h k e n = e tt
    go Ordering.gt h k e n = k tt

-- ---- n = w * u + m against a multiple r * u, by how 2 * m compares with u: wu and ru are the products

-- r * u lies at or below w * u, or at or above the next multiple
abbrev Aside : ℕ → ℕ → ℕ → Type 0
Aside wu ru u = (ru ≤ wu) ⊎ (wu + u ≤ ru)

near_below : (E : Type 0) (wu ru u m n : ℕ) → wu + m ≡ n → m * 2 < u → Aside wu ru u → Near E wu n ru
near_below E wu ru u m n e h (inl r) = elim (le_or_lt wu ru) [
  | inl k ↦ inr (omega arith, inl (omega arith))
  | inr k ↦ inl (omega arith)
]
near_below E wu ru u m n e h (inr r) = inl (omega arith)

near_above : (E : Type 0) (wu ru u m n : ℕ) → wu + m ≡ n → m < u → u < m * 2 → Aside wu ru u → Near E (wu + u) n ru
near_above E wu ru u m n e l h (inl r) = inl (omega arith)
near_above E wu ru u m n e l h (inr r) = elim (le_or_lt ru (wu + u)) [
  | inl k ↦ inr (omega arith, inl (omega arith))
  | inr k ↦ inl (omega arith)
]

near_tie : (E : Type 0) (g wu ru u m n : ℕ) → E → wu + m ≡ n → m * 2 ≡ u → Aside wu ru u
    → (g ≡ wu) ⊎ (g ≡ wu + u) → Near E g n ru
near_tie E g wu ru u m n x e h r k = elim (le_or_lt (gap ru n) (gap g n)) [
  | inl p ↦ inr (omega arith, inr x)
  | inr p ↦ inl p
]

aside : (w r u : ℕ) → Aside (w * u) (r * u) u
aside w r u = elim (le_or_lt r w) [
  | inl h ↦ inl (mul-le-mul_right u h)
  | inr h ↦ inr (le_trans (le_of_eq (sym (suc-mul w u))) (mul-le-mul_right u h))
]

-- of w and the number after it, the even one
to_even : (w : ℕ) → ((w + w % 2 ≡ w) ⊎ (w + w % 2 ≡ suc w)) × ((w + w % 2) % 2 ≡ 0)
to_even w = (elim (le_or_lt 1 (w % 2)) [ inl h ↦ inr (omega arith) | inr h ↦ inl (omega arith) ], omega arith)

near_by : (w r u m n : ℕ) (o : Ordering) → Compared o (m * 2) u → w * u + m ≡ n → m < u
    → Near (nearest w o % 2 ≡ 0) (nearest w o * u) n (r * u)
near_by w r u m n Ordering.lt c e l = near_below (w % 2 ≡ 0) (w * u) (r * u) u m n e c (aside w r u)
near_by w r u m n Ordering.eq c e l =
    let t = to_even w in
    near_tie ((w + w % 2) % 2 ≡ 0) ((w + w % 2) * u) (w * u) (r * u) u m n t.1 e c (aside w r u) (elim t.0 [
      | inl k ↦ inl (ap (λ (z : ℕ). z * u) k)
      | inr k ↦ inr (ap (λ (z : ℕ). z * u) k ∙ suc-mul w u)
    ])
near_by w r u m n Ordering.gt c e l =
    subst (λ (g : ℕ). Near (suc w % 2 ≡ 0) g n (r * u)) (sym (suc-mul w u))
    (near_above (suc w % 2 ≡ 0) (w * u) (r * u) u m n e l c (aside w r u))

-- the multiple of u that `closest` picks, against any other
closest_near : (n u r : ℕ) → 0 < u → Near (closest n u % 2 ≡ 0) (closest n u * u) n (r * u)
closest_near n u r U =
    near_by (n / u) r u (n % u) n (compare (n % u * 2) u) (compared (n % u * 2) u) (div-add-mod' n u) (mod-lt n U)

-- a y below a multiple that is at most n is farther off than that multiple
farther : (E : Type 0) (g n z y : ℕ) → y < z → z ≤ n → Near E g n z → Near E g n y
farther E g n z y h k (inl p) = inl (omega arith)
farther E g n z y h k (inr p) = inl (omega (arith, p.0))

-- ---- the nearest number with at most p digits

-- the digits of n that are dropped
abbrev pub cut : ℕ → ℕ → ℕ
cut p n = size n - p

-- those that are kept, rounded
abbrev pub pick : ℕ → ℕ → ℕ
pick p n = closest n (2 ^ cut p n)

reached : (p n : ℕ) → 0 < p → 0 < cut p n → 2 ^ (p - 1 + cut p n) ≤ n
reached p n P h = size_reaches n (p - 1 + cut p n) (omega arith)

-- against any number with at most p digits and j zeros behind them
pub pick_near : (p n m j : ℕ) → 0 < p → m < 2 ^ p → Near (pick p n % 2 ≡ 0) (pick p n * 2 ^ cut p n) n (m * 2 ^ j)
pick_near p n m j P M = elim (le_or_lt (cut p n) j) [
  | inl h ↦
      let k = cut p n in
      subst (λ (y : ℕ). Near (pick p n % 2 ≡ 0) (pick p n * 2 ^ k) n y) (split_pow m j k h)
      (closest_near n (2 ^ k) (m * 2 ^ (j - k)) (pow_pos k))
  | inr h ↦
      let k = cut p n in
      let z = 2 ^ (p - 1) * 2 ^ k in
      let z_is : 2 ^ (p - 1 + k) ≡ z = pow-add 2 (p - 1) k in
      let y_lt : m * 2 ^ j < 2 ^ p * 2 ^ j = mul-lt-mul_of_pos_right M (pow_pos j) in
      let up : 2 ^ p * 2 ^ j ≤ z =
      le_trans (le_of_eq (sym (pow-add 2 p j))) (le_trans (pow_mono {i = p + j} {j = p - 1 + k} (omega arith)) (le_of_eq z_is)) in
      let z_le : z ≤ n = le_trans (le_of_eq (sym z_is)) (reached p n P (omega arith)) in
      farther (pick p n % 2 ≡ 0) (pick p n * 2 ^ k) n z (m * 2 ^ j) (lt_of_lt_of_le y_lt up) z_le
      (closest_near n (2 ^ k) (2 ^ (p - 1)) (pow_pos k))
]
