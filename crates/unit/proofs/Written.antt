-- What was written stands at the front of the tray that the caller lent.
use Rattle.std.proofs.Common.{◌≡◌, ℕ, ◌≤◌, List, ◌++◌, length, take, drop, Result, refl, ap, ap₂, ◌∙◌, length-append, length-drop, arith}
use Rattle.std.proofs.lemmas.List.{length-take, take-append-le}
use Rattle.std.proofs.lemmas.Slice.{drop-append-drop}
use Rattle.session.specs.declared.answers.Refusal.{Refusal}
use Rattle.session.specs.Model.{Model}
use Rattle.session.specs.Calls.{Called}
use Rattle.unit.specs.Steps.{Sent}
use Rattle.unit.specs.Units.{InTray}

pub sent_within : (xs : List ℕ) (n : ℕ) (tray : List ℕ) → Sent xs n tray → n ≤ length tray
sent_within xs n tray s =
    let l : length (take n tray) ≡ length xs = ap length s.bytes in
    omega (arith, l, s.count, length-take n tray)

-- bytes behind it do not matter
pub sent_front : (xs : List ℕ) (n : ℕ) (tray behind : List ℕ) → Sent xs n tray → take n (tray ++ behind) ≡ xs
sent_front xs n tray behind s = take-append-le n tray behind (sent_within xs n tray s) ∙ s.bytes

-- a call that writes nothing leaves its tray
pub untouched : (tray : List ℕ) → InTray 0 tray tray
untouched tray = record { within = omega arith; most = omega arith; size = refl; behind = refl }

-- a call writes to the first 2,055 bytes
pub in_front : (xs : List ℕ) (n : ℕ) (front tray : List ℕ) → length (front ++ drop 2055 tray) ≡ length tray → 2055 ≤ length tray
    → Sent xs n front → InTray n tray (front ++ drop 2055 tray)
in_front xs n front tray e l s =
    let w = sent_within xs n front s in
    let k : length front ≡ 2055 = omega (arith, length-append front (drop 2055 tray), length-drop 2055 tray) in
    record { within = omega arith; most = omega arith; size = e; behind = drop-append-drop 2055 tray front 2055 (omega arith) k }

-- what a call did, part by part
pub parts : {A : Type 0} (k l : Model) (o p : List ℕ) (a b : Result A Refusal) → k ≡ l → o ≡ p → a ≡ b
    → ◌≡◌ {A = Called A} (k, o, a) (l, p, b)
parts {A = A} k l o p a b e f h = ap₂ (λ x (y : List ℕ × Result A Refusal). (x, y.0, y.1)) e (ap₂ (λ x y. (x, y)) f h)
