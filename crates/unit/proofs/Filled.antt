-- What an answer leaves at the front of its array.
use Rattle.std.proofs.Common.{◌≡◌, ℕ, ◌≤◌, cond, Bool, true, false, leb, List, ◌++◌, length, take, drop, Some, None, refl, ap, ◌∙◌, arith}
use Rattle.std.proofs.lemmas.Bool.{leb-true}
use Rattle.std.proofs.Math.Seq.{take-append_seam}
use Rattle.config.specs.Answered.{count_in, laid_in}
use Rattle.unit.specs.Steps.{Sent}

fitted : (xs out : List ℕ) (n : ℕ) (b : Bool) → leb (length xs) (length out) ≡ b → Some n ≡ cond b (Some (length xs)) None
    → Sent xs n (cond b (xs ++ drop (length xs) out) out) × (n ≤ length out)
fitted xs out n true h e =
    let k : n ≡ length xs = cc in (
      record { count = k; bytes = ap (λ i. take i (xs ++ drop (length xs) out)) k ∙ take-append_seam xs (drop (length xs) out) },
      omega (arith, k, leb-true (length xs) (length out) h),
    )
fitted xs out n false h e = absurd (grind arith)

-- n bytes of out are xs, which fitted
pub laid : (xs out : List ℕ) (n : ℕ) → Some n ≡ count_in xs out → Sent xs n (laid_in xs out) × (n ≤ length out)
laid xs out n e = fitted xs out n (leb (length xs) (length out)) refl e
