-- How many bytes are dropped: step by step, and in the words of the protocol.
use Rattle.std.proofs.Common.{◌≡◌, ℕ, zero, suc, ◌+◌, ◌<◌, ◌≤◌, true, List, [], ◌∷◌, length, drop, Some, None, Option, sym, refl, ap, ◌∙◌, subst, zero-add, arith}
use Rattle.std.proofs.lemmas.List.{drop-drop, length-drop}
use Rattle.std.proofs.lemmas.Bool.{eqb-true, eq-eqb, false≢true}
use Rattle.xbus.specs.declared.front.Front.{Front}
use Rattle.xbus.specs.declared.front.Front.TheVariants.{Whole, Waits, Wrong}
use Rattle.xbus.specs.Numbers.{Bytes}
use Rattle.xbus.specs.Front.{front_of}
use Rattle.xbus.specs.Frames.{Neither, FrontSaid}
use Rattle.stream.specs.Settling.{unless_wrong, dropped, settled, front_by, is_front_by, Settles}
use Rattle.xbus.proofs.Cases.{front_said}
use Rattle.xbus.proofs.Fronts.{waits_not_wrong, whole_not_wrong}

pub wrong_some : (xs : List ℕ) → front_of xs ≡ Wrong → 0 < length xs
wrong_some [] e = absurd (waits_not_wrong e)
wrong_some (x ∷ xs) e = omega arith

pub dropped_wrong : (xs : List ℕ) → front_of xs ≡ Wrong → dropped xs ≡ 1 + dropped (drop 1 xs)
dropped_wrong [] e = absurd (waits_not_wrong e)
dropped_wrong (x ∷ xs) e = ap (λ w. unless_wrong w 0 (1 + dropped xs)) e

pub dropped_none : (xs : List ℕ) → (front_of xs ≡ Wrong → ⊥) → dropped xs ≡ 0
dropped_none [] n = refl
dropped_none (x ∷ xs) n = by (front_of (x ∷ xs)) n
  where
    by : (w : Front) → (w ≡ Wrong → ⊥) → unless_wrong w 0 (1 + dropped xs) ≡ 0
    by (Whole k) n = refl
    by Waits n = refl
    by Wrong n = absurd (n refl)

-- what waits is settled
pub settled_waits : (xs : List ℕ) → front_of xs ≡ Waits → settled xs ≡ xs
settled_waits xs e = ap (λ k. drop k xs) (dropped_none xs (λ w. waits_not_wrong (sym e ∙ w)))

pub dropped_within : (xs : List ℕ) → dropped xs ≤ length xs
dropped_within [] = omega arith
dropped_within (x ∷ xs) = by (front_of (x ∷ xs)) (dropped_within xs)
  where
    by : (w : Front) → dropped xs ≤ length xs → unless_wrong w 0 (1 + dropped xs) ≤ length (x ∷ xs)
    by (Whole n) h = omega arith
    by Waits h = omega arith
    by Wrong h = omega arith

-- ---- a front by the size of its frame

pub is_front_by_lem : (w : Front) (o : Option ℕ) → is_front_by w o ≡ true → w ≡ front_by o
is_front_by_lem (Whole n) (Some m) e = ap Whole (eqb-true n m e)
is_front_by_lem (Whole n) None e = absurd (false≢true e)
is_front_by_lem Waits (Some m) e = absurd (false≢true e)
is_front_by_lem Waits None e = refl
is_front_by_lem Wrong o e = absurd (false≢true e)

pub front_by_is : (w : Front) (o : Option ℕ) → w ≡ front_by o → is_front_by w o ≡ true
front_by_is w (Some n) e = ap (λ v. is_front_by v (Some n)) e ∙ eq-eqb n n refl
front_by_is w None e = ap (λ v. is_front_by v None) e

-- ---- a search for the place, one start after the other

-- the n bytes in front are to be dropped
pub record Reached (xs : List ℕ) (n : ℕ) : Type 0 where
  pub within : n ≤ length xs
  pub count : dropped xs ≡ n + dropped (drop n xs)

pub not_wrong : (whole : Option ℕ) → front_by whole ≡ Wrong → ⊥
not_wrong (Some n) e = whole_not_wrong n e
not_wrong None e = waits_not_wrong e

pub reached_none : (xs : List ℕ) → Reached xs 0
reached_none xs = record { within = omega arith; count = sym (zero-add (dropped xs)) }

pub reached_less : (xs : List ℕ) (n : ℕ) → Reached xs n → front_of (drop n xs) ≡ Wrong → n < length xs
reached_less xs n r e = omega (arith, wrong_some (drop n xs) e, length-drop n xs)

pub reached_more : (xs : List ℕ) (n : ℕ) → Reached xs n → front_of (drop n xs) ≡ Wrong → Reached xs (n + 1)
reached_more xs n r e =
    let d : dropped (drop 1 (drop n xs)) ≡ dropped (drop (n + 1) xs) = ap dropped (drop-drop 1 n xs) in
    let s = dropped_wrong (drop n xs) e in
    record { within = omega (arith, reached_less xs n r e); count = omega (arith, r.count) }

-- a frame, or what waits, stands at the place that is reached
module _ (xs : List ℕ) (n : ℕ) (r : Reached xs n) (whole : Option ℕ) (here : front_by whole ≡ front_of (drop n xs)) where
  pub reached_all : n ≡ dropped xs
  reached_all = omega (arith, r.count, dropped_none (drop n xs) (λ z. not_wrong whole (here ∙ z)))

  pub reached_front : front_by whole ≡ front_of (settled xs)
  reached_front = here ∙ ap (λ k. front_of (drop k xs)) reached_all

-- ---- in the words of the protocol

module _ (x : ℕ) (xs : List ℕ) where
  first_wrong : Settles xs (dropped xs) → Neither (x ∷ xs) → Settles (x ∷ xs) (1 + dropped xs)
  first_wrong s n =
      let e : 1 + dropped xs ≡ suc (dropped xs) = omega arith in
      subst (Settles (x ∷ xs)) (sym e) (record { within = omega (arith, s.within); before = before; here = s.here })
    where
      before : (k : ℕ) → k < suc (dropped xs) → Neither (drop k (x ∷ xs))
      before zero l = n
      before (suc k) l = s.before k (omega arith)

  first_rests : (Neither (x ∷ xs) → ⊥) → Settles (x ∷ xs) 0
  first_rests n = record { within = omega arith; before = λ k l. absurd (omega arith); here = n }

module _ (x : ℕ) (xs : List ℕ) (said : FrontSaid (x ∷ xs)) (behind : Settles xs (dropped xs)) where
  settles_more : (w : Front) → front_of (x ∷ xs) ≡ w → Settles (x ∷ xs) (unless_wrong w 0 (1 + dropped xs))
  settles_more (Whole n) e = first_rests x xs (λ no. whole_not_wrong n (sym e ∙ said.is_wrong no))
  settles_more Waits e = first_rests x xs (λ no. waits_not_wrong (sym e ∙ said.is_wrong no))
  settles_more Wrong e = first_wrong x xs behind (said.wrong e)

pub settles : (xs : List ℕ) → Bytes xs → Settles xs (dropped xs)
settles [] bs = record {
  within = omega arith;
  before = λ k l. absurd (omega arith);
  here = λ n. waits_not_wrong ((front_said [] bs).is_wrong n);
}
settles (x ∷ xs) bs = settles_more x xs (front_said (x ∷ xs) bs) (settles xs bs.1) (front_of (x ∷ xs)) refl
