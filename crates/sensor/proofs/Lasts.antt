-- What recorded rows mean, in words.
use Rattle.std.proofs.Common.{◌≡◌, ℕ, Bool, true, false, cond, reverse, eqb, leb, ◌⊎◌, List, [], ◌∷◌, ℤ, Some, None, fold, Option, sym, refl, ap, ◌∙◌, subst, inl, inr, ⊎_elim, arith}
use Rattle.std.specs.List.{find}
use Rattle.std.specs.Option.{option_map, option_flatten, option_or}
use Rattle.std.proofs.lemmas.Grind.{reverse_onto}
use Rattle.std.proofs.lemmas.List.Folds.{find-append}
use Rattle.std.proofs.lemmas.Int.{ints}
use Rattle.std.proofs.lemmas.Bool.{cases_Bool, and_parts, and_from, eqb-true, eq-eqb, leb-true, le-leb, both_ways}
use Rattle.mti.specs.declared.channel.Kind.{Kind}
use Rattle.mti.specs.declared.channel.Kind.TheVariants.{Real, Whole}
use Rattle.sensor.specs.declared.records.Row.{Row}
use Rattle.sensor.specs.Questions.{asked_of, Asked}
use Rattle.sensor.specs.Ranges.{clamped_of, Clamped}
use Rattle.sensor.specs.Records.{counts_at, chosen_of, last_of, number_at, number_of, replayed_at, recorded_of, Counts, NoneCounts, Last, LastReading, Replayed}
use Rattle.sensor.proofs.Answered.{asked_sound, asked_complete}
use Rattle.sensor.proofs.Kept.{clamped_within}

-- ---- the clamp

pub clamped_in_words : (kind : Kind) (v : ℤ) → Clamped kind v (clamped_of kind v)
clamped_in_words (Real n) v = record {
  within = clamped_within (Real n) v;
  same = λ h. grind (arith, ints);
  below = λ h. grind (arith, ints);
  above = λ h. grind (arith, ints);
}
clamped_in_words (Whole w) v = record {
  within = clamped_within (Whole w) v;
  same = λ h. grind (arith, ints);
  below = λ h. grind (arith, ints);
  above = λ h. grind (arith, ints);
}

-- ---- the last row that counts

counts_true : (c t : ℕ) (r : Row) → counts_at c t r ≡ true → Counts c t r
counts_true c t r e =
    let p = and_parts (eqb r.channel c) (leb r.tick t) e in
    (eqb-true _ _ p.0, leb-true _ _ p.1)

counts_false : (c t : ℕ) (r : Row) → counts_at c t r ≡ false → Counts c t r → ⊥
counts_false c t r e h = both_ways (counts_at c t r) e (and_from _ _ (eq-eqb _ _ h.0) (le-leb _ _ h.1))

module _ (c t : ℕ) where
  -- the rows have none that counts and o is what was found before, or o is the last of them that counts
  abbrev Found : Option Row → List Row → Option Row → Type 0
  Found f rows o = (NoneCounts c t rows × (o ≡ f)) ⊎ ((r : Row) × Last c t rows r × (o ≡ Some r))

  last_more : (x : Row) (xs : List Row) (r : Row) → Last c t xs r → Last c t (x ∷ xs) r
  last_more x xs r l = record {
    before = x ∷ l.before;
    after = l.after;
    splits = ap (λ ys. x ∷ ys) l.splits;
    row_counts = l.row_counts;
    none_after = l.none_after;
  }

  found_more : (f : Option Row) (x : Row) (xs : List Row) (o : Option Row)
      → Found (chosen_of c t f x) xs o → Found f (x ∷ xs) o
  found_more f x xs o h =
      ⊎_elim
      (λ n.
      ⊎_elim
      (λ e.
      inr (
        x,
        record { before = []; after = xs; splits = refl; row_counts = counts_true c t x e; none_after = n.0 },
        n.1 ∙ rw e refl,
      ))
      (λ e. inl ((counts_false c t x e, n.0), n.1 ∙ rw e refl))
      (cases_Bool (counts_at c t x)))
      (λ s. inr (s.0, last_more x xs s.0 s.1, s.2))
      h

  found : (f : Option Row) (rows : List Row) → Found f rows (fold (chosen_of c t) f rows)
  found f [] = inl (tt, refl)
  found f (x ∷ xs) =
      let g = chosen_of c t f x in
      found_more f x xs (fold (chosen_of c t) g xs) (found g xs)

or_more : (a b f : Option Row) → option_or (option_or a b) f ≡ option_or a (option_or b f)
or_more None b f = refl
or_more (Some y) b f = refl

or_none : (a : Option Row) → a ≡ option_or a None
or_none None = refl
or_none (Some y) = refl

or_chosen : (b : Bool) (x : Row) (f : Option Row) → option_or (cond b (Some x) None) f ≡ cond b (Some x) f
or_chosen true x f = refl
or_chosen false x f = refl

-- what is found from the end, or else what was found before
from_end : (c t : ℕ) (f : Option Row) (rows : List Row)
    → option_or (find (counts_at c t) (reverse rows)) f ≡ fold (chosen_of c t) f rows
from_end c t f [] = refl
from_end c t f (x ∷ xs) =
    let p = counts_at c t in
    let found = find p (reverse xs) in
    ap (λ (ys : List Row). option_or (find p ys) f) (reverse_onto xs x [])
    ∙ ap (λ (o : Option Row). option_or o f) (find-append p (reverse xs) (x ∷ []))
    ∙ or_more found (find p (x ∷ [])) f
    ∙ ap (option_or found) (or_chosen (counts_at c t x) x f)
    ∙ from_end c t (chosen_of c t f x) xs

pub last_from_end : (c t : ℕ) (rows : List Row) → find (counts_at c t) (reverse rows) ≡ last_of c t rows
last_from_end c t rows = or_none _ ∙ from_end c t None rows

-- ---- the reading

-- from what was asked and the row that was found
pub recorded_is : (rows : List Row) (c k t : ℕ) (kind : Kind) (o : Option Row) → Some kind ≡ asked_of c k → o ≡ last_of c t rows
    → option_map (number_of kind k) o ≡ recorded_of rows c k t
unfolding recorded_of
recorded_is rows c k t kind o a e =
    ap (option_map (number_of kind k)) e
    ∙ ap (λ (x : Option Kind). option_flatten (option_map (replayed_at rows c k t) x)) a

pub recorded_not_asked : (rows : List Row) (c k t : ℕ) → None ≡ asked_of c k → None ≡ recorded_of rows c k t
unfolding recorded_of
recorded_not_asked rows c k t a = ap (λ (x : Option Kind). option_flatten (option_map (replayed_at rows c k t) x)) a

replayed_in_words : (rows : List Row) (c k t : ℕ) (kind : Kind) → LastReading rows c k t kind (replayed_at rows c k t kind)
replayed_in_words rows c k t kind =
    let read : Option Row → Option ℤ = option_map (number_of kind k) in
    ⊎_elim (λ n. inl (n.0, ap read n.1))
    (λ s. inr (s.0, number_of kind k s.0, s.1, clamped_in_words kind (number_at k s.0), ap read s.2))
    (found c t None rows)

asked_or_none : (c k : ℕ) (o : Option Kind) → asked_of c k ≡ o → ((kind : Kind) → Asked c k kind → ⊥) → o ≡ None
asked_or_none c k None e h = refl
asked_or_none c k (Some kind) e h = absurd (h kind (asked_sound c k kind e))

recorded_in_words : (rows : List Row) (c k t : ℕ) → Replayed rows c k t (recorded_of rows c k t)
unfolding recorded_of
recorded_in_words rows c k t =
    let read : Option Kind → Option ℤ = λ o. option_flatten (option_map (replayed_at rows c k t) o) in
    record {
      not_asked = λ h. ap read (asked_or_none c k (asked_of c k) refl h);
      asked = λ kind a.
          subst (LastReading rows c k t kind) (sym (ap read (asked_complete c k kind a))) (replayed_in_words rows c k t kind);
    }

-- the same, at an answer
pub answer_in_words : {rows : List Row} {c k t : ℕ} {r : Option ℤ} → r ≡ recorded_of rows c k t → Replayed rows c k t r
answer_in_words {rows} {c} {k} {t} e = subst (Replayed rows c k t) (sym e) (recorded_in_words rows c k t)
