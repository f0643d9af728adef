-- The table's rule, by one test that antt computes, and what looking into the table finds.
use Rattle.std.proofs.Common.{◌≡◌, ℕ, zero, suc, ◌%◌, ◌<◌, Bool, true, ◌&&◌, ◌||◌, eqb, ltb, leb, List, [], ◌∷◌, length, get_or, Some, Option, sym, refl, ap, ◌∙◌, inl, inr, ⊎_elim, arith}
use Rattle.std.specs.List.{Contains, AllByRecursion}
use Rattle.std.proofs.lemmas.List.Elements.{All-contains, All-from_recursion}
use Rattle.std.proofs.lemmas.Bool.{and_parts, or_cases, ltb-true, leb-true, eqb-true, eq-eqb, ne_eqb, cond-true, cond-false, cond_both}
use Rattle.mti.specs.declared.channel.Kind.{Kind}
use Rattle.mti.specs.declared.channel.Kind.TheVariants.{Real, Whole}
use Rattle.mti.specs.declared.channel.Channel.{Channel}
use Rattle.mti.specs.Channels.{channels, channel_of, first_of}
use Rattle.mti.specs.Exactly.{Exactly}
use Rattle.mti.specs.Table.{Row, Bearer, Moderate, Regular, Orderly}
use Rattle.mti.proofs.Exact.{exactly, none_not_some}

abbrev moderate : Kind → Bool
moderate (Real n) = leb 1 n && leb n 9
moderate (Whole w) = eqb w 1 || (eqb w 2 || eqb w 4)

abbrev regular : Channel → Bool
regular c =
    ltb c.identifier 65536
    && (eqb (c.identifier % 16) 0
    && (moderate c.kind && (leb 1 c.max_hz && eqb (2000 % c.max_hz) 0)))

-- the rows are regular, and their identifiers rise from above n
abbrev orderly : ℕ → List Channel → Bool
orderly n [] = true
orderly n (c ∷ cs) = regular c && (ltb n c.identifier && orderly c.identifier cs)

moderate_is : (k : Kind) → moderate k ≡ true → Moderate k
moderate_is (Real n) t = let p = and_parts (leb 1 n) (leb n 9) t in (leb-true _ _ p.0, leb-true _ _ p.1)
moderate_is (Whole w) t =
    ⊎_elim (λ e. inl (eqb-true _ _ e))
    (λ o. inr (⊎_elim (λ e. inl (eqb-true _ _ e)) (λ e. inr (eqb-true _ _ e)) (or_cases (eqb w 2) (eqb w 4) o)))
    (or_cases (eqb w 1) (eqb w 2 || eqb w 4) t)

regular_is : (c : Channel) → regular c ≡ true → Regular c
regular_is c t =
    let p = and_parts (ltb c.identifier 65536) _ t in
    let q = and_parts (eqb (c.identifier % 16) 0) _ p.1 in
    let r = and_parts (moderate c.kind) _ q.1 in
    let s = and_parts (leb 1 c.max_hz) _ r.1 in
    record {
      two_bytes = ltb-true _ _ p.0;
      format_0 = eqb-true _ _ q.0;
      moderate = moderate_is c.kind r.0;
      some_hz = leb-true _ _ s.0;
      divides = eqb-true _ _ s.1;
    }

-- the three parts of the test at a row
parts : (n : ℕ) (c : Channel) (cs : List Channel) → orderly n (c ∷ cs) ≡ true
    → (regular c ≡ true) × (n < c.identifier) × (orderly c.identifier cs ≡ true)
parts n c cs t =
    let p = and_parts (regular c) _ t in
    let q = and_parts (ltb n c.identifier) _ p.1 in
    (p.0, ltb-true _ _ q.0, q.1)

all_regular : (n : ℕ) (cs : List Channel) → orderly n cs ≡ true → AllByRecursion Regular cs
all_regular n [] t = tt
all_regular n (c ∷ cs) t = let p = parts n c cs t in (regular_is c p.0, all_regular c.identifier cs p.2)

all_above : (n : ℕ) (cs : List Channel) → orderly n cs ≡ true → (k : ℕ) (d : Channel) → k < length cs → n < (get_or cs k d).identifier
all_above n [] t k d h = absurd (omega arith)
all_above n (c ∷ cs) t zero d h = (parts n c cs t).1
all_above n (c ∷ cs) t (suc k) d h =
    let p = parts n c cs t in
    let above : c.identifier < (get_or cs k d).identifier = all_above c.identifier cs p.2 k d (omega arith) in
    omega (arith, p.1)

all_rising : (n : ℕ) (cs : List Channel) → orderly n cs ≡ true → (j k : ℕ) (d : Channel) → j < k → k < length cs
    → (get_or cs j d).identifier < (get_or cs k d).identifier
all_rising n [] t j k d l h = absurd (omega arith)
all_rising n (c ∷ cs) t j zero d l h = absurd (omega arith)
all_rising n (c ∷ cs) t zero (suc k) d l h = all_above c.identifier cs (parts n c cs t).2 k d (omega arith)
all_rising n (c ∷ cs) t (suc j) (suc k) d l h =
    all_rising c.identifier cs (parts n c cs t).2 j k d (omega arith) (omega arith)

-- the one test over the whole table
table_orderly : orderly 0 channels ≡ true
table_orderly = refl

pub orderly_table : Orderly
orderly_table = record {
  regular = λ c r. All-contains Regular channels c (All-from_recursion Regular channels (all_regular 0 channels table_orderly)) r;
  rising = all_rising 0 channels table_orderly;
}

-- what is found is a row that bears the identifier
found_bears : (i : ℕ) (cs : List Channel) (c : Channel) → first_of i cs ≡ Some c → Contains cs c × (c.identifier ≡ i)
found_bears i [] c e = absurd (none_not_some c e)
found_bears i (x ∷ cs) c e =
    let P : Option Channel → Type 0 = λ r. r ≡ Some c → Contains (x ∷ cs) c × (c.identifier ≡ i) in
    cond_both (eqb x.identifier i) (Some x) (first_of i cs) P
    (λ t f. let same : x ≡ c = cc in ((0, omega arith, same), ap (λ (y : Channel). y.identifier) (sym same) ∙ eqb-true _ _ t))
    (λ t f. let rest = found_bears i cs c f in ((suc rest.0.0, omega (arith, rest.0.1), rest.0.2), rest.1))
    e

-- a row is found by its identifier, since those before it bear smaller ones
row_found : (n : ℕ) (cs : List Channel) → orderly n cs ≡ true → (c : Channel) (k : ℕ) → k < length cs → get_or cs k c ≡ c
    → first_of c.identifier cs ≡ Some c
row_found n [] t c k h e = absurd (omega arith)
row_found n (x ∷ cs) t c zero h e =
    cond-true _ _ _ (eq-eqb _ _ (ap (λ (y : Channel). y.identifier) e)) ∙ ap (λ (y : Channel). Some y) e
row_found n (x ∷ cs) t c (suc k) h e =
    let p = parts n x cs t in
    let above : x.identifier < (get_or cs k c).identifier = all_above x.identifier cs p.2 k c (omega arith) in
    let same : (get_or cs k c).identifier ≡ c.identifier = ap (λ (y : Channel). y.identifier) e in
    let other : x.identifier ≡ c.identifier → ⊥ = λ f. omega arith in
    cond-false _ _ _ (ne_eqb _ _ other) ∙ row_found x.identifier cs p.2 c k (omega arith) e

pub channel_of_row : (c : Channel) → Row c → channel_of c.identifier ≡ Some c
unfolding channel_of
channel_of_row c h = row_found 0 channels table_orderly c h.0 h.1 h.2

pub row_of_channel : (i : ℕ) (c : Channel) → channel_of i ≡ Some c → Bearer i c
unfolding channel_of
row_of_channel i c e = found_bears i channels c e

-- the channel of an identifier bears it
pub named_so : (i : ℕ) (c : Channel) → channel_of i ≡ Some c → record c { identifier = i } ≡ c
named_so i c e = ap (λ (n : ℕ). record c { identifier = n }) (sym (row_of_channel i c e).1)

pub channel_exactly : (i : ℕ) (r : Option Channel) → r ≡ channel_of i → Exactly (Bearer i) r
channel_exactly i r e =
    exactly (Bearer i) r (λ c f. row_of_channel i c (sym e ∙ f)) (λ c h. e ∙ ap channel_of (sym h.1) ∙ channel_of_row c h.0)
