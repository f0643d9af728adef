-- The outputs that bytes ask for, in words: exactly those that are computed.
use Rattle.std.proofs.Common.{◌≡◌, ℕ, zero, suc, ◌+◌, ◌*◌, ◌/◌, ◌<◌, ◌≤◌, true, false, ◌⊎◌, List, [], ◌∷◌, ◌++◌, map, length, Some, None, Decides, Option, sym, refl, ap, ◌∙◌, subst, inl, inr, ⊎_elim, arith}
use Rattle.std.specs.List.{AllByRecursion}
use Rattle.std.proofs.lemmas.Slice.Eq.{bytes_eq-Decides}
use Rattle.std.proofs.lemmas.Bool.{both_ways, cond_both, cases_Bool, cases_eq}
use Rattle.mti.specs.declared.product.Product.{Product}
use Rattle.mti.specs.declared.output.Output.{Output}
use Rattle.mti.specs.Exactly.{Exactly}
use Rattle.mti.specs.Identifiers.{Known, known_of}
use Rattle.mti.proofs.Exact.{exactly, none_not_some}
use Rattle.mti.proofs.Named.{known_complete}
use Rattle.mti.proofs.Rows.{orderly_table}
use Rattle.settings.specs.declared.record.Entry.{Entry}
use Rattle.settings.specs.Values.{Values, entry}
use Rattle.settings.specs.Rates.{Divides, Largest, largest_divisor}
use Rattle.settings.specs.Rules.{Offered}
use Rattle.settings.specs.Valid.{valid}
use Rattle.settings.specs.View.{checked_of}
use Rattle.settings.proofs.Divisors.{divisor_pos, divisor_said}
use Rattle.settings.proofs.Judged.{valid_passed}
use Rattle.settings.proofs.Worded.{entries_each}
use Rattle.decision.specs.Asked.{Outputs}
use Rattle.decision.specs.Decided.{fits_entries}
use Rattle.decision.proofs.Carried.{fits_is, is_fits}
use Rattle.config.specs.Changed.{with_entries, entries_in, used_of, used, empties, asked_outputs, checked_outputs, changed_of}
use Rattle.config.specs.After.{Spelt, none, more, Lists, emptied, entries, After}
use Rattle.config.proofs.Entered.{outputs_asked}
use Rattle.config.proofs.Edits.{checked_some, checked_is}

-- f is the frequency used where g Hz are asked of what i names
abbrev Fitting : ℕ → ℕ → ℕ → Type 0
Fitting i g f = (o : Output) → Known i o → Largest o.channel.max_hz g f

used_known : (i g : ℕ) (o : Output) → Known i o → used (entry i g) ≡ entry i (largest_divisor o.channel.max_hz g)
unfolding used
used_known i g o k = ap (λ (x : Option Output). used_of x (entry i g)) (known_complete i o k)

used_identifier : (o : Option Output) (e : Entry) → (used_of o e).identifier ≡ e.identifier
used_identifier None e = refl
used_identifier (Some o) e = refl

some_hz : {i : ℕ} (o : Output) → Known i o → 0 < o.channel.max_hz
some_hz o k = (orderly_table.regular o.channel k.row).some_hz

-- an entry that the product offers
used_fitting : (p : Product) (i g : ℕ) → Offered p (used (entry i g)) → (f : ℕ) × (used (entry i g) ≡ entry i f) × Fitting i g f
unfolding used
used_fitting p i g w =
    let o = w.output in
    let m = o.channel.max_hz in
    let k : Known i o = subst (λ (j : ℕ). Known j o) (used_identifier (known_of i) (entry i g)) w.known in
    let e = used_known i g o k in
    let f = largest_divisor m g in
    let d : Divides f m = subst (λ (x : Entry). Divides x.frequency m) e w.divides in
    let some : 0 < f = divisor_pos m f (some_hz o k) d in
    let asked : 0 < g =
    ⊎_elim (λ (z : g ≡ 0). absurd (omega (arith, some, ap (largest_divisor m) z, divisor_said.none m))) (λ z. omega arith) (cases_eq g 0) in (
      f,
      e,
      λ q h.
          let same : o ≡ q = let s : Some o ≡ Some q = sym (known_complete i o k) ∙ known_complete i q h in cc in
          subst (λ (x : Output). Largest x.channel.max_hz g f) same (divisor_said.is m g (some_hz o k) asked),
    )

fitting_used : (p : Product) (i g f : ℕ) → Offered p (entry i f) → Fitting i g f → used (entry i g) ≡ entry i f
fitting_used p i g f w h =
    let o = w.output in
    let k : Known i o = w.known in
    used_known i g o k ∙ ap (entry i) (sym (divisor_said.only o.channel.max_hz g f (some_hz o k) (h o k)))

-- the entries of bytes
spelt_used : (p : Product) (n : ℕ) (xs : List ℕ) → length xs ≡ 4 * n → AllByRecursion (Offered p) (map used (entries_in xs))
    → Spelt xs (map used (entries_in xs)) × (length (map used (entries_in xs)) ≡ n)
spelt_used p n [] e w = (none, omega arith)
spelt_used p n (a ∷ []) e w = absurd (omega arith)
spelt_used p n (a ∷ b ∷ []) e w = absurd (omega arith)
spelt_used p n (a ∷ b ∷ c ∷ []) e w = absurd (omega arith)
spelt_used p zero (a ∷ b ∷ c ∷ d ∷ xs) e w = absurd (omega arith)
spelt_used p (suc n) (a ∷ b ∷ c ∷ d ∷ xs) e w =
    let q = used_fitting p (a * 256 + b) (c * 256 + d) w.0 in
    let rest = spelt_used p n xs (omega arith) w.1 in (
      subst (λ (x : Entry). Spelt (a ∷ b ∷ c ∷ d ∷ xs) (x ∷ map used (entries_in xs))) (sym q.1) (more q.2 rest.0),
      ap suc rest.1,
    )

used_spelt : (p : Product) {xs : List ℕ} {es : List Entry} → Spelt xs es → AllByRecursion (Offered p) es
    → (map used (entries_in xs) ≡ es) × (length xs ≡ 4 * length es)
used_spelt p none w = (refl, omega arith)
used_spelt p (more {a} {b} {c} {d} {f} {xs} {es} u s) w =
    let rest = used_spelt p s w.1 in
    let e = fitting_used p (a * 256 + b) (c * 256 + d) f w.0 u in
    ((λ i. e i ∷ rest.0 i), omega (arith, rest.1))

abbrev Zeros : List ℕ → Type 0
Zeros xs = xs ≡ 0 ∷ 0 ∷ 0 ∷ 0 ∷ []

pub lists_by : {xs : List ℕ} {es : List Entry} → Lists xs es
    → (Zeros xs × (es ≡ [])) ⊎ ((Zeros xs → ⊥) × Spelt xs es × (1 ≤ length es) × (length es ≤ 32))
lists_by emptied = inl (refl, refl)
lists_by (entries z s l h) = inr (z, s, l, h)

empties_is : (xs : List ℕ) → Decides (empties xs) (Zeros xs)
empties_is xs = bytes_eq-Decides xs (0 ∷ 0 ∷ 0 ∷ 0 ∷ [])

-- the entries of valid settings are offered
pub offered : (c d : Values) (es : List Entry) → d ≡ with_entries c es → valid d ≡ true → AllByRecursion (Offered c.product) es
offered c d es e v = entries_each c.product es (valid_passed (with_entries c es) (sym (ap valid e) ∙ v)).entries

pub outputs_sound : (c : Values) (xs : List ℕ) (d : Values) → changed_of c (Outputs xs) ≡ Some d → After c (Outputs xs) d × (valid d ≡ true)
unfolding changed_of asked_outputs
outputs_sound c xs d =
    let Said : Type 0 = After c (Outputs xs) d × (valid d ≡ true) in
    cond_both (fits_entries (length xs)) _ None (λ o. checked_outputs c o ≡ Some d → Said)
    (λ f.
    cond_both (empties xs) [] (map used (entries_in xs)) (λ es. checked_of (with_entries c es) ≡ Some d → Said)
    (λ t e.
    let p = checked_some (with_entries c []) d e in
    (([], subst (λ (ys : List ℕ). Lists ys []) (sym ((empties_is xs).0 t)) emptied, p.0), p.1))
    (λ t e.
    let es = map used (entries_in xs) in
    let p = checked_some (with_entries c es) d e in
    let g = fits_is (length xs) f in
    let s = spelt_used c.product (length xs / 4) xs (omega arith) (offered c d es p.0 p.1) in
    let no : Zeros xs → ⊥ = λ z. both_ways (empties xs) t ((empties_is xs).1 z) in
    ((es, entries no s.0 (omega (arith, s.1)) (omega (arith, s.1)), p.0), p.1)))
    (λ f e. absurd (none_not_some d e))

outputs_complete : (c : Values) (xs : List ℕ) (d : Values) → After c (Outputs xs) d × (valid d ≡ true) → changed_of c (Outputs xs) ≡ Some d
unfolding changed_of
outputs_complete c xs d h =
    let es = h.0.0 in
    ⊎_elim
    (λ z.
    let asked : Some [] ≡ asked_outputs xs =
    outputs_asked xs true (is_fits (length xs) 1 (ap length z.0) (omega arith) (omega arith)) ((empties_is xs).1 z.0) in
    sym (ap (checked_outputs c) asked) ∙ checked_is (with_entries c []) d (h.0.2 ∙ ap (with_entries c) z.1) h.1)
    (λ z.
    let u = used_spelt c.product z.1 (offered c d es h.0.2 h.1) in
    let no : empties xs ≡ false =
    ⊎_elim (λ t. absurd (z.0 ((empties_is xs).0 t))) (λ f. f) (cases_Bool (empties xs)) in
    let asked : Some (map used (entries_in xs)) ≡ asked_outputs xs =
    outputs_asked xs false (is_fits (length xs) (length es) u.1 z.2 z.3) no in
    sym (ap (checked_outputs c) asked) ∙ checked_is (with_entries c (map used (entries_in xs))) d (h.0.2 ∙ ap (with_entries c) (sym u.0)) h.1)
    (lists_by h.0.1)

pub outputs_exactly : (c : Values) (xs : List ℕ)
    → Exactly (λ d. After c (Outputs xs) d × (valid d ≡ true)) (changed_of c (Outputs xs))
outputs_exactly c xs = exactly _ (changed_of c (Outputs xs)) (outputs_sound c xs) (outputs_complete c xs)

-- no divisor is 0
pub zero_spelt : (p : Product) (n : ℕ) (before after : List ℕ) (a b : ℕ) {es : List Entry} → length before ≡ 4 * n
    → Spelt (before ++ (a ∷ b ∷ 0 ∷ 0 ∷ after)) es → AllByRecursion (Offered p) es → ⊥
zero_spelt p n [] after a b e (more u s) w =
    let o = w.0.output in
    let k = w.0.known in
    let l = u o k in
    omega (arith, divisor_pos o.channel.max_hz _ (some_hz o k) l.divides, l.within)
zero_spelt p n (w ∷ []) after a b e s o = omega arith
zero_spelt p n (w ∷ x ∷ []) after a b e s o = omega arith
zero_spelt p n (w ∷ x ∷ y ∷ []) after a b e s o = omega arith
zero_spelt p zero (w ∷ x ∷ y ∷ z ∷ before) after a b e s o = omega arith
zero_spelt p (suc n) (w ∷ x ∷ y ∷ z ∷ before) after a b e (more u s) o = zero_spelt p n before after a b (omega arith) s o.1
