-- The data of an output: what is computed is given in words, or absent in words.
use Rattle.std.proofs.Common.{◌≡◌, ℕ, zero, suc, ◌+◌, ◌*◌, ◌%◌, ◌^◌, ◌<◌, false, eqb, ◌⊎◌, List, [], ◌∷◌, get_or, ℤ, Some, None, Option, sym, refl, ap, ◌∙◌, subst, inl, inr, arith}
use Rattle.std.specs.List.{flat_map}
use Rattle.std.specs.Option.{option_map}
use Rattle.std.proofs.lemmas.Bool.{cond-false, or_parts}
use Rattle.xbus.specs.Numbers.{be, number_of}
use Rattle.xbus.proofs.Bytes.{bytes_be}
use Rattle.xbus.proofs.Widths.{inverse, length_be}
use Rattle.mti.specs.declared.channel.Kind.{Kind}
use Rattle.mti.specs.declared.channel.Kind.TheVariants.{Real, Whole}
use Rattle.mti.specs.declared.output.Output.{Output}
use Rattle.mti.specs.declared.precision.Precision.{Precision}
use Rattle.mti.proofs.Exact.{none_not_some, some_not_none}
use Rattle.numbers.specs.Encoding.{encoded, twos}
use Rattle.sensor.specs.Questions.{made_by_unit, count_of}
use Rattle.session.specs.declared.counts.Counts.{Counts}
use Rattle.session.specs.Model.{Meaning}
use Rattle.session.specs.Sampling.{reals_by, reals_from, whole_bytes, measured, data_of}
use Rattle.session.specs.Sampled.{Present, Data, counter, fine_time, coarse_time, status_byte, reals, whole, Absent, no_status, no_number}
use Rattle.session.proofs.Packed.{data_by_lem}

-- the lowest bytes are those of what is left modulo their range
pub low_bytes : (k n : ℕ) → be k (n % 256 ^ k) ≡ be k n
low_bytes k n =
    ap (λ (x : ℕ). be k x) (sym (inverse.number_back k n))
    ∙ ap (λ (x : ℕ). be x (number_of (be k n))) (sym (length_be k n)) ∙ inverse.bytes_back (be k n) (bytes_be k n)

abbrev Missing : (ℕ → Option ℤ) → ℕ → Type 0
Missing readings n = (k : ℕ) × (k < n) × (readings k ≡ None)

-- all readings are there, or one is not
present_or_missing : (readings : ℕ → Option ℤ) (n : ℕ) → ((vs : List ℤ) × Present readings n vs) ⊎ Missing readings n
present_or_missing readings zero = inl ([], record { many = refl; each = λ k d h. absurd (omega arith) })
present_or_missing readings (suc n) = by (readings 0) refl (present_or_missing (λ j. readings (suc j)) n)
  where
    each_of : (v : ℤ) (vs : List ℤ) → readings 0 ≡ Some v → Present (λ j. readings (suc j)) n vs
        → (k : ℕ) (d : ℤ) → k < suc n → readings k ≡ Some (get_or (v ∷ vs) k d)
    each_of v vs e p zero d h = e
    each_of v vs e p (suc k) d h = p.each k d (omega arith)

    by : (r : Option ℤ) → readings 0 ≡ r → ((vs : List ℤ) × Present (λ j. readings (suc j)) n vs) ⊎ Missing (λ j. readings (suc j)) n
        → ((vs : List ℤ) × Present readings (suc n) vs) ⊎ Missing readings (suc n)
    by None e x = inr (0, omega arith, e)
    by (Some v) e (inl p) = inl (v ∷ p.0, record { many = ap suc p.1.many; each = each_of v p.0 e p.1 })
    by (Some v) e (inr m) = inr (suc m.0, omega (arith, m.1), m.2)

reals_present : (readings : ℕ → Option ℤ) (p : Precision) (k n : ℕ) (vs : List ℤ) → Present (λ j. readings (k + j)) n vs
    → reals_from readings p k n ≡ Some (flat_map (encoded p) vs)
reals_present readings p k zero [] h = refl
reals_present readings p k zero (v ∷ vs) h = absurd (omega (arith, h.many))
reals_present readings p k (suc n) [] h = absurd (omega (arith, h.many))
reals_present readings p k (suc n) (v ∷ vs) h =
    let z : k ≡ k + 0 = omega arith in
    let here : readings k ≡ Some v = ap readings z ∙ h.each 0 v (omega arith) in
    let rest = reals_present readings p (k + 1) n vs
    (record {
      many = omega (arith, h.many);
      each = λ j d l. let s : k + 1 + j ≡ k + suc j = omega arith in ap readings s ∙ h.each (suc j) d (omega arith);
    }) in
    λ i. reals_by p (here i) (rest i)

all_present : (readings : ℕ → Option ℤ) (p : Precision) (n : ℕ) (vs : List ℤ) → Present readings n vs
    → reals_from readings p 0 n ≡ Some (flat_map (encoded p) vs)
all_present readings p n vs h =
    reals_present readings p 0 n vs
    (record { many = h.many; each = λ j d l. let z : 0 + j ≡ j = omega arith in ap readings z ∙ h.each j d l })

by_none : (p : Precision) (r : Option ℤ) → reals_by p r None ≡ None
by_none p None = refl
by_none p (Some v) = refl

pub reals_missing : (readings : ℕ → Option ℤ) (p : Precision) (k n j : ℕ) → j < n → readings (k + j) ≡ None → reals_from readings p k n ≡ None
reals_missing readings p k zero j h e = absurd (omega arith)
reals_missing readings p k (suc n) zero h e =
    let z : k ≡ k + 0 = omega arith in
    ap (λ (r : Option ℤ). reals_by p r (reals_from readings p (k + 1) n)) (ap readings z ∙ e)
reals_missing readings p k (suc n) (suc j) h e =
    let s : k + 1 + j ≡ k + suc j = omega arith in
    ap (reals_by p (readings k)) (reals_missing readings p (k + 1) n j (omega arith) (ap readings s ∙ e)) ∙ by_none p (readings k)

module _ (f : Meaning) (n : Counts) (o : Output) where
  -- what a sensor is asked for is measured
  is_measured : made_by_unit o.channel.identifier ≡ false
      → data_of f n o ≡ measured (λ k. f o.channel.identifier k n.number) o.precision o.channel.kind
  unfolding data_of
  is_measured u =
      let i : ℕ = o.channel.identifier in
      let a = or_parts (eqb i 0x1020) _ u in
      let b = or_parts (eqb i 0x1060) _ a.1 in
      let c = or_parts (eqb i 0x1070) _ b.1 in
      cond-false _ _ _ a.0 ∙ cond-false _ _ _ b.0 ∙ cond-false _ _ _ c.0 ∙ cond-false _ _ _ c.1

  pub data_there : (xs : List ℕ) → Data f n o xs → data_of f n o ≡ Some xs
  unfolding data_of
  data_there xs (counter e x) = rw (e, x)
  data_there xs (fine_time e x) = rw (e, x) (ap (λ (l : List ℕ). Some l) (sym (low_bytes 4 (5 * n.number))))
  data_there xs (coarse_time e x) = rw (e, x)
  data_there xs (status_byte v e r x) = rw (e, x, r)
  data_there xs (reals k vs u e p x) =
      is_measured u ∙ ap (measured _ o.precision) e ∙ all_present _ o.precision k vs p ∙ ap (λ (l : List ℕ). Some l) (sym x)
  data_there xs (whole w v u e r x) =
      is_measured u ∙ ap (measured _ o.precision) e ∙ ap (option_map (whole_bytes w)) r ∙ ap (λ (l : List ℕ). Some l) (sym x)

  number_absent : (kind : Kind) (k : ℕ) → k < count_of kind → f o.channel.identifier k n.number ≡ None
      → measured (λ j. f o.channel.identifier j n.number) o.precision kind ≡ None
  number_absent (Real m) k h e =
      let z : 0 + k ≡ k = omega arith in
      reals_missing _ o.precision 0 m k h (ap (λ (j : ℕ). f o.channel.identifier j n.number) z ∙ e)
  number_absent (Whole w) zero h e = ap (option_map (whole_bytes w)) e
  number_absent (Whole w) (suc k) h e = absurd (omega arith)

  pub data_absent : Absent f n o → data_of f n o ≡ None
  unfolding data_of
  data_absent (no_status e r) = rw (e, r)
  data_absent (no_number k u h r) = is_measured u ∙ number_absent o.channel.kind k h r

  -- one of the two always holds
  abbrev Either : Type 0
  Either = ((xs : List ℕ) × Data f n o xs) ⊎ Absent f n o

  status_or_absent : o.channel.identifier ≡ 0xE010 → (r : Option ℤ) → f 0xE020 0 n.number ≡ r → Either
  status_or_absent e None r = inr (no_status e r)
  status_or_absent e (Some v) r = inl (be 1 (twos 1 v), status_byte v e r refl)

  measured_or_absent : made_by_unit o.channel.identifier ≡ false → (kind : Kind) → o.channel.kind ≡ kind → Either
  measured_or_absent u (Real k) e = by (present_or_missing (λ j. f o.channel.identifier j n.number) k)
    where
      by : ((vs : List ℤ) × Present (λ j. f o.channel.identifier j n.number) k vs)
          ⊎ Missing (λ j. f o.channel.identifier j n.number) k → Either
      by (inl p) = inl (flat_map (encoded o.precision) p.0, reals k p.0 u e p.1 refl)
      by (inr m) = inr (no_number m.0 u (rw e m.1) m.2)
  measured_or_absent u (Whole w) e = by (f o.channel.identifier 0 n.number) refl
    where
      by : (r : Option ℤ) → f o.channel.identifier 0 n.number ≡ r → Either
      by None r = inr (no_number 0 u (rw e (omega arith)) r)
      by (Some v) r = inl (be w (twos w v), whole w v u e r refl)

  data_or_absent : Either
  data_or_absent =
      data_by_lem f n o (λ _. Either)
      (λ e. inl (be 2 n.sent, counter e refl))
      (λ e. inl (be 4 (5 * n.number % 2 ^ 32), fine_time e refl))
      (λ e. inl (be 4 n.seconds, coarse_time e refl))
      (λ e. status_or_absent e (f 0xE020 0 n.number) refl)
      (λ u. measured_or_absent u o.channel.kind refl)

  pub data_sound : (xs : List ℕ) → data_of f n o ≡ Some xs → Data f n o xs
  data_sound xs e = by data_or_absent
    where
      by : Either → Data f n o xs
      by (inl d) = let h = data_there d.0 d.1 in let same : d.0 ≡ xs = cc in subst (Data f n o) same d.1
      by (inr a) = absurd (none_not_some xs (sym (data_absent a) ∙ e))

  pub no_data : data_of f n o ≡ None → Absent f n o
  no_data e = by data_or_absent
    where
      by : Either → Absent f n o
      by (inl d) = absurd (some_not_none d.0 (sym (data_there d.0 d.1) ∙ e))
      by (inr a) = a
