-- What stands at each place of an image.
use Rattle.std.proofs.Common.{◌≡◌, ℕ, ◌+◌, ◌-◌, ◌*◌, ◌/◌, ◌<◌, ◌≤◌, ◌⊎◌, List, length, get_or, ap, ◌∙◌, refl, inl, inr, ⊎_elim, arith}
use Rattle.std.proofs.ByRecursion.{All-get_or}
use Rattle.std.proofs.lemmas.Bool.{cases_lt, cases_eq}
use Rattle.std.proofs.lemmas.List.{length-map, get_or-map, get_or_past}
use Rattle.settings.specs.Values.{Values, entry}
use Rattle.settings.specs.Image.{fields_of, image_of}
use Rattle.settings.specs.Stored.{two_at, Placed, ImageSaid}
use Rattle.settings.proofs.Bounds.{Fit, Fits, fits}
use Rattle.settings.proofs.Spelt.{two_at as pair_at}
use Rattle.settings.proofs.Stores.{identifiers, frequencies, length_image, identifier_at, frequency_at}

-- two bytes that stand for 0 are 0
pair_zero : (xs : List ℕ) (at k : ℕ) → two_at xs at ≡ 0 → (k ≡ at) ⊎ (k ≡ at + 1) → get_or xs k 0 ≡ 0
pair_zero xs at k z (inl e) = ap (λ j. get_or xs j 0) e ∙ omega arith
pair_zero xs at k z (inr e) = ap (λ j. get_or xs j 0) e ∙ omega arith

-- the place of a pair that k is in
pair_of : (at k : ℕ) → at ≤ k → (k ≡ at + 2 * ((k - at) / 2)) ⊎ (k ≡ at + 2 * ((k - at) / 2) + 1)
pair_of at k h =
    ⊎_elim (λ e. inl e) (λ n. inr (omega arith)) (cases_eq k (at + 2 * ((k - at) / 2)))

module _ (c : Values) (f : Fits c) where
  identifier_fits : (i : ℕ) → get_or (identifiers c) i 0 < 65536
  identifier_fits i =
      ⊎_elim
      (λ l. omega (arith, (All-get_or Fit c.entries i (entry 0 0) l f.each).0, get_or-map (λ e. e.identifier) c.entries i (entry 0 0) 0 l))
      (λ l. omega (arith, get_or_past (identifiers c) i 0 (omega (arith, length-map c.entries (λ e. e.identifier)))))
      (cases_lt i (length c.entries))

  frequency_fits : (i : ℕ) → get_or (frequencies c) i 0 < 65536
  frequency_fits i =
      ⊎_elim
      (λ l. omega (arith, (All-get_or Fit c.entries i (entry 0 0) l f.each).1, get_or-map (λ e. e.frequency) c.entries i (entry 0 0) 0 l))
      (λ l. omega (arith, get_or_past (frequencies c) i 0 (omega (arith, length-map c.entries (λ e. e.frequency)))))
      (cases_lt i (length c.entries))

  -- the two bytes of each place

  identifier_two : (i : ℕ) → i < 32 → two_at (image_of c) (12 + 2 * i) ≡ get_or (identifiers c) i 0
  identifier_two i h =
      pair_at (image_of c) (12 + 2 * i) (omega (arith, length_image c)) ∙ identifier_at c i h (identifier_fits i)

  frequency_two : (i : ℕ) → i < 32 → two_at (image_of c) (76 + 2 * i) ≡ get_or (frequencies c) i 0
  frequency_two i h =
      pair_at (image_of c) (76 + 2 * i) (omega (arith, length_image c)) ∙ frequency_at c i h (frequency_fits i)

  no_identifier : (k : ℕ) → 12 + 2 * length c.entries ≤ k → k < 76 → get_or (image_of c) k 0 ≡ 0
  no_identifier k h l =
      let i : ℕ = (k - 12) / 2 in
      let none = get_or_past (identifiers c) i 0 (omega (arith, length-map c.entries (λ e. e.identifier))) in
      pair_zero (image_of c) (12 + 2 * i) k (identifier_two i (omega arith) ∙ none) (pair_of 12 k (omega arith))

  no_frequency : (k : ℕ) → 76 + 2 * length c.entries ≤ k → k < 140 → get_or (image_of c) k 0 ≡ 0
  no_frequency k h l =
      let i : ℕ = (k - 76) / 2 in
      let none = get_or_past (frequencies c) i 0 (omega (arith, length-map c.entries (λ e. e.frequency))) in
      pair_zero (image_of c) (76 + 2 * i) k (frequency_two i (omega arith) ∙ none) (pair_of 76 k (omega arith))

  -- the fields compute to the bytes of their numbers
  placed : Placed c (image_of c)
  unfolding image_of fields_of
  placed = record {
    size = length_image c;
    first = refl;
    count = omega (arith, f.few);
    baud = omega (arith, f.baud);
    profile = omega (arith, f.profile);
    error_mode = omega (arith, f.error_mode);
    location = omega (arith, f.location);
    flags = omega (arith, f.flags);
    identifier = λ i d h. identifier_two i (omega (arith, f.few)) ∙ get_or-map (λ e. e.identifier) c.entries i d 0 h;
    frequency = λ i d h. frequency_two i (omega (arith, f.few)) ∙ get_or-map (λ e. e.frequency) c.entries i d 0 h;
    no_identifier = no_identifier;
    no_frequency = no_frequency;
  }

pub image_said : ImageSaid
image_said c v = placed c (fits c v)
