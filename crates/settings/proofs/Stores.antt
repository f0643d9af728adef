-- What is stored is loaded, and nothing else is.
use Rattle.std.proofs.Common.{◌≡◌, ℕ, zero, suc, ◌+◌, ◌*◌, ◌^◌, ◌<◌, ◌≤◌, true, false, ◌&&◌, List, [], ◌∷◌, ◌++◌, map, length, get_or, take, Some, None, sym, refl, ap, ◌∙◌, subst, ⊎_elim, append_assoc, append-nil, add-one, arith, rules}
use Rattle.std.specs.Str.{bytes_eq}
use Rattle.std.proofs.ByRecursion.{All-get_or}
use Rattle.std.proofs.lemmas.Slice.Eq.{bytes_eq-Decides}
use Rattle.std.proofs.lemmas.List.{length-append, drop_at, take_at, take_more, take_all, get_or-map}
use Rattle.std.proofs.lemmas.Bool.{cases_eq, cases_Bool, cond-true, cond-false, and_from, and_parts}
use Rattle.mti.specs.declared.product.Product.{Product}
use Rattle.mti.proofs.Exact.{some_not_none, none_not_some}
use Rattle.xbus.specs.Numbers.{Bytes, be, number_of}
use Rattle.xbus.proofs.Bytes.{bytes_append, bytes_be}
use Rattle.xbus.proofs.Widths.{length_be, be_back}
use Rattle.settings.specs.Values.{Values, entry}
use Rattle.settings.specs.Valid.{valid}
use Rattle.settings.specs.Image.{places, fields_of, image_of, number_at, entry_at, entries_at, read_of, load_of}
use Rattle.settings.specs.Stored.{ImageOf, StoredSaid}
use Rattle.settings.proofs.Columns.{length_places}
use Rattle.settings.proofs.Bounds.{Fit, Fits, fits}

-- ---- the size of an image

length_fields : (c : Values) → length (fields_of c) ≡ 12
unfolding fields_of
length_fields c = refl

abbrev pub identifiers : Values → List ℕ
identifiers c = map (λ e. e.identifier) c.entries

abbrev pub frequencies : Values → List ℕ
frequencies c = map (λ e. e.frequency) c.entries

length_front : (c : Values) → length (fields_of c ++ places 32 (identifiers c)) ≡ 76
length_front c =
    length-append (fields_of c) (places 32 (identifiers c)) ∙ omega (arith, length_fields c, length_places 32 (identifiers c))

pub length_image : (c : Values) → length (image_of c) ≡ 140
unfolding image_of
length_image c =
    length-append (fields_of c ++ places 32 (identifiers c)) (places 32 (frequencies c))
    ∙ omega (arith, length_front c, length_places 32 (frequencies c))

-- ---- its bytes

bytes_places : (n : ℕ) (vs : List ℕ) → Bytes (places n vs)
unfolding places
bytes_places zero vs = tt
bytes_places (suc n) vs = bytes_append (places n vs) (be 2 (get_or vs n 0)) (bytes_places n vs) (bytes_be 2 (get_or vs n 0))

bytes_fields : (c : Values) → Bytes (fields_of c)
unfolding fields_of
bytes_fields c = search rules

bytes_image : (c : Values) → Bytes (image_of c)
unfolding image_of
bytes_image c =
    bytes_append (fields_of c ++ places 32 (identifiers c)) (places 32 (frequencies c))
    (bytes_append (fields_of c) (places 32 (identifiers c)) (bytes_fields c) (bytes_places 32 (identifiers c)))
    (bytes_places 32 (frequencies c))

-- ---- what it spells out

-- a number that its width holds is read as it was written, wherever it stands
number_here : (pre post : List ℕ) (at w v : ℕ) → length pre ≡ at → v < 256 ^ w → number_at (pre ++ (be w v ++ post)) at w ≡ v
number_here pre post at w v l h =
    ap (λ ys. number_of (take w ys)) (drop_at pre (be w v ++ post) at l)
    ∙ ap number_of (take_at (be w v) post w (length_be w v)) ∙ be_back w v h

place_here : (pre : List ℕ) (at : ℕ) (vs : List ℕ) → length pre ≡ at → (n i : ℕ) → i < n → get_or vs i 0 < 65536
    → (post : List ℕ) → number_at (pre ++ (places n vs ++ post)) (at + 2 * i) 2 ≡ get_or vs i 0
unfolding places
place_here pre at vs l zero i h b post = absurd (omega arith)
place_here pre at vs l (suc n) i h b post =
    let w = be 2 (get_or vs n 0) in
    let P : List ℕ → Type 0 = λ ys. number_at (pre ++ ys) (at + 2 * i) 2 ≡ get_or vs i 0 in
    subst P (sym (append_assoc (places n vs) w post))
    (⊎_elim
    (λ (e : i ≡ n).
    let m : length (pre ++ places n vs) ≡ at + 2 * i = length-append pre (places n vs) ∙ omega (arith, length_places n vs) in
    let b2 : get_or vs n 0 < 256 ^ 2 = rw (← e) b in
    let q = number_here (pre ++ places n vs) post (at + 2 * i) 2 (get_or vs n 0) m b2 in
    let r = rw append_assoc at q in
    r ∙ ap (λ k. get_or vs k 0) (sym e))
    (λ ne. place_here pre at vs l n i (omega arith) b (w ++ post))
    (cases_eq i n))

-- the columns of an image

pub identifier_at : (c : Values) (i : ℕ) → i < 32 → get_or (identifiers c) i 0 < 65536
    → number_at (image_of c) (12 + 2 * i) 2 ≡ get_or (identifiers c) i 0
unfolding image_of
identifier_at c i h b =
    let ids = places 32 (identifiers c) in
    let hzs = places 32 (frequencies c) in
    ap (λ ys. number_at ys (12 + 2 * i) 2) (append_assoc (fields_of c) ids hzs)
    ∙ place_here (fields_of c) 12 (identifiers c) (length_fields c) 32 i h b hzs

pub frequency_at : (c : Values) (i : ℕ) → i < 32 → get_or (frequencies c) i 0 < 65536
    → number_at (image_of c) (76 + 2 * i) 2 ≡ get_or (frequencies c) i 0
unfolding image_of
frequency_at c i h b =
    let ids = places 32 (identifiers c) in
    let hzs = places 32 (frequencies c) in
    ap (λ ys. number_at (fields_of c ++ ids ++ ys) (76 + 2 * i) 2) (sym (append-nil hzs))
    ∙ place_here (fields_of c ++ ids) 76 (frequencies c) (length_front c) 32 i h b []

module _ (c : Values) (f : Fits c) where
  entry_at_lem : (i : ℕ) → i < length c.entries → entry_at (image_of c) i ≡ get_or c.entries i (entry 0 0)
  entry_at_lem i h =
      let es = c.entries in
      let x = All-get_or Fit es i (entry 0 0) h f.each in
      let lt : i < 32 = omega (arith, f.few) in
      let id : get_or (identifiers c) i 0 ≡ (get_or es i (entry 0 0)).identifier = get_or-map (λ e. e.identifier) es i (entry 0 0) 0 h in
      let hz : get_or (frequencies c) i 0 ≡ (get_or es i (entry 0 0)).frequency = get_or-map (λ e. e.frequency) es i (entry 0 0) 0 h in
      let at1 = identifier_at c i lt (omega (arith, x.0, id)) ∙ id in
      let at2 = frequency_at c i lt (omega (arith, x.1, hz)) ∙ hz in
      λ t. entry (at1 t) (at2 t)

  entries_read : (n : ℕ) → n ≤ length c.entries → entries_at (image_of c) n ≡ take n c.entries
  unfolding entries_at
  entries_read zero h = refl
  entries_read (suc n) h =
      ap (λ es. es ++ (entry_at (image_of c) n ∷ [])) (entries_read n (omega arith))
      ∙ ap (λ e. take n c.entries ++ (e ∷ [])) (entry_at_lem n (omega arith))
      ∙ sym (take_more c.entries n (entry 0 0) (omega arith))
      ∙ ap (λ k. take k c.entries) (add-one n)

  -- the fields compute to the bytes of their numbers
  read_image : read_of c.product (image_of c) ≡ c
  unfolding read_of image_of fields_of
  read_image =
      let n : ℕ = length c.entries in
      let es : entries_at (image_of c) (number_at (image_of c) 1 1) ≡ c.entries =
      ap (entries_at (image_of c)) (be_back 1 n (omega (arith, f.few)))
      ∙ entries_read n (omega arith) ∙ take_all n c.entries (omega arith) in
      let b : number_at (image_of c) 2 1 ≡ c.baud = be_back 1 c.baud f.baud in
      let p : number_at (image_of c) 3 1 ≡ c.profile = be_back 1 c.profile f.profile in
      let m : number_at (image_of c) 4 2 ≡ c.error_mode = be_back 2 c.error_mode f.error_mode in
      let l : number_at (image_of c) 6 2 ≡ c.location = be_back 2 c.location f.location in
      let g : number_at (image_of c) 8 4 ≡ c.flags = be_back 4 c.flags (omega (arith, f.flags)) in
      λ t. record { product = c.product; baud = b t; profile = p t; error_mode = m t; location = l t; flags = g t; entries = es t }

-- ---- what is loaded

module _ (p : Product) (xs : List ℕ) where
  pub load_some : valid (read_of p xs) ≡ true → image_of (read_of p xs) ≡ xs → load_of p xs ≡ Some (read_of p xs)
  unfolding load_of
  load_some v e =
      cond-true (valid (read_of p xs) && bytes_eq (image_of (read_of p xs)) xs) (Some (read_of p xs)) None
      (and_from _ _ v ((bytes_eq-Decides (image_of (read_of p xs)) xs).1 e))

  pub load_none : (valid (read_of p xs) ≡ true → image_of (read_of p xs) ≡ xs → ⊥) → load_of p xs ≡ None
  unfolding load_of
  load_none wrong =
      let d = read_of p xs in
      let t = valid d && bytes_eq (image_of d) xs in
      ⊎_elim
      (λ (y : t ≡ true).
      let a = and_parts (valid d) (bytes_eq (image_of d) xs) y in
      absurd (wrong a.0 ((bytes_eq-Decides (image_of d) xs).0 a.1)))
      (λ (n : t ≡ false). cond-false t (Some d) None n)
      (cases_Bool t)

-- what is stored is loaded
back : (p : Product) (c : Values) (xs : List ℕ) → ImageOf p c xs → load_of p xs ≡ Some c
back p c xs s =
    let r : read_of p xs ≡ c = ap (λ q. read_of q xs) (sym s.product) ∙ ap (read_of c.product) s.image ∙ read_image c (fits c s.valid) in
    load_some p xs (ap valid r ∙ s.valid) (ap image_of r ∙ sym s.image) ∙ ap Some r

-- what the bytes spell out, if valid and imaged so, is stored in them
read_stored : (p : Product) (xs : List ℕ) → valid (read_of p xs) ≡ true → xs ≡ image_of (read_of p xs) → ImageOf p (read_of p xs) xs
unfolding read_of
read_stored p xs v e = record { product = refl; valid = v; image = e }

-- and nothing else is
exact : (p : Product) (c : Values) (xs : List ℕ) → load_of p xs ≡ Some c → ImageOf p c xs
unfolding load_of
exact p c xs e =
    let d = read_of p xs in
    let t = valid d && bytes_eq (image_of d) xs in
    ⊎_elim
    (λ (y : t ≡ true).
    let a = and_parts (valid d) (bytes_eq (image_of d) xs) y in
    let s : Some d ≡ Some c = sym (cond-true t (Some d) None y) ∙ e in
    let dc : d ≡ c = cc in
    subst (λ k. ImageOf p k xs) dc (read_stored p xs a.0 (sym ((bytes_eq-Decides (image_of d) xs).0 a.1))))
    (λ (n : t ≡ false). absurd (none_not_some c (sym (cond-false t (Some d) None n) ∙ e)))
    (cases_Bool t)

pub stored_said : StoredSaid
stored_said = record {
  size = length_image;
  bytes = bytes_image;
  back = back;
  exact = exact;
  none = λ p xs n c s. some_not_none c (sym (back p c xs s) ∙ n);
  is_none = λ p xs wrong. load_none p xs (λ v e. wrong (read_of p xs) (read_stored p xs v (sym e)));
}
