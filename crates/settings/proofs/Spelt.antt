-- Numbers and entries as they are read from bytes.
use Rattle.std.proofs.Common.{◌≡◌, ℕ, zero, suc, ◌+◌, ◌-◌, ◌*◌, ◌/◌, ◌<◌, ◌≤◌, Bool, cond, ltb, List, [], ◌∷◌, ◌++◌, length, get_or, take, drop, sym, refl, ap, ◌∙◌, add-one, arith}
use Rattle.std.proofs.lemmas.List.{length-take-le, length-drop, length_push, at_drop_more, drop-drop, drop-take, take-take}
use Rattle.std.specs.Simd.{first_chunks}
use Rattle.xbus.specs.Numbers.{number_of}
use Rattle.mti.specs.declared.product.Product.{Product}
use Rattle.settings.specs.declared.record.Entry.{Entry}
use Rattle.settings.specs.Values.{entry}
use Rattle.settings.specs.Image.{number_at, entry_at, entries_at, read_of}
use Rattle.settings.proofs.Pushes.{pushed}

-- ---- columns of numbers of two bytes

pair_number : (ys : List ℕ) → length ys ≡ 2 → get_or ys 0 0 * 256 + get_or ys 1 0 ≡ number_of ys
pair_number [] e = absurd (omega arith)
pair_number (a ∷ []) e = absurd (omega arith)
pair_number (a ∷ b ∷ []) e = omega arith
pair_number (a ∷ b ∷ c ∷ ys) e = absurd (omega arith)

cut_pair : (k i : ℕ) (xs : List ℕ) → i < k → get_or (first_chunks 2 k xs) i [] ≡ take 2 (drop (2 * i) xs)
cut_pair zero i xs h = absurd (omega arith)
cut_pair (suc k) zero xs h = refl
cut_pair (suc k) (suc i) xs h =
    let at : 2 + 2 * i ≡ 2 * suc i = omega arith in
    cut_pair k i (drop 2 xs) (omega arith) ∙ ap (take 2) (drop-drop (2 * i) 2 xs ∙ ap (λ j. drop j xs) at)

-- a column of 64 bytes from a place on, cut into pairs
module _ (xs : List ℕ) (at : ℕ) (pairs : List (List ℕ)) (room : at + 64 ≤ length xs) (long : length pairs ≡ length (take 64 (drop at xs)) / 2) where
  pub column_long : length pairs ≡ 32
  column_long = let n : length (take 64 (drop at xs)) ≡ 64 = length-take-le 64 (drop at xs) (omega (arith, length-drop at xs)) in omega arith

  pub column_number : (i : ℕ) (pair : List ℕ) → pairs ≡ first_chunks 2 (length (take 64 (drop at xs)) / 2) (take 64 (drop at xs)) → i < 32
      → pair ≡ get_or pairs i [] → get_or pair 0 0 * 256 + get_or pair 1 0 ≡ number_at xs (at + 2 * i) 2
  column_number i pair cut few is =
      let split : 64 ≡ 2 * i + (64 - 2 * i) = omega arith in
      let here : pair ≡ take 2 (drop (at + 2 * i) xs) =
      is ∙ ap (λ ps. get_or ps i []) cut ∙ cut_pair (length (take 64 (drop at xs)) / 2) i (take 64 (drop at xs)) (omega (arith, column_long))
      ∙ ap (λ n. take 2 (drop (2 * i) (take n (drop at xs)))) split
      ∙ ap (take 2) (drop-take (2 * i) (64 - 2 * i) (drop at xs))
      ∙ take-take 2 (64 - 2 * i) (drop (2 * i) (drop at xs)) (omega arith)
      ∙ ap (take 2) (drop-drop (2 * i) at xs) in
      pair_number pair (ap length here ∙ length-take-le 2 (drop (at + 2 * i) xs) (omega (arith, length-drop (at + 2 * i) xs)))
      ∙ ap number_of here

pub length_entries : (xs : List ℕ) (n : ℕ) → length (entries_at xs n) ≡ n
unfolding entries_at
length_entries xs zero = refl
length_entries xs (suc n) = length_push (entries_at xs n) (entry_at xs n) ∙ omega (arith, length_entries xs n)

-- a number of one byte is the byte
pub byte_at : (xs : List ℕ) (at : ℕ) → at < length xs → get_or xs at 0 ≡ number_at xs at 1
byte_at xs at h =
    let e : number_at xs at 1 ≡ get_or xs at 0 * 1 + 0 = at_drop_more (λ ys. number_of (take 1 ys)) xs at 0 h in
    omega (arith, e)

-- numbers of two and of four bytes

pub two_at : (xs : List ℕ) (at : ℕ) → at + 1 < length xs → get_or xs at 0 * 256 + get_or xs (at + 1) 0 ≡ number_at xs at 2
two_at xs at h =
    let a = at_drop_more (λ ys. number_of (take 2 ys)) xs at 0 (omega arith) in
    let b = at_drop_more (λ ys. number_of (take 2 (get_or xs at 0 ∷ ys))) xs (at + 1) 0 h in
    sym (a ∙ b ∙ omega arith)

pub four_at : (xs : List ℕ) (at : ℕ) → at + 3 < length xs
    → get_or xs at 0 * 16777216 + get_or xs (at + 1) 0 * 65536 + get_or xs (at + 2) 0 * 256 + get_or xs (at + 3) 0 ≡ number_at xs at 4
four_at xs at h =
    let w = get_or xs at 0 in
    let x = get_or xs (at + 1) 0 in
    let y = get_or xs (at + 2) 0 in
    let z = get_or xs (at + 3) 0 in
    let two : at + 1 + 1 ≡ at + 2 = omega arith in
    let three : at + 2 + 1 ≡ at + 3 = omega arith in
    let a = at_drop_more (λ ys. number_of (take 4 ys)) xs at 0 (omega arith) in
    let b = at_drop_more (λ ys. number_of (take 4 (w ∷ ys))) xs (at + 1) 0 (omega arith) in
    let c = at_drop_more (λ ys. number_of (take 4 (w ∷ x ∷ ys))) xs (at + 2) 0 (omega arith) in
    let d = at_drop_more (λ ys. number_of (take 4 (w ∷ x ∷ y ∷ ys))) xs (at + 3) 0 h in
    let all : number_of (take 4 (drop at xs)) ≡ number_of (w ∷ x ∷ y ∷ z ∷ []) =
    a ∙ b ∙ ap (λ j. number_of (take 4 (w ∷ x ∷ drop j xs))) two ∙ c ∙ ap (λ j. number_of (take 4 (w ∷ x ∷ y ∷ drop j xs))) three ∙ d in
    omega (arith, all)

-- the count of what is read
pub count_read : (p : Product) (xs : List ℕ) → length (read_of p xs).entries ≡ number_at xs 1 1
unfolding read_of
count_read p xs = length_entries xs (number_at xs 1 1)

entries_more : (xs : List ℕ) (i : ℕ) → entries_at xs (i + 1) ≡ entries_at xs i ++ (entry_at xs i ∷ [])
unfolding entries_at
entries_more xs i = rw add-one

-- one more entry is read and pushed
pub entry_read : (xs : List ℕ) (i : ℕ) (old new : List Entry) (id hz : ℕ) → id ≡ number_at xs (12 + 2 * i) 2 → hz ≡ number_at xs (76 + 2 * i) 2
    → (r : Bool) → r ≡ ltb (length old) 32 → new ≡ cond r (old ++ (entry id hz ∷ [])) old → old ≡ entries_at xs i → i < 32
    → new ≡ entries_at xs (i + 1)
entry_read xs i old new id hz e f r is after inv room =
    pushed old new (entries_at xs i) (entry id hz) r is after inv (omega (arith, length_entries xs i))
    ∙ (λ t. entries_at xs i ++ (entry (e t) (f t) ∷ [])) ∙ sym (entries_more xs i)
