-- The places of a column: those that are written, then those that no entry has.
use Rattle.std.proofs.Common.{◌≡◌, ℕ, zero, suc, ◌+◌, ◌-◌, ◌*◌, ◌<◌, ◌≤◌, List, [], ◌∷◌, ◌++◌, length, get_or, take, drop, sym, refl, ap, ◌∙◌, append_assoc, append-nil, div-one, mod-eq_of_lt, ◌/◌, ◌%◌, arith}
use borrow.Rule.Slice.PartMut.{put_mid}
use Rattle.std.proofs.lemmas.List.{length-append, length-drop, get_or_append_left, get_or-drop, drop_all, take_at, drop_at}
use Rattle.xbus.specs.Numbers.{be}
use Rattle.settings.specs.Image.{places}

pub length_places : (n : ℕ) (vs : List ℕ) → length (places n vs) ≡ 2 * n
unfolding places
length_places zero vs = refl
length_places (suc n) vs = length-append (places n vs) (be 2 (get_or vs n 0)) ∙ omega (arith, length_places n vs)

places_split : (i k : ℕ) (vs : List ℕ) → places (i + k) vs ≡ places i vs ++ places k (drop i vs)
unfolding places
places_split i zero vs = let e : i + 0 ≡ i = omega arith in rw (e, append-nil)
places_split i (suc k) vs =
    let e : i + suc k ≡ suc (i + k) = omega arith in
    rw (e, places_split i k vs, append_assoc, get_or-drop)

same_places : (n : ℕ) (vs ws : List ℕ) → ((k : ℕ) → k < n → get_or vs k 0 ≡ get_or ws k 0) → places n vs ≡ places n ws
unfolding places
same_places zero vs ws h = refl
same_places (suc n) vs ws h = λ t. same_places n vs ws (λ k l. h k (omega arith)) t ++ be 2 (h n (omega arith) t)

module _ (i k : ℕ) (vs : List ℕ) (l : length vs ≡ i) where
  unwritten : places (i + (1 + k)) vs ≡ places i vs ++ (be 2 0 ++ places k [])
  unfolding places
  unwritten =
      places_split i (1 + k) vs ∙ ap (λ ws. places i vs ++ places (1 + k) ws) (drop_all i vs (omega arith))
      ∙ ap (λ ys. places i vs ++ ys) (places_split 1 k [])

  written : (v : ℕ) → places (i + (1 + k)) (vs ++ (v ∷ [])) ≡ places i vs ++ (be 2 v ++ places k [])
  unfolding places
  written v =
      places_split i (1 + k) (vs ++ (v ∷ []))
      ∙ ap (λ ws. places i (vs ++ (v ∷ [])) ++ places (1 + k) ws) (drop_at vs (v ∷ []) i l)
      ∙ ap (λ ys. places i (vs ++ (v ∷ [])) ++ ys) (places_split 1 k (v ∷ []))
      ∙ ap (λ ps. ps ++ (be 2 v ++ places k []))
      (same_places i (vs ++ (v ∷ [])) vs (λ j b. get_or_append_left vs (v ∷ []) 0 j (omega arith)))

  -- one more place is written
  pub place_more : (n v : ℕ) (out mid : List ℕ) → i + (1 + k) ≡ n → mid ≡ be 2 v → out ≡ places n vs
      → take (2 * i) out ++ (mid ++ drop (2 * i + 2 - 2 * i) (drop (2 * i) out)) ≡ places n (vs ++ (v ∷ []))
  place_more n v out mid size m e =
      let two : 2 * i + 2 - 2 * i ≡ 2 = omega arith in
      let o : out ≡ places i vs ++ (be 2 0 ++ places k []) = e ∙ ap (λ j. places j vs) (sym size) ∙ unwritten in
      let w = length_places i vs in
      let rest : drop 2 (be 2 0 ++ places k []) ≡ places k [] = refl in
      rw (m, two, o, take_at (places i vs) (be 2 0 ++ places k []) (2 * i) w, drop_at (places i vs) (be 2 0 ++ places k []) (2 * i) w, rest)
      (sym (written v) ∙ ap (λ j. places j (vs ++ (v ∷ []))) size)

-- ---- the image, part by part

pub fields_are : (n b p m l g : ℕ) → n < 256 → b < 256 → p < 256
    → 10 ∷ n ∷ b ∷ p ∷ m / 256 % 256 ∷ m % 256 ∷ l / 256 % 256 ∷ l % 256 ∷ g / 16777216 % 256 ∷ g / 65536 % 256 ∷ g / 256 % 256 ∷ g % 256 ∷ []
    ≡ be 1 10 ++ be 1 n ++ be 1 b ++ be 1 p ++ be 2 m ++ be 2 l ++ be 4 g
fields_are n b p m l g h i j = simp (div-one, mod-eq_of_lt h, mod-eq_of_lt i, mod-eq_of_lt j)

module _ (a b z : List ℕ) (la : length a ≡ 12) (lb : length b ≡ 64) (lz : length z ≡ 128) where
  two_parts : put_mid 12 64 (a ++ z) b ≡ (a ++ b) ++ drop 64 z
  two_parts = rw (take_at a z 12 la, drop_at a z 12 la) (sym (append_assoc a b (drop 64 z)))

  lab : length (a ++ b) ≡ 76
  lab = length-append a b ∙ omega arith

  -- after two parts there is room for the third
  pub room_left : 140 ≤ length (put_mid 12 64 (a ++ z) b)
  room_left = omega (arith, ap length two_parts, length-append (a ++ b) (drop 64 z), lab, length-drop 64 z)

  pub parts_written : (d : List ℕ) → length d ≡ 64 → put_mid 76 64 (put_mid 12 64 (a ++ z) b) d ≡ (a ++ b) ++ d
  parts_written d ld =
      let none : drop 64 (drop 64 z) ≡ [] = drop_all 64 (drop 64 z) (omega (arith, length-drop 64 z)) in
      rw (two_parts, take_at (a ++ b) (drop 64 z) 76 lab, drop_at (a ++ b) (drop 64 z) 76 lab, none, append-nil)
