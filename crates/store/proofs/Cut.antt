-- Each slot that the library cuts is a mark with an image behind it.
use Rattle.std.proofs.Common.{◌≡◌, ℕ, zero, suc, ◌+◌, ◌*◌, ◌<◌, List, [], get_or, take, drop, refl, ap, ◌∙◌, arith}
use Rattle.std.specs.Simd.{first_chunks}
use Rattle.std.proofs.lemmas.List.{get_or-take, get_or-drop, drop-drop, drop-take}
use Rattle.store.specs.Meaning.{image_size}
use Rattle.store.specs.Slots.{slot_size, mark_at, image_at}

abbrev pub slot_at : List ℕ → ℕ → List ℕ
slot_at bs k = take slot_size (drop (slot_size * k) bs)

pub get_cut : (k i : ℕ) (xs : List ℕ) → i < k → get_or (first_chunks slot_size k xs) i [] ≡ slot_at xs i
get_cut zero i xs h = absurd (omega arith)
get_cut (suc k) zero xs h = refl
get_cut (suc k) (suc i) xs h =
    let at : slot_size + slot_size * i ≡ slot_size * suc i = omega arith in
    get_cut k i (drop slot_size xs) (omega arith)
    ∙ ap (take slot_size) (drop-drop (slot_size * i) slot_size xs ∙ ap (λ j. drop j xs) at)

-- behind the mark of a slot stands its image
pub image_behind : (bs : List ℕ) (k : ℕ) → drop 1 (slot_at bs k) ≡ image_at bs k
image_behind bs k = drop-take 1 image_size (drop (slot_size * k) bs) ∙ ap (take image_size) (drop-drop 1 (slot_size * k) bs)

pub mark_in_front : (bs : List ℕ) (k : ℕ) → get_or (slot_at bs k) 0 0 ≡ mark_at bs k
mark_in_front bs k =
    let at : slot_size * k + 0 ≡ slot_size * k = omega arith in
    get_or-take slot_size (drop (slot_size * k) bs) 0 0 (omega arith) ∙ (get_or-drop (slot_size * k) bs 0 0 ∙ ap (λ j. get_or bs j 0) at)
