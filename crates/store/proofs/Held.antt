-- What memory in slots holds is an image or none.
use Rattle.std.proofs.Common.{◌≡◌, ℕ, zero, suc, ◌+◌, ◌-◌, ◌*◌, ◌<◌, ◌≤◌, eqb, List, length, drop, Some, None, refl, ap, arith}
use Rattle.std.specs.Simd.{first_chunks}
use Rattle.std.proofs.lemmas.List.{length-take, length-drop}
use Rattle.std.proofs.lemmas.List.Sums.{prefix_len-le-length}
use Rattle.std.proofs.lemmas.Bool.{eqb-false, cond_both}
use Rattle.store.specs.Meaning.{image_size, ImageOrNone}
use Rattle.store.specs.Slots.{slot_size, slots, image_at, slots_of, is_used, used, held_in}

pub length_cut : (n k : ℕ) (xs : List ℕ) → length (first_chunks n k xs) ≡ k
length_cut n zero xs = refl
length_cut n (suc k) xs = ap suc (length_cut n k (drop n xs))

pub used_within : (bs : List ℕ) → used bs ≤ slots bs
unfolding used
used_within bs = omega (arith, prefix_len-le-length is_used (slots_of bs), length_cut slot_size (slots bs) bs)

-- a whole slot has a whole image
length_image : (bs : List ℕ) (k : ℕ) → k < slots bs → length (image_at bs k) ≡ image_size
length_image bs k h = omega (arith, length-take image_size (drop (slot_size * k + 1) bs), length-drop (slot_size * k + 1) bs)

pub image_or_none_in : (bs : List ℕ) → ImageOrNone (held_in bs)
unfolding held_in
image_or_none_in bs =
    cond_both (eqb (used bs) 0) None (Some (image_at bs (used bs - 1))) ImageOrNone (λ _ xs h. absurd (grind arith)) (λ e xs h.
    let last : length (image_at bs (used bs - 1)) ≡ image_size = length_image bs (used bs - 1) (omega (arith, used_within bs, eqb-false (used bs) 0 e)) in
    cc)
