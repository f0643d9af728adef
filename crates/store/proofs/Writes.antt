-- What a save leaves in each slot, and that bytes in no slot stay.
use Rattle.std.proofs.Common.{◌≡◌, ℕ, ◌+◌, ◌-◌, ◌*◌, ◌/◌, ◌<◌, ◌≤◌, ltb, List, length, get_or, drop, set, sym, refl, ap, ◌∙◌, subst, ⊎_elim, arith, rules}
use borrow.Rule.Slice.PartMut.{put_mid}
use Rattle.std.proofs.lemmas.List.{places, same_lists, length-set, length-take, length-drop, get_or-set_same, get_or-set_other, get_or-take, get_or-drop}
use Rattle.std.proofs.lemmas.Bool.{cond_both, ltb-true, ltb-false, cases_eq, cases_lt}
use Rattle.store.specs.Meaning.{image_size}
use Rattle.store.specs.Slots.{slot_size, slots, mark_at, image_at, used, end_marked, filled, saved, rest}
use Rattle.store.proofs.Runs.{used_run, used_only}

module _ (bs : List ℕ) (k : ℕ) (xs : List ℕ) (room : slot_size * k + slot_size ≤ length bs) (long : length xs ≡ image_size) where
  length_filled : length (filled bs k xs) ≡ length bs
  length_filled = search (rules, places)

  filled_below : (i : ℕ) → i < slot_size * k → get_or (filled bs k xs) i 0 ≡ get_or bs i 0
  filled_below i h = grind (arith, places)

  filled_mark : mark_at (filled bs k xs) k ≡ 0
  filled_mark = grind (arith, places)

  filled_above : (i d : ℕ) → slot_size * k + slot_size ≤ i → get_or (filled bs k xs) i d ≡ get_or bs i d
  filled_above i d h = grind (arith, places)

  filled_in : (j d : ℕ) → j < image_size → get_or (filled bs k xs) (slot_size * k + 1 + j) d ≡ get_or xs j d
  filled_in j d h = grind (arith, places)

  filled_image : image_at (filled bs k xs) k ≡ xs
  filled_image =
      let start = slot_size * k + 1 in
      let l : length (image_at (filled bs k xs) k) ≡ length xs =
      omega (arith, length-take image_size (drop start (filled bs k xs)), length-drop start (filled bs k xs), length_filled) in
      same_lists _ _ l (λ j d h.
      let i : j < image_size = omega arith in
      get_or-take image_size (drop start (filled bs k xs)) j d i ∙ (get_or-drop start (filled bs k xs) j d ∙ filled_in j d i))

  -- the image copied into its part of the slot, and then the mark
  pub filled_by_copy :
      (ys : List ℕ) → ys ≡ xs
      → set (put_mid (slot_size * k + 1) (slot_size * k + slot_size - (slot_size * k + 1)) bs ys) (slot_size * k) 0 ≡ filled bs k xs
  filled_by_copy ys e =
      let l : length ys ≡ image_size = omega (arith, ap length e) in
      same_lists _ _ (search (rules, places)) (λ j d h. grind (arith, places, get_or-set_same, cases_eq j (slot_size * k), e))

length_end_marked : (bs : List ℕ) (j : ℕ) → length (end_marked bs j) ≡ length bs
length_end_marked bs j =
    cond_both (ltb j (slots bs)) (set bs (slot_size * j) 0xFF) bs (λ x. length x ≡ length bs) (λ _. length-set bs (slot_size * j) 0xFF) (λ _. refl)

end_marked_other : (bs : List ℕ) (j i d : ℕ) → (j < slots bs → i ≡ slot_size * j → ⊥) → get_or (end_marked bs j) i d ≡ get_or bs i d
end_marked_other bs j i d ne =
    cond_both (ltb j (slots bs)) (set bs (slot_size * j) 0xFF) bs (λ x. get_or x i d ≡ get_or bs i d)
    (λ e. get_or-set_other bs (slot_size * j) i 0xFF d (ne (ltb-true j (slots bs) e))) (λ _. refl)

end_marked_mark : (bs : List ℕ) (j : ℕ) → j < slots bs → mark_at (end_marked bs j) j ≡ 0xFF
end_marked_mark bs j h =
    cond_both (ltb j (slots bs)) (set bs (slot_size * j) 0xFF) bs (λ x. mark_at x j ≡ 0xFF)
    (λ _. get_or-set_same bs (slot_size * j) 0xFF 0 (omega arith)) (λ e. absurd (omega (arith, ltb-false j (slots bs) e)))

-- a save with a slot left
module _ (xs bs : List ℕ) (room : used bs < slots bs) (long : length xs ≡ image_size) where
  abbrev marked : List ℕ
  marked = end_marked bs (used bs + 1)

  fits : slot_size * used bs + slot_size ≤ length marked
  fits = omega (arith, length_end_marked bs (used bs + 1))

  length_saved : length (saved xs bs) ≡ length bs
  unfolding saved
  length_saved = length_filled marked (used bs) xs fits long ∙ length_end_marked bs (used bs + 1)

  pub slots_saved : slots (saved xs bs) ≡ slots bs
  slots_saved = ap (λ n. n / slot_size) length_saved

  -- the used slots stay used, the next is used too, and the marked ends the run
  pub used_saved : used (saved xs bs) ≡ used bs + 1
  unfolding saved
  used_saved =
      let e = slots_saved in
      sym (used_only (saved xs bs) (used bs + 1) (record {
        within = omega arith;
        marked = λ k h. ⊎_elim
            (λ l.
            filled_below marked (used bs) xs fits long (slot_size * k) (omega arith)
            ∙ (end_marked_other bs (used bs + 1) (slot_size * k) 0 (λ m z. omega arith) ∙ (used_run bs).marked k l))
            (λ l.
            let q : used bs ≡ k = omega arith in
            let P : ℕ → Type 0 = λ n. mark_at (saved xs bs) n ≡ 0 in
            subst P q (filled_mark marked (used bs) xs fits long))
            (cases_lt k (used bs));
        ends = λ h z. omega (
          arith,
          z,
          filled_above marked (used bs) xs fits long (slot_size * (used bs + 1)) 0 (omega arith),
          end_marked_mark bs (used bs + 1) (omega arith),
        );
      }))

  pub image_saved : image_at (saved xs bs) (used bs) ≡ xs
  unfolding saved
  image_saved = filled_image marked (used bs) xs fits long

  pub rest_saved : rest (saved xs bs) ≡ rest bs
  unfolding saved
  rest_saved =
      let e = slots_saved in
      let l : length (rest (saved xs bs)) ≡ length (rest bs) =
      omega (arith, length-drop (slot_size * slots (saved xs bs)) (saved xs bs), length-drop (slot_size * slots bs) bs, length_saved) in
      same_lists _ _ l (λ j d h.
      get_or-drop (slot_size * slots (saved xs bs)) (saved xs bs) j d
      ∙ (ap (λ n. get_or (saved xs bs) (slot_size * n + j) d) e
      ∙ (filled_above marked (used bs) xs fits long (slot_size * slots bs + j) d (omega arith)
      ∙ (end_marked_other bs (used bs + 1) (slot_size * slots bs + j) d (λ m z. omega arith)
      ∙ sym (get_or-drop (slot_size * slots bs) bs j d)))))
