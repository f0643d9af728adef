-- The last of the used slots ends with the image that is held.
use Rattle.std.proofs.Common.{◌≡◌, ℕ, ◌-◌, ◌*◌, ◌<◌, ◌≤◌, List, [], length, get_or, take, drop, Some, None, Option, Bor, sym, ap, ◌∙◌, ⊎_elim, arith}
use Rattle.std.specs.Array.{IsWholeChunk}
use Rattle.std.specs.List.{slice_get}
use Rattle.std.specs.Option.{option_copied, MatchOption}
use Rattle.std.proofs.lemmas.List.{get_or-take, length-take, length-drop}
use Rattle.std.proofs.lemmas.Option.{slice_get-get_or, slice_get_within}
use Rattle.std.proofs.lemmas.Bool.{cases_lt}
use Rattle.store.specs.Meaning.{image_size}
use Rattle.store.specs.Slots.{slot_size, slots, image_at, slots_of, used, held_in}
use Rattle.store.proofs.Held.{length_cut, used_within}
use Rattle.store.proofs.Calls.{held_none, held_last}
use Rattle.store.proofs.Cut.{slot_at, get_cut, image_behind}

chunk_is : (r : Option (Bor (List ℕ))) (s : List ℕ) → image_size ≤ length s
    → MatchOption r (length s < image_size) (λ y. (image_size ≤ length s) × IsWholeChunk (drop (length s - image_size) s) y.now image_size)
    → option_copied r ≡ Some (drop (length s - image_size) s)
chunk_is None s l h = absurd (omega arith)
chunk_is (Some y) s l h = ap Some h.1.same

-- where there is no last of the first u slots, none is used
pub none_held : (bs : List ℕ) (cut : List (List ℕ)) (u : ℕ) → cut ≡ slots_of bs → slice_get (take u cut) (length (take u cut) - 1) ≡ None
    → (0 < used bs → 0 < u) → held_in bs ≡ None
none_held bs cut u e h more =
    held_none bs
    (⊎_elim
    (λ m.
    let some : 0 < u = more m in
    let within : length (take u cut) - 1 < length (take u cut) =
    omega (arith, length-take u cut, ap length e ∙ length_cut slot_size (slots bs) bs, used_within bs) in
    let q : Some (get_or (take u cut) (length (take u cut) - 1) []) ≡ None =
    sym (slice_get-get_or (take u cut) (length (take u cut) - 1) [] within) ∙ h in
    absurd (grind arith))
    (λ l. omega arith)
    (cases_lt 0 (used bs)))

-- the last of the used slots
module _ (bs : List ℕ) (cut : List (List ℕ)) (u : ℕ) (n : u ≡ used bs) (e : cut ≡ slots_of bs) where
  abbrev last : Option (List ℕ)
  last = slice_get (take u cut) (length (take u cut) - 1)

  length_used : length (take u cut) ≡ u
  length_used = omega (arith, n, length-take u cut, ap length e ∙ length_cut slot_size (slots bs) bs, used_within bs)

  last_is : 0 < u → last ≡ Some (slot_at bs (u - 1))
  last_is m =
      let l = length_used in
      let at : length (take u cut) - 1 ≡ u - 1 = omega arith in
      slice_get-get_or (take u cut) (length (take u cut) - 1) [] (omega arith)
      ∙ ap Some (get_or-take u cut (length (take u cut) - 1) [] (omega arith)
      ∙ (ap (λ (c : List (List ℕ)). get_or c (length (take u cut) - 1) []) e
      ∙ (get_cut (slots bs) (length (take u cut) - 1) bs (omega (arith, n, used_within bs)) ∙ ap (slot_at bs) at)))

  pub some_held : (s : List ℕ) (r : Option (Bor (List ℕ))) → last ≡ Some s
      → MatchOption r (length s < image_size) (λ y. (image_size ≤ length s) × IsWholeChunk (drop (length s - image_size) s) y.now image_size)
      → option_copied r ≡ held_in bs
  some_held s r h k =
      let m : 0 < u = omega (arith, length_used, slice_get_within (take u cut) (length (take u cut) - 1) s h) in
      let f : Some (slot_at bs (u - 1)) ≡ Some s = sym (last_is m) ∙ h in
      let q : slot_at bs (u - 1) ≡ s = cc in
      let l : length s ≡ slot_size =
      omega (arith, n, ap length q, used_within bs, length-take slot_size (drop (slot_size * (u - 1)) bs), length-drop (slot_size * (u - 1)) bs) in
      let one : length s - image_size ≡ 1 = omega arith in
      chunk_is r s (omega arith) k
      ∙ (ap Some (ap (λ j. drop j s) one ∙ (ap (drop 1) (sym q) ∙ (image_behind bs (u - 1) ∙ ap (λ v. image_at bs (v - 1)) n)))
      ∙ sym (held_last bs (λ z. omega (arith, n))))
