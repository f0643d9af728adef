-- What load and save of a page answer and leave, by the used slots.
use Rattle.std.proofs.Common.{◌≡◌, ℕ, ◌+◌, ◌-◌, ◌<◌, List, length, Some, None, sym, refl, ap, ◌∙◌, arith}
use Rattle.std.proofs.lemmas.Bool.{eq-eqb, ne_eqb}
use Rattle.store.specs.Meaning.{image_size, held_after, left_after}
use Rattle.store.specs.Slots.{slots, image_at, used, held_in, left_in, end_marked, filled, saved, bytes_after}
use Rattle.store.proofs.Meanings.{accepted_held, accepted_left, accepted_memory}
use Rattle.store.proofs.Writes.{slots_saved, used_saved, image_saved}

pub held_none : (bs : List ℕ) → used bs ≡ 0 → held_in bs ≡ None
unfolding held_in
held_none bs e = rw (eq-eqb (used bs) 0 e) refl

pub held_last : (bs : List ℕ) → (used bs ≡ 0 → ⊥) → held_in bs ≡ Some (image_at bs (used bs - 1))
unfolding held_in
held_last bs ne = rw (ne_eqb (used bs) 0 ne) refl

-- a save with a slot left
module _ (xs bs : List ℕ) (room : used bs < slots bs) (long : length xs ≡ image_size) where
  more : 0 < left_in bs
  more = omega arith

  pub saved_held : held_in (saved xs bs) ≡ held_after xs (left_in bs) (held_in bs)
  saved_held =
      let u = used_saved xs bs room long in
      let last : used (saved xs bs) - 1 ≡ used bs = omega arith in
      held_last (saved xs bs) (λ e. omega arith)
      ∙ (ap Some (ap (image_at (saved xs bs)) last ∙ image_saved xs bs room long) ∙ sym (accepted_held xs (left_in bs) long more (held_in bs)))

  pub saved_left : left_in (saved xs bs) ≡ left_after xs (left_in bs)
  saved_left =
      let u = used_saved xs bs room long in
      let s = slots_saved xs bs room long in
      let fewer : left_in (saved xs bs) ≡ left_in bs - 1 = omega arith in
      fewer ∙ sym (accepted_left xs (left_in bs) long more)

  pub saved_bytes : saved xs bs ≡ bytes_after xs bs
  saved_bytes = sym (accepted_memory xs (left_in bs) long more saved bs)

-- the mark behind the slot and then the slot, as the code writes them
pub saved_by_steps : (xs bs ys zs : List ℕ) (u : ℕ) → u ≡ used bs → ys ≡ end_marked bs (u + 1) → zs ≡ filled ys u xs → zs ≡ saved xs bs
unfolding saved
saved_by_steps xs bs ys zs u e f g = g ∙ (ap (λ y. filled y u xs) f ∙ ap (λ v. filled (end_marked bs (v + 1)) v xs) e)
